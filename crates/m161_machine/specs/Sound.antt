use Rattle.std.specs.Prelude.{◌≡◌, ◌≤◌, ◌^◌, min, true, length}
use Rattle.m161_machine.specs.Conf.{is_within_limits}
use Rattle.m161_machine.specs.State.{State, AreAllApart, CountUpTo}
use Rattle.m161_machine.specs.History.{History, IsLoaded, IsReached, IsReplay}

-- What the types of states and of machines keep.

-- what holds of every state that the code stores
pub record IsSound (s : State) : Type 0 where
  pub size_is : length s.processors ≡ s.board.processors
  pub few : s.board.processors ≤ 32
  pub small : length s.memory ≤ 2 ^ 29
  pub limits_hold : is_within_limits s.conf ≡ true
  -- so no count of Steps overflows
  pub counts : CountUpTo s.made s.processors
  pub apart : s.conf.strict ≡ true → AreAllApart s.processors
  pub unit_is : s.links.unit ≡ s.conf.link

-- what holds of every machine's history
pub record IsLawful (h : History) : Type 0 where
  pub replay : IsReplay h
  pub reached : IsReached h.start h.base
  pub is_loaded : IsLoaded h.start
  pub limits_hold : is_within_limits h.start.conf ≡ true
  pub conf_is : h.state.conf ≡ h.start.conf
  pub log_is_last : length h.log ≡ min h.start.conf.log h.state.made
  pub ram_is : length h.state.memory ≡ h.start.conf.ram
  pub size_is : length h.state.processors ≡ h.start.conf.processors
