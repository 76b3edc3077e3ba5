use Rattle.std.specs.Prelude.{◌≡◌, ◌≢◌, ℕ, ◌+◌, min, Bool, List, length, sum, take, All}
use Rattle.m161_machine.specs.declared.event.Entry.{Entry}
use Rattle.m161_machine.specs.State.{counts}
use Rattle.m161_machine.specs.History.{History, Start, IsReplay, boot_state}
use Rattle.m161_cause.specs.declared.cause.Cause.{Cause}
use Rattle.m161_cause.specs.declared.cause.Cause.TheVariants.{Swapped}
use Rattle.m161_threads.specs.Runs.{IsOfRun}
use Rattle.m161_threads.specs.Shares.{HasCount, NotedOnlyOff, SeatState}

-- what is kept of a machine before a run, to compare the machine after it with
pub record Past : Type 0 where
  pub start : Start
  pub log : List Entry
  pub made : ℕ
  pub counted : ℕ

abbrev pub past_of : History → Past
past_of h = record {
  start = h.start;
  log = h.log;
  made = h.state.made;
  counted = sum (counts h.state);
}

-- what each machine says of its log
pub record HasLog (h : History) : Type 0 where
  pub replay : IsReplay h
  pub boot : h.base.made ≡ 0 → h.base ≡ boot_state h.start
  pub number : h.state.made ≡ h.base.made + length h.log
  pub last : length h.log ≡ min h.start.conf.log h.state.made

-- the comparison of a machine with what was kept of another: it may be that one after this many
-- Steps
pub record IsLater (past : Past) (made : ℕ) (after : History) : Type 0 where
  pub start_is : after.start ≡ past.start
  pub events_made : after.state.made ≡ past.made + made
  pub counted : sum (counts after.state) ≡ past.counted + made
  pub whole : after.base.made ≡ 0 → take (length past.log) after.log ≡ past.log

-- how a run that began fails, by the comparison with what was kept before it
abbrev pub FailsLater : Past → Cause → History → Type 0
FailsLater past cause after =
    IsOfRun cause × IsReplay after × (cause ≢ Swapped → HasLog after × ((made : ℕ) × IsLater past made after))

-- the comparison after a run with what was kept before it
pub record IsChecked
    (past : Past) (seats : List SeatState) (made : List ℕ) (off : Bool)
    (after : History) : Type 0 where
  pub told : HasLog after
  pub later : IsLater past (sum made) after
  pub seats_are : All (HasCount after.state) seats
  pub noted : NotedOnlyOff after.state seats
  pub off_is : off ≡ after.state.board.off
