use Rattle.std.specs.Prelude.{◌≡◌, ◌<◌, ℕ, Option, None, Some}
use Rattle.m161_machine.specs.State.{State}
use Rattle.m161_order.specs.declared.order.Order.{Order}
use Rattle.m161_reach.specs.Told.{AsksEnds}
use Rattle.m161_states.specs.Question.{Question}
use Rattle.m161_c.specs.declared.seeds.Tried.{Tried}
use Rattle.m161_c.specs.declared.seeds.WrongRun.{WrongRun}
use Rattle.m161_c.specs.helpers.Booting.{BeginsAt}
use Rattle.m161_c.specs.Seeds.{AreRight, Asked, IsToldRun, seeded}

-- A search by seeds before it is told.

-- all its runs begin at this state, and this is asked of the states behind them
pub record Begins (a : Asked) (s : State) (q : Question) : Type 0 where
  pub boots : BeginsAt a.file a.conf s
  pub asks : AsksEnds a.goal s q

-- none of the runs goes wrong; or the first that does
abbrev pub IsEnd : Asked → Order → ℕ → ℕ → Option WrongRun → Type 0
IsEnd a order count right None = right ≡ count
IsEnd a order count right (Some wrong) =
    (right < count) × IsToldRun a (seeded right order) wrong.run (Some wrong.told)

pub record IsTried (a : Asked) (order : Order) (count : ℕ) (tried : Tried) : Type 0 where
  pub before : AreRight a order tried.right tried.cut
  pub at_end : IsEnd a order count tried.right tried.wrong
