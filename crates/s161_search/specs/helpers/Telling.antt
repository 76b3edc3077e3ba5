use Rattle.std.specs.Prelude.{◌≡◌, ℕ, List, Option}
use Rattle.m161_machine.specs.declared.event.Event.{Event}
use Rattle.m161_machine.specs.State.{State}
use Rattle.m161_reach.specs.Told.{AsksEnds}
use Rattle.m161_shorten.specs.declared.judged.Judgement.{Judgement}
use Rattle.m161_states.specs.Question.{Question}
use Rattle.s161_command.specs.declared.task.SearchTask.{SearchTask}
use Rattle.s161_search.specs.Given.{Given, criteria_of}
use Rattle.s161_search.specs.Searches.{HasHang}
use Rattle.s161_search.specs.helpers.Begun.{BeginsAt}

-- What is asked of the states behind the runs of a search.

-- all its runs begin at this state, and this is asked of the states behind them
pub record Begins (given : Given) (s : State) (q : Question) : Type 0 where
  pub boots : BeginsAt given s
  pub asks : AsksEnds (criteria_of given) s q

-- whether a list of events hangs behind first ones, in each search with this number of states that begins so
abbrev pub HasHangFrom :
    State → Question → ℕ → Given → List Event → List Event → Option (Judgement ℕ) → Type 0
HasHangFrom s q few given first events verdict =
    (task : SearchTask) → task.hung ≡ few → Begins given s q → HasHang task given first events verdict
