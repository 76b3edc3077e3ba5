use Rattle.std.specs.Prelude.{◌≡◌, ◌≢◌, ℕ, ◌<◌, ◌==◌, true, false, List, [], ◌∷◌, ◌++◌, is_some, Option, None, Some, Ok}
use Rattle.std.specs.List.{list_any}
use Rattle.m161_cpu.specs.declared.processor.Outcome.{Outcome}
use Rattle.m161_cpu.specs.declared.uses.Via.{Via}
use Rattle.m161_machine.specs.declared.event.Event.{Event}
use Rattle.m161_machine.specs.declared.event.Event.TheVariants.{Step}
use Rattle.m161_machine.specs.Fetched.{fetched}
use Rattle.m161_machine.specs.State.{State, is_worn, next as result_of, processor_at}
use Rattle.m161_machine.specs.StoreHistory.{StoreState, live_state}
use Rattle.m161_audit.specs.Stale.{IsStale}
use Rattle.m161_judge.specs.Verdict.{HasSent, has_keys, is_stuck}
use Rattle.m161_states.specs.declared.verdict.EventVerdict.{EventVerdict}
use Rattle.m161_states.specs.declared.verdict.EventVerdict.TheVariants.{Stale, Reached, Conflict, Stuck, Output}
use Rattle.m161_states.specs.Question.{Question}
use Rattle.m161_states.specs.System.{Explored, event_of}
use Rattle.m161_states.specs.Verdicts.{verdict}
use Rattle.m161_states.specs.Run.{IsBehind}

-- The verdict of a run's last event, in the words of the judge.

-- an event is made, and ends a list of events: its outcome, and the state behind it
pub record Made : Type 0 where
  pub events : List Event
  pub before : StoreState
  pub event : Event
  pub outcome : Outcome
  pub behind : State

-- what is wrong at the last event, as the judge says it of the list that ends with it
abbrev pub IsWrong : Question → Made → EventVerdict → Type 0
IsWrong q m (Stale p address row) =
    (v : Via) × (v.address ≡ address) × (v.row ≡ row)
    × IsStale m.before q.goal.watches m.event p v
IsWrong q m (Reached p address) =
    (m.event ≡ Step p) × (is_some (fetched p (live_state m.before) m.outcome) ≡ true)
    × (address ≡ (processor_at p m.before.processors).pc)
    × (list_any (λ a. a == address) q.goal.never ≡ true)
IsWrong q m (Conflict conflict) =
    (m.behind.board.off ≡ true) × (m.behind.conflict ≡ Some conflict)
IsWrong q m Stuck =
    (is_stuck (has_keys q.goal.keys (m.events ++ m.event ∷ [])) m.behind ≡ true)
    × (HasSent q.goal m.behind → ⊥)
IsWrong q m Output =
    (q.goal.output ≢ None) × (m.behind.board.off ≡ true) × (HasSent q.goal m.behind → ⊥)

-- the order of the kinds
abbrev pub rank : EventVerdict → ℕ
rank (Stale p address row) = 0
rank (Reached p address) = 1
rank (Conflict conflict) = 2
rank Stuck = 3
rank Output = 4

-- the first kind that holds
abbrev pub IsFirstWrong : Question → Made → Option EventVerdict → Type 0
IsFirstWrong q m None = (v : EventVerdict) → IsWrong q m v → ⊥
IsFirstWrong q m (Some v) =
    IsWrong q m v × ((w : EventVerdict) → rank w < rank v → IsWrong q m w → ⊥)

-- the law: so is the verdict of an accepted event, unless the machine is worn
abbrev pub VerdictIsFirst : Type 0
VerdictIsFirst =
    (q : Question) (m : Made) (x : Explored) (n : ℕ) → IsBehind q m.events m.before x
    → is_worn m.before.made ≡ false → event_of q x n ≡ Some m.event
    → result_of (live_state m.before) m.event ≡ Ok (m.outcome, m.behind)
    → IsFirstWrong q m (verdict q x n)
