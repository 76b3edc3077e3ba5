use Rattle.std.specs.Prelude.{ℕ, ◌<◌, Bool, true, false, List, Option, None, Some}
use Rattle.m161_machine.specs.declared.event.Event.{Event}
use Rattle.m161_machine.specs.State.{State}
use Rattle.m161_judge.specs.declared.seen.Seen.{Seen}
use Rattle.m161_judge.specs.Verdict.{Criteria, IsStuckAfter, IsStuckBadly}

-- What was seen of a run's states.

-- the least number below n after which the run is stuck badly, if there is one
abbrev pub IsFirstBad : Criteria → State → List Event → ℕ → Option ℕ → Type 0
IsFirstBad goal s events n None = (k : ℕ) → k < n → IsStuckBadly goal s events k → ⊥
IsFirstBad goal s events n (Some first) =
    (first < n) × IsStuckBadly goal s events first
    × ((k : ℕ) → k < first → IsStuckBadly goal s events k → ⊥)

-- whether the run is stuck after fewer than n events
abbrev pub WasStuck : Criteria → State → List Event → ℕ → Bool → Type 0
WasStuck goal s events n false =
    (k : ℕ) (t : State) → k < n → IsStuckAfter goal s events k t → ⊥
WasStuck goal s events n true = (k : ℕ) × (t : State) × IsStuckAfter goal s events k t

-- what was seen after each number of events below n
abbrev pub HasSeen : Criteria → State → List Event → ℕ → Seen → Type 0
HasSeen goal s events n seen =
    IsFirstBad goal s events n seen.stuck × WasStuck goal s events n seen.was_stuck
