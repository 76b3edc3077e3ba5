use Rattle.std.specs.Prelude.{ℕ, ◌+◌, if◌then◌else◌, List, [], ◌∷◌, length, take, Option, None, Some, Result, Ok, Err}
use Rattle.m161_cpu.specs.declared.processor.Outcome.{Outcome}
use Rattle.m161_machine.specs.declared.event.Event.{Event}
use Rattle.m161_machine.specs.declared.event.Refusal.{Refusal}
use Rattle.m161_machine.specs.State.{State, next}
use Rattle.m161_refusals.specs.declared.refusals.Refusals.{Refusals}

-- The events of a list that a machine refuses before it is off. One that is refused changes nothing.

-- the state behind an event
abbrev pub state_behind : State → Result (Outcome × State) Refusal → State
state_behind s (Ok given) = given.1
state_behind s (Err why) = s

-- why an event is refused, if it is, and the machine is on
abbrev pub why_refused : State → Result (Outcome × State) Refusal → Option Refusal
why_refused s (Ok given) = None
why_refused s (Err why) = if s.board.off then None else Some why

abbrev pub with_refusal : ℕ → Option Refusal → List (ℕ × Refusal) → List (ℕ × Refusal)
with_refusal place None rest = rest
with_refusal place (Some why) rest = (place, why) ∷ rest

-- the events that are refused: the place of each, where that of the first event is given, and why
abbrev pub refusals_from : ℕ → State → List Event → List (ℕ × Refusal)
refusals_from place s [] = []
refusals_from place s (e ∷ es) =
    with_refusal place (why_refused s (next s e))
    (refusals_from (place + 1) (state_behind s (next s e)) es)

-- how many there are, and the first, if there is one
abbrev pub told_of : List (ℕ × Refusal) → Option Refusals
told_of [] = None
told_of (first ∷ rest) =
    Some (record { count = length rest + 1; place = first.0; refusal = first.1 })

-- of the first n events of a list, from a state on
abbrev pub refusals_in : State → List Event → ℕ → Option Refusals
refusals_in s events n = told_of (refusals_from 0 s (take n events))
