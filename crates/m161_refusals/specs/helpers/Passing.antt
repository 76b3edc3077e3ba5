use Rattle.std.specs.Prelude.{◌≡◌, ℕ, ◌≤◌, List, [], ◌∷◌, ◌++◌, Option, IfSome}
use Rattle.m161_machine.specs.declared.event.Event.{Event}
use Rattle.m161_machine.specs.declared.event.Refusal.{Refusal}
use Rattle.m161_machine.specs.State.{State, next}
use Rattle.m161_refusals.specs.declared.refusals.Refusals.{Refusals}
use Rattle.m161_refusals.specs.Refusals.{refusals_from, state_behind, told_of}

-- How the code goes along a list.

-- the state behind events
abbrev pub passed : State → List Event → State
passed s [] = s
passed s (e ∷ es) = passed (state_behind s (next s e)) es

-- no more are refused than events were made
abbrev pub IsWithin : ℕ → Option Refusals → Type 0
IsWithin made found = IfSome found (λ told. told.count ≤ made)

-- events behind the first ones were made: so those that are refused among them are told with the others
abbrev pub Passes : State → List Event → ℕ → Option Refusals → State → Option Refusals → Type 0
Passes s events place before t after =
    (t ≡ passed s events)
    × ((rs : List (ℕ × Refusal)) → before ≡ told_of rs → after ≡ told_of (rs ++ refusals_from place s events))
