use Rattle.std.specs.Prelude.{◌≡◌, ℕ, suc, ◌+◌, ◌≤◌, List, [], ◌∷◌, ◌++◌, if◌then◌else◌, length}
use Rattle.m161_machine.specs.declared.event.Event.{Event}
use Rattle.m161_machine.specs.State.{State}
use Rattle.m161_traps.specs.declared.traps.Trap.{Trap}
use Rattle.m161_traps.specs.declared.traps.TrapLine.{TrapLine}
use Rattle.m161_traps.specs.Traps.{is_like, lines_of, state_after, traps_of}

-- How the code counts along a list.

-- how many lines stand before that of a trap
abbrev pub place_of : List TrapLine → Trap → ℕ
place_of [] trap = 0
place_of (line ∷ lines) trap = if is_like line.first trap then 0 else suc (place_of lines trap)

-- a line with one trap more
abbrev pub with_one_more : TrapLine → TrapLine
with_one_more line = record { first = line.first; count = line.count + 1 }

-- a trap is counted
abbrev pub noted : List TrapLine → Trap → List TrapLine
noted [] trap = record { first = trap; count = 1 } ∷ []
noted (line ∷ lines) trap =
    if is_like line.first trap then with_one_more line ∷ lines else line ∷ noted lines trap

-- these are the lines of at most so many traps
abbrev pub AreTold : ℕ → List TrapLine → Type 0
AreTold most lines = (traps : List Trap) × (lines ≡ lines_of traps) × (length traps ≤ most)

-- events behind the first ones were made: so the traps among them are counted with the others
abbrev pub Passes : State → List Event → List TrapLine → State → List TrapLine → Type 0
Passes s events before t after =
    (t ≡ state_after s events)
    × ((traps : List Trap) → before ≡ lines_of traps → after ≡ lines_of (traps ++ traps_of s events))
