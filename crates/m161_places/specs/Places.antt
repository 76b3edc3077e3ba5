use Rattle.std.specs.Prelude.{ℕ, zero, suc, Bool, true, false, ◌&&◌, if◌then◌else◌, List, [], ◌∷◌, length, Option, None, Some, Result, Ok, Err}
use Rattle.m161_cpu.specs.declared.processor.Outcome.{Outcome}
use Rattle.m161_machine.specs.declared.event.Event.{Event}
use Rattle.m161_machine.specs.declared.event.Event.TheVariants.{Step, Key, Done}
use Rattle.m161_machine.specs.declared.event.Refusal.{Refusal}
use Rattle.m161_machine.specs.State.{State, next}
use Rattle.m161_drive.specs.declared.cursor.Cursor.{Cursor}
use Rattle.m161_drive.specs.Choice.{chosen_with, taken}
use Rattle.m161_drive.specs.Policy.{Rules}
use Rattle.m161_drive.specs.Ready.{ready, some_ready}

-- The places of a driven run: the choices among ready processors, numbered from 0 along the run. The
-- numbers of a list of delays are places.

abbrev pub is_step : Option Event → Bool
is_step None = false
is_step (Some (Step p)) = true
is_step (Some (Key byte)) = false
is_step (Some Done) = false

-- the next event is a Step, and a processor is ready: it is one of a ready processor
abbrev pub is_place : Option Event → State → Bool
is_place event s = is_step event && some_ready s

-- what comes behind an event that is accepted
abbrev pub behind_accepted :
    Result (Outcome × State) Refusal → Event → Cursor → (Cursor → State → List ℕ) → List ℕ
behind_accepted (Ok given) e c rest = rest (taken e given.1 c) given.1
behind_accepted (Err refusal) e c rest = []

-- what comes behind a choice
abbrev pub behind_choice : Option Event → State → Cursor → (Cursor → State → List ℕ) → List ℕ
behind_choice None s c rest = []
behind_choice (Some e) s c rest = behind_accepted (next s e) e c rest

abbrev pub with_place : Bool → ℕ → List ℕ → List ℕ
with_place here count rest = if here then count ∷ rest else rest

-- how many processors are ready at each place of the run of at most n events that a policy chooses,
-- from a cursor and a state on; `keys` are the keys by their numbers
unfoldable pub offers : ℕ → Rules → (ℕ → Option ℕ) → Cursor → State → List ℕ
offers zero rules keys c s = []
offers (suc n) rules keys c s =
    let choice = chosen_with rules (keys c.typed) c s in
    if s.board.off then []
    else with_place (is_place choice.0 s) (length (ready s)) (behind_choice choice.0 s choice.1 (offers n rules keys))
