use Rattle.std.specs.Prelude.{◌≡◌, ℕ, List, [], ◌∷◌, ◌++◌, Option}
use Rattle.m161_machine.specs.declared.event.Entry.{Entry}
use Rattle.m161_machine.specs.declared.event.Event.{Event}
use Rattle.m161_machine.specs.State.{State}
use Rattle.m161_drive.specs.declared.cursor.Cursor.{Cursor}
use Rattle.m161_drive.specs.Drive.{Goes}
use Rattle.m161_drive.specs.Policy.{Rules}
use Rattle.m161_places.specs.Going.{place_number}

-- an event was chosen and made, and is noted behind others
abbrev pub GoesNoting :
    Rules → (ℕ → Option ℕ) → Cursor → State → List Event → ℕ → Cursor → State → List Event → Type 0
GoesNoting rules keys c s old places d t new =
    (e : Entry) × Goes rules (keys c.typed) c s e d t × (places ≡ place_number e.event s) × (new ≡ old ++ e.event ∷ [])
