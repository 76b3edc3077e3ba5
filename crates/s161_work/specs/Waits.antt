use Rattle.std.specs.Prelude.{ℕ, Bool, false, ◌||◌, if◌then◌else◌, bytes_eq, List, Option, None, Some, codes}
use Rattle.std.specs.List.{list_any}
use Rattle.s161_progress.specs.declared.meter.Way.{Way}
use Rattle.s161_progress.specs.declared.meter.Way.TheVariants.{InPlace, ByLines}

-- The commands that say how far they are.

-- the word behind the program's name, if there is one, names a command that may take long, and counts
abbrev pub is_long : Option (List ℕ) → Bool
is_long None = false
is_long (Some word) =
    bytes_eq word (codes "run") || bytes_eq word (codes "search") || bytes_eq word (codes "explore")
    || bytes_eq word (codes "replay") || bytes_eq word (codes "audit")

-- one of the words asks for lines
abbrev pub asks_progress : List (List ℕ) → Bool
asks_progress words = list_any (λ word. bytes_eq word (codes "--progress")) words

-- how far a command is is shown at a terminal, and elsewhere where one of its words asks for it
abbrev pub way_of : Bool → Option (List ℕ) → List (List ℕ) → Option Way
way_of is_terminal command words =
    if is_long command
    then (if is_terminal then Some InPlace else (if asks_progress words then Some ByLines else None))
    else None
