use Rattle.std.specs.Prelude.{◌≡◌, ℕ, List}
use Rattle.s161_command.specs.declared.task.Shown.{Shown}
use Rattle.s161_command.specs.declared.task.Shown.TheVariants.{Summary, SummaryAndLog, Log, Output}

-- The part of a log that is shown.

-- the room of the log of a run, of which so many entries are shown if any are
abbrev pub room_of : Shown → ℕ → ℕ
room_of Summary log = 0
room_of SummaryAndLog log = log
room_of Log log = log
room_of Output log = 0

-- where a log is shown, this is its text
abbrev pub IsShown : Shown → List ℕ → List ℕ → Type 0
IsShown Summary text log = Unit {0}
IsShown SummaryAndLog text log = text ≡ log
IsShown Log text log = text ≡ log
IsShown Output text log = Unit {0}
