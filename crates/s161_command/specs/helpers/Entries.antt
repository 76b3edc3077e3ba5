use Rattle.std.specs.Prelude.{◌≡◌, false}
use Rattle.s161_command.specs.Commands.{keeps_all}
use Rattle.s161_command.specs.declared.task.Task.{Task}
use Rattle.s161_command.specs.declared.task.Task.TheVariants.{RunInThreads}

-- What the check of a log's room finds.

-- a run in threads whose traps are counted has a log without room for the entry of each of its Steps
abbrev pub LosesEntries : Task → Type 0
LosesEntries (RunInThreads task) = keeps_all task ≡ false
LosesEntries _ = ⊥
