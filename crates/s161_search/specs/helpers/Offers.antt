use Rattle.std.specs.Prelude.{ℕ, slice_get}
use Rattle.m161_delays.specs.Runs.{ChooseAlike}
use Rattle.m161_drive.specs.Choice.{cursor_at}
use Rattle.m161_machine.specs.State.{State}
use Rattle.m161_places.proofs.Alike.{choose_alike}
use Rattle.s161_command.specs.declared.task.SearchTask.{SearchTask}
use Rattle.s161_run.specs.Driven.{rules_of}
use Rattle.s161_search.specs.Delays.{offered_by}
use Rattle.s161_search.specs.Given.{Given}
use Rattle.s161_search.specs.Runs.{most_of}

-- The law that the search over lists of delays asks for.

pub offers_alike : (task : SearchTask) (given : Given) (steps : ℕ) (s : State) → ChooseAlike (offered_by task given steps s)
offers_alike task given steps s =
    choose_alike (most_of task given) (rules_of task.drive given.keys) (slice_get given.keys) (record { steps = steps; made = 0 })
    (cursor_at (rules_of task.drive given.keys) s) s
