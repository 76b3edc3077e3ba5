use Rattle.clap.specs.Words.{found_of, rows_of}
use Rattle.s161_command.proofs.Losing.{few_entries}
use Rattle.s161_command.proofs.asked.task_of_command.Goals as goal

pub returns-then-lacks_entries-clause-clash : goal.returns-then-lacks_entries-clause-clash
returns-then-lacks_entries-clause-clash c =
    few_entries c.args.name.now (rows_of (found_of c.args.given.now)) c.task_named-task.result c.task_named-task.ensures.task (c.lacks_entries.ensures.lost c.if-lacks_entries.true)
