use Rattle.std.proofs.Common.{refl}
use Rattle.clap.specs.Words.{found_of, rows_of}
use Rattle.s161_command.proofs.Together.{ordered}
use Rattle.s161_command.proofs.asked.task_of_schedule.Goals as goal

pub returns-clause-task : goal.returns-clause-task
returns-clause-task c = (
  refl,
  record {
    order = ordered (rows_of (found_of c.args.given.now)) c.requires.together;
    image = c.file_given.ensures;
    size = c.named_size_given.ensures;
    drive = c.drive_given.ensures;
  },
)
