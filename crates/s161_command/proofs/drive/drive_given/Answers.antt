use Rattle.std.proofs.Common.{codes, subst}
use Rattle.clap.specs.Words.{found_of, one_of, rows_of}
use Rattle.s161_command.specs.Drives.{IsLongNumberOf}
use Rattle.s161_command.proofs.drive.drive_given.Goals as goal

pub returns : goal.returns
returns c = record {
  order = c.requires.order;
  limits = c.requires.limits;
  events =
      subst (λ default. IsLongNumberOf default (one_of (codes "events") (rows_of (found_of c.args.given.now))) c.long_given.result)
      c.events_by_default.ensures c.long_given.ensures;
  transfer = c.number_given.ensures;
  gap = c.requires.gap;
  keys = c.text_given.ensures;
  after = c.text_given-2.ensures;
}
