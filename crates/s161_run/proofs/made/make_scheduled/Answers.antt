use Rattle.std.proofs.Common.{◌∙◌, [], ap, refl, sym}
use Rattle.m161_machine.specs.History.{events_of}
use Rattle.s161_run.specs.Runs.{told_traps}
use Rattle.s161_run.proofs.Logging.{empty_kept}
use Rattle.s161_run.proofs.made.make_scheduled.Goals as goal

pub returns : goal.returns
returns c =
    let made = c.in_ok-stop.ensures in
    let kept = made.2 c.args.log.capacity [] (refl, empty_kept c.args.log.capacity c.args.log.items c.requires, c.new.ensures) in
    record {
      entries = made.0;
      makes = made.1;
      last_are = kept.1;
      lines_are = c.new-2.ensures.bytes ∙ ap (λ counted. told_traps counted c.args.core.now.state (events_of made.0)) (sym c.if-traps.false);
      watched = kept.2;
    }
