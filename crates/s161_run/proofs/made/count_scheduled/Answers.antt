use Rattle.std.proofs.Common.{◌≡◌, ◌∙◌, [], refl}
use Rattle.m161_machine.specs.History.{events_of}
use Rattle.m161_traps.specs.Shown.{traps_text}
use Rattle.m161_traps.specs.Traps.{trap_lines}
use Rattle.s161_run.proofs.Logging.{empty_kept}
use Rattle.s161_run.proofs.made.count_scheduled.Goals as goal

pub returns : goal.returns
returns c =
    let made = c.in_ok-stop.ensures in
    let room = c.args.log.capacity in
    let kept = made.2 room [] (refl, empty_kept room c.args.log.items c.requires, c.new.ensures, c.new-2.ensures.items) in
    let events : c.deref.result.now ≡ events_of made.0 = c.deref.ensures.value ∙ kept.3 in
    record {
      entries = made.0;
      makes = made.1;
      last_are = kept.1;
      lines_are = c.in_ok-traps.ensures ∙ (λ i. traps_text (trap_lines (c.in_ok-first.ensures.state i) (events i)));
      watched = kept.2;
    }
