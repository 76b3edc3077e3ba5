use Rattle.std.proofs.Common.{[], subst}
use Rattle.s161_run.specs.Behind.{GoesBehind}
use Rattle.s161_run.specs.Driven.{rules_of}
use Rattle.s161_run.proofs.behind.events_behind.Goals as goal

pub returns : goal.returns
returns c =
    let made = c.in_ok-k.ensures in
    let rules = rules_of c.args.options c.args.keys.now in
    let state = c.make_behind.new.core.state in
    record {
      ok = record {
        stop = c.in_ok-k.field-0;
        entries = made.0;
        state = state;
        goes = subst (λ n. GoesBehind rules n c.args.core.now.state c.args.first.now c.in_ok-k.field-0 made.0 state) c.events_left-n.ensures made.1;
        accepted = c.in_default.not-Refused;
        events_are = made.2 0 [] c.new-events.ensures.items;
      };
      err = tt;
    }
