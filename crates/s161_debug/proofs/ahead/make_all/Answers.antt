use Rattle.std.proofs.Common.{◌≡◌, ◌∙◌, ◌≤◌, arith, length, refl, rules, subst}
use Rattle.m161_machine.proofs.Continuing.{continues_none}
use Rattle.m161_machine.specs.History.{History}
use Rattle.s161_debug.proofs.Going.{IsAt, ends, none_first, one_more, refused, switches_off}
use Rattle.s161_debug.proofs.ahead.make_all.Goals as goal

pub loop-k-init : goal.loop-k-init
loop-k-init c =
    let m = c.machine.result.now in
    let fits : length m.log ≤ m.start.conf.log = let last = c.replay.ensures.last in omega (arith, last) in
    let room = subst (λ (h : History). length h.log ≤ h.start.conf.log) c.machine.ensures fits in
    record {
      made = record { made = continues_none c.args.session.now.machine room; none = none_first _ _ };
      breakpoints = refl;
      style = refl;
    }

pub returns-in-Err-clause-stop : goal.returns-in-Err-clause-stop
returns-in-Err-clause-stop c =
    let at : IsAt c.args.events.now c.loop-k.k c.event_at-event.result = (omega arith, c.event_at-event.ensures) in
    refused c.args.session.now.machine c.loop-k.session.machine c.step.new.self.machine c.args.events.now c.loop-k.k c.event_at-event.result at
    c.loop-k.invariant.made c.in-Err.refusal c.in-Err.ensures.answers

pub returns-in-Some-clause-stop : goal.returns-in-Some-clause-stop
returns-in-Some-clause-stop c =
    let at : IsAt c.args.events.now c.loop-k.k c.event_at-event.result = (omega arith, c.event_at-event.ensures) in
    switches_off c.args.session.now.machine c.loop-k.session.machine c.step.new.self.machine c.args.events.now c.loop-k.k c.event_at-event.result at
    c.loop-k.invariant.made c.in-Ok.outcome c.in-Some.stop c.in-Ok.ensures.answers (search rules)

pub loop-k-preserved : goal.loop-k-preserved
loop-k-preserved c =
    let at : IsAt c.args.events.now c.loop-k.k c.event_at-event.result = (omega arith, c.event_at-event.ensures) in
    record {
      made =
          one_more c.args.session.now.machine c.loop-k.session.machine c.step.new.self.machine c.args.events.now c.loop-k.k c.event_at-event.result at
          c.loop-k.invariant.made c.in-Ok.outcome c.in-Ok.ensures.answers (search rules);
      breakpoints = c.in-Ok.ensures.breakpoints ∙ c.loop-k.invariant.breakpoints;
      style = c.in-Ok.ensures.style ∙ c.loop-k.invariant.style;
    }

pub returns-clause-stop : goal.returns-clause-stop
returns-clause-stop c =
    let whole : c.loop-k.k ≡ length c.args.events.now = omega arith in
    ends c.args.session.now.machine c.loop-k.session.machine c.args.events.now c.loop-k.k _ whole (omega arith) c.loop-k.invariant.made
