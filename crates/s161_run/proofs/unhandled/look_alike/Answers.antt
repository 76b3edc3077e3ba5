use Rattle.std.proofs.Common.{◌≡◌, ◌∙◌, ◌∷◌, ◌-◌, ◌+◌, [], Option, None, Some, ap, arith, sym}
use Rattle.std.specs.Prelude.{replicate}
use Rattle.m161_traps.specs.declared.traps.Trap.{Trap}
use Rattle.m161_traps.specs.Traps.{state_after}
use Rattle.m161_traps.specs.Unhandled.{first_unhandled}
use Rattle.m161_traps.proofs.Looking.{joined_none, joined_some}
use Rattle.s161_run.proofs.Looking.{alike_more, alike_split}
use Rattle.s161_run.proofs.unhandled.look_alike.Goals as goal

pub returns-in-Some : goal.returns-in-Some
returns-in-Some c =
    let spans = c.args.spans.now in
    let s = c.args.core.now.state in
    let e = c.args.event in
    let k = c.loop-time._time in
    let n = c.args.times in
    let trap = c.in-Some.trap in
    record {
      is_first =
          sym (joined_some spans s c.loop-time.core.state (replicate k e) (e ∷ []) (replicate (n - (k + 1)) e) trap c.loop-time.invariant.none c.loop-time.invariant.at
          (sym c.in_ok-trap.ensures.trap ∙ c.in-Some.is))
          ∙ ap (first_unhandled spans s) (alike_split k n e c.loop-time-test.true);
      leads = λ none. absurd (let bad : ◌≡◌ {A = Option Trap} (Some trap) None = none in cc);
    }

pub loop-time-preserved : goal.loop-time-preserved
loop-time-preserved c =
    let spans = c.args.spans.now in
    let s = c.args.core.now.state in
    let e = c.args.event in
    let k = c.loop-time._time in
    let more =
    joined_none spans s c.loop-time.core.state c.look.new.core.state (replicate k e) (e ∷ []) c.loop-time.invariant.none c.loop-time.invariant.at
    (sym c.in_ok-trap.ensures.trap ∙ c.in_default.is) c.in_ok-trap.ensures.state in
    record {
      none = sym (ap (first_unhandled spans s) (alike_more k e)) ∙ more.0;
      at = more.1 ∙ ap (state_after s) (alike_more k e);
    }

pub returns : goal.returns
returns c =
    let spans = c.args.spans.now in
    let s = c.args.core.now.state in
    let e = c.args.event in
    let end = c.loop-time-test.false in
    let most = c.loop-time.auto._time-end in
    let all : c.loop-time._time ≡ c.args.times = omega (arith, end, most) in
    record {
      is_first = sym c.loop-time.invariant.none ∙ ap (λ n. first_unhandled spans s (replicate n e)) all;
      leads = λ none. c.loop-time.invariant.at ∙ ap (λ n. state_after s (replicate n e)) all;
    }
