use Rattle.std.proofs.Common.{◌≡◌, ◌∙◌, ◌+◌, ◌++◌, ◌≤◌, Option, None, Some, ap, arith, drop, refl, sym, take}
use Rattle.std.specs.Prelude.{replicate}
use Rattle.m161_traps.specs.declared.traps.Trap.{Trap}
use Rattle.m161_traps.specs.Traps.{state_after}
use Rattle.m161_traps.specs.Unhandled.{first_unhandled}
use Rattle.m161_traps.proofs.Looking.{joined_none, joined_some}
use Rattle.s161_run.proofs.Looking.{listed_all, listed_end, listed_more}
use Rattle.s161_run.proofs.Making.{run_passed}
use Rattle.s161_run.proofs.unhandled.look_listed.Goals as goal

pub returns-in_default : goal.returns-in_default
returns-in_default c =
    let spans = c.args.spans.now in
    let s = c.args.core.now.state in
    let h = c.loop-made.invariant in
    let all = listed_end c.args.events.now c.loop-made.left c.loop-made.made c.args.n h.few (h.left c.loop-made-test.true) c.in_default.ensures.steps.0 in
    record {
      is_first = sym h.none ∙ ap (first_unhandled spans s) all;
      leads = λ none. h.at ∙ ap (state_after s) all;
    }

pub returns-in-Some-2 : goal.returns-in-Some-2
returns-in-Some-2 c =
    let spans = c.args.spans.now in
    let s = c.args.core.now.state in
    let events = c.args.events.now in
    let h = c.loop-made.invariant in
    let made = c.loop-made.made in
    let some = c.min-some.result in
    let e = c.in-Some.event in
    let trap = c.in-Some-2.trap in
    let least = c.min-some.ensures in
    let wide = c.from.ensures in
    let less = c.loop-made-test.true in
    let most : some ≤ c.in-Some.times = omega (arith, least, wide) in
    let within : made + some ≤ c.args.n = omega (arith, least, less) in
    let more = listed_more events c.loop-made.left c.next.new.self made some c.in-Some.times e (h.left less) c.in-Some.ensures.steps.0 most in
    record {
      is_first =
          sym (joined_some spans s c.loop-made.core.state (take made events) (replicate some e) (drop (made + some) (take c.args.n events)) trap h.none h.at
          (sym c.in_ok-trap.ensures.is_first ∙ c.in-Some-2.is))
          ∙ ap (first_unhandled spans s) (ap (λ es. es ++ drop (made + some) (take c.args.n events)) more ∙ listed_all events (made + some) c.args.n within);
      leads = λ none. absurd (let bad : ◌≡◌ {A = Option Trap} (Some trap) None = none in cc);
    }

pub loop-made-init : goal.loop-made-init
loop-made-init c = record {
  few = omega arith;
  none = refl;
  at = refl;
  left = λ some. c.runs-left.ensures.all;
}

pub loop-made-preserved : goal.loop-made-preserved
loop-made-preserved c =
    let spans = c.args.spans.now in
    let s = c.args.core.now.state in
    let events = c.args.events.now in
    let h = c.loop-made.invariant in
    let made = c.loop-made.made in
    let some = c.min-some.result in
    let times = c.in-Some.times in
    let e = c.in-Some.event in
    let least = c.min-some.ensures in
    let wide = c.from.ensures in
    let less = c.loop-made-test.true in
    let most : some ≤ times = omega (arith, least, wide) in
    let more = listed_more events c.loop-made.left c.next.new.self made some times e (h.left less) c.in-Some.ensures.steps.0 most in
    let so_far =
    joined_none spans s c.loop-made.core.state c.look_alike.new.core.state (take made events) (replicate some e) h.none h.at
    (sym c.in_ok-trap.ensures.is_first ∙ c.in_default-2.is) (c.in_ok-trap.ensures.leads c.in_default-2.is) in
    record {
      few = omega (arith, least, less);
      none = sym (ap (first_unhandled spans s) more) ∙ so_far.0;
      at = so_far.1 ∙ ap (state_after s) more;
      left = λ on.
          let all : times ≡ some = omega (arith, least, wide, on, less) in
          run_passed events c.loop-made.left c.next.new.self made times e (h.left less) c.in-Some.ensures.steps.0
          ∙ ap (λ n. drop (made + n) events) all;
    }

pub returns : goal.returns
returns c =
    let spans = c.args.spans.now in
    let s = c.args.core.now.state in
    let events = c.args.events.now in
    let h = c.loop-made.invariant in
    let few = h.few in
    let end = c.loop-made-test.false in
    let all : c.loop-made.made ≡ c.args.n = omega (arith, few, end) in
    record {
      is_first = sym h.none ∙ ap (λ n. first_unhandled spans s (take n events)) all;
      leads = λ none. h.at ∙ ap (λ n. state_after s (take n events)) all;
    }
