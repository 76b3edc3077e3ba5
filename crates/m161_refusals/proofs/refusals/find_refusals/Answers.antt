use Rattle.std.proofs.Common.{◌≡◌, ◌⊎◌, ◌+◌, arith, inl, inr}
use Rattle.m161_refusals.proofs.Passing.{made_all, made_more}
use Rattle.m161_refusals.proofs.refusals.find_refusals.Goals as goal

pub loop-event-preserved : goal.loop-event-preserved
loop-event-preserved g c =
    let m = c.loop-event.invariant.made in
    let done = c.loop-event.done in
    let made = c.least-times.result in
    let times = c.in-Some.times in
    let done_is = m.done_is in
    let few = m.few in
    let below = c.least-times.ensures.at_most in
    let some : (made ≡ times) ⊎ (done + made ≡ c.args.n) = elim c.least-times.ensures.one [
      | inl all ↦ inl all
      | inr part ↦ inr (omega (arith, part, done_is, few))
    ] in
    record {
      made = made_more c.args.core.now.state c.loop-event.core.state c.pass_run.new.core.state c.args.events.now c.loop-event.left c.next.new.self c.args.n done times made c.in-Some.event
          c.loop-event.found c.in_ok-found.found m some below.0 (let part = below.1 in omega (arith, part, done_is, few)) c.in-Some.ensures.steps.0 c.in_ok-found.ensures.passes;
      within = c.in_ok-found.ensures.within;
    }

pub returns : goal.returns
returns g c =
    made_all c.args.core.now.state c.loop-event.core.state c.args.events.now c.loop-event.left c.args.n c.loop-event.done c.loop-event.found c.in_default.ensures.steps.0
    c.loop-event.invariant.made
