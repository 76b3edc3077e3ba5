use Rattle.std.proofs.Common.{arith, subst, take_all}
use Rattle.m161_audit.specs.helpers.Run.{Passes}
use Rattle.m161_audit.proofs.Made.{finds_next, found, passes_next}
use Rattle.m161_audit.proofs.run.find_from.Goals as goal

pub returns-in-Some-clause-found : goal.returns-in-Some-clause-found
returns-in-Some-clause-found g c = λ watches s before.
    let more = c.loop-place.invariant watches s before in
    let stale = rw c.in-Some.is at (c.in_ok-processor.ensures watches _ more.1) in
    found watches s c.args.events.now c.loop-place.place c.in-Some.processor c.in-Some.via c.number.result
    (finds_next watches s c.args.events.now c.loop-place.place c.in-Some.processor _ c.in-Some.via (omega arith) more.0 stale) c.number.ensures.value

pub loop-place-preserved : goal.loop-place-preserved
loop-place-preserved g c = λ watches s before.
    passes_next watches s c.args.events.now c.loop-place.place _ c.loop-place.core.state c.audit_event.new.core.state c.loop-place.shootdowns c.audit_event.new.shootdowns
    (omega arith) (c.loop-place.invariant watches s before) (λ more. rw c.in_default.is at (c.in_ok-processor.ensures watches _ more))

pub returns-clause-found : goal.returns-clause-found
returns-clause-found g c = λ watches s before.
    let all = take_all c.loop-place.place c.args.events.now (omega arith) in
    subst (λ es. Passes watches s es c.loop-place.core.state c.loop-place.shootdowns) all (c.loop-place.invariant watches s before)
