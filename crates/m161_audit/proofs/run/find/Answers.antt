use Rattle.std.proofs.Common.{◌≡◌, ◌∙◌, ap, sym, subst, ◌+◌, ◌<◌, arith, length, replicate, append-nil, append_assoc, ◌++◌}
use Rattle.std.proofs.lemmas.List.{length-append, length-replicate}
use Rattle.m161_audit.specs.declared.finding.Finding.TheVariants.{Stale}
use Rattle.m161_audit.specs.Stale.{IsFinding}
use Rattle.m161_audit.specs.helpers.Run.{Finds}
use Rattle.m161_audit.proofs.Made.{clean, finds_after, finds_first, found, passes_more}
use Rattle.m161_audit.proofs.run.find.Goals as goal

-- an event's place is below the number of all events
pub overflow_add-result : goal.overflow_add-result
overflow_add-result g c =
    let before = c.loop-event.invariant in
    let less : c.in-Some-2.before < c.in-Some.times = rw c.in-Some-2.is at c.in_ok-before.ensures.within in
    let all = ap length before.1 in
    let left = ap length c.in-Some.ensures.steps.0 in
    omega (arith, less, all, left, before.2, c.runs-left.ensures.fits, length-append before.0 c.loop-event.left, length-append (replicate c.in-Some.times c.in-Some.event) c.next.new.self, length-replicate c.in-Some.times c.in-Some.event)

pub returns-in-Some-2 : goal.returns-in-Some-2
returns-in-Some-2 g c = λ watches s at.
    let before = c.loop-event.invariant in
    let more = before.3 watches s at in
    let finds : Finds watches _ (replicate c.in-Some.times c.in-Some.event) c.in-Some-2.before c.in-Some-2.p c.in-Some-2.via = rw c.in-Some-2.is at (c.in_ok-before.ensures.run watches _ more.1) in
    let there = finds_first watches s (before.0 ++ replicate c.in-Some.times c.in-Some.event) c.next.new.self (length before.0 + c.in-Some-2.before) c.in-Some-2.p c.in-Some-2.via
    (finds_after watches s before.0 (replicate c.in-Some.times c.in-Some.event) c.in-Some-2.before c.in-Some-2.p c.in-Some-2.via more.0 finds) in
    let all : c.args.events.now ≡ (before.0 ++ replicate c.in-Some.times c.in-Some.event) ++ c.next.new.self =
    before.1 ∙ ap (λ l. before.0 ++ l) c.in-Some.ensures.steps.0 ∙ sym (append_assoc before.0 (replicate c.in-Some.times c.in-Some.event) c.next.new.self) in
    subst (λ n. IsFinding s c.args.events.now watches (Stale n c.in-Some-2.p c.in-Some-2.via.address c.number.result)) (ap (λ n. n + c.in-Some-2.before) (sym before.2))
    (found watches s c.args.events.now (length before.0 + c.in-Some-2.before) c.in-Some-2.p c.in-Some-2.via c.number.result (rw all there) c.number.ensures.value)

pub loop-event-preserved : goal.loop-event-preserved
loop-event-preserved g c =
    let before = c.loop-event.invariant in (
      before.0 ++ replicate c.in-Some.times c.in-Some.event,
      before.1 ∙ ap (λ l. before.0 ++ l) c.in-Some.ensures.steps.0 ∙ sym (append_assoc before.0 (replicate c.in-Some.times c.in-Some.event) c.next.new.self),
      omega (arith, before.2, length-append before.0 (replicate c.in-Some.times c.in-Some.event), length-replicate c.in-Some.times c.in-Some.event),
      (λ watches s at. passes_more watches s before.0 (replicate c.in-Some.times c.in-Some.event) c.loop-event.core.state c.audit_run.new.core.state c.loop-event.shootdowns c.audit_run.new.shootdowns (before.3 watches s at)
          (λ more. rw c.in_default-2.is at (c.in_ok-before.ensures.run watches _ more))),
    )

pub returns : goal.returns
returns g c = λ watches s at.
    let before = c.loop-event.invariant in
    let all : c.args.events.now ≡ before.0 = before.1 ∙ ap (λ l. before.0 ++ l) c.in_default.ensures.steps.0 ∙ append-nil before.0 in
    rw all (clean watches s before.0 (before.3 watches s at).0)
