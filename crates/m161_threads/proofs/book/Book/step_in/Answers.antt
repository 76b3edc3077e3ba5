use Rattle.std.proofs.Common.{◌≡◌, ◌∙◌, arith}
use Rattle.m161_machine.specs.declared.event.Refusal.TheVariants.{Off}
use Rattle.m161_threads.proofs.Events.{counted_here, few_in, keeps_step, off_after}
use Rattle.m161_threads.proofs.book.Book.step_in.Goals as goal

-- src/book.rt:104:9
pub overflow_add-seat : goal.overflow_add-seat
overflow_add-seat g c =
    let r = c.replay.ensures in
    let few = few_in c.step.new.self r.reached r.replay in
    let worn = r.few in
    let kept = (keeps_step c.self.inside.machine c.step.new.self c.seat.inside.processor c.self.inside.steps.total
    c.self.inside.offs.total c.in-Ok.outcome c.in-Ok.ensures.answers c.self.invariant).0 in
    let is = c.seat.invariant.1 in
    let more = c.add.ensures.amount in
    let total = c.add.ensures.total in
    let bound = c.audit.ensures.bound in
    omega (arith, few, worn, kept, is, more, total, bound)

pub invariant_of-self : goal.invariant_of-self
invariant_of-self g c =
    let kept = keeps_step c.self.inside.machine c.step.new.self c.seat.inside.processor c.self.inside.steps.total
    c.self.inside.offs.total c.in-Ok.outcome c.in-Ok.ensures.answers c.self.invariant in
    (c.audit.ensures.total ∙ c.add.ensures.total ∙ kept.0, kept.1)

pub returns-in-Ok-clause-own : goal.returns-in-Ok-clause-own
returns-in-Ok-clause-own g c =
    rw (← c.self.view_is, ← c.seat.view_is)
    (counted_here c.self.inside.machine c.step.new.self c.seat.inside.processor c.in-Ok.outcome c.in-Ok.ensures.answers)

pub returns-in-Err-clause-off : goal.returns-in-Err-clause-off
returns-in-Err-clause-off g c is =
    let why : c.in-Err.refusal ≡ Off = cc in
    off_after c.self.inside.machine c.step.new.self c.seat.inside.processor c.in-Err.refusal c.in-Err.ensures.answers why
