use Rattle.std.proofs.Common.{◌≡◌, ◌∙◌, subst, Option, arith}
use Rattle.m161_machine.specs.declared.event.Event.TheVariants.{Step}
use Rattle.m161_machine.specs.declared.event.Refusal.{Refusal}
use Rattle.m161_machine.specs.History.{Ends}
use Rattle.m161_threads.proofs.Events.{counted_burst, few_in, keeps_burst, off_end}
use Rattle.m161_threads.proofs.book.Book.step_burst.Goals as goal

-- src/book.rt:142:9
pub overflow_add-seat : goal.overflow_add-seat
overflow_add-seat g c =
    let few = few_in c.steps-made.new.self c.replay.ensures.reached c.replay.ensures.replay in
    let worn = c.replay.ensures.few in
    let kept = (keeps_burst c.self.inside.machine c.steps-made.new.self c.seat.inside.processor c.steps-made.result.0
    c.self.inside.steps.total c.self.inside.offs.total c.steps-made.ensures.run c.self.invariant).0 in
    let is = c.seat.invariant.1 in
    let more = c.add.ensures.amount in
    let total = c.add.ensures.total in
    let bound = c.audit.ensures.bound in
    let made = c.from.ensures in
    let again = c.from-2.ensures in
    omega (arith, few, worn, kept, is, more, total, bound, made, again)

pub invariant_of-self : goal.invariant_of-self
invariant_of-self g c =
    let kept = keeps_burst c.self.inside.machine c.steps-made.new.self c.seat.inside.processor c.steps-made.result.0
    c.self.inside.steps.total c.self.inside.offs.total c.steps-made.ensures.run c.self.invariant in
    let more = c.add.ensures.total in
    let same = c.audit.ensures.total in
    let made = c.from.ensures in
    let is = kept.0 in
    (omega (arith, same, more, made, is), kept.1)

pub returns-clause-own : goal.returns-clause-own
returns-clause-own g c =
    rw (← c.self.view_is, ← c.seat.view_is)
    (counted_burst c.self.inside.machine c.steps-made.new.self c.seat.inside.processor c.steps-made.result.0 c.steps-made.ensures.run)

pub returns-clause-off : goal.returns-clause-off
returns-clause-off g c is =
    let n = c.steps-made.new.self in
    let p = c.seat.inside.processor in
    off_end n.state p
    (subst (λ (r : Option Refusal). Ends n (Step p) c.args.k c.steps-made.result.0 r) is c.steps-made.ensures.end).1
