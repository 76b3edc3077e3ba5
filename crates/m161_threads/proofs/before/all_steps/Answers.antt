use Rattle.std.proofs.Common.{◌≡◌, ◌∙◌, sym, ◌<◌, length, get_or, arith}
use Rattle.std.proofs.lemmas.List.{length-map}
use Rattle.std.proofs.lemmas.List.Sums.{sum_by_more, sum_by_more_le}
use Rattle.m161_cpu.specs.Processor.{Processor}
use Rattle.m161_machine.specs.State.{counts}
use Rattle.m161_machine.proofs.Counting.{count_at}
use Rattle.m161_threads.proofs.Events.{few_in}
use Rattle.m161_threads.proofs.before.all_steps.Goals as goal

pub overflow_add-steps : goal.overflow_add-steps
overflow_add-steps g c =
    let m = c.args.machine.now in
    let cs = counts m.state in
    let i = c.loop-p.invariant in
    let size = length-map m.state.processors (λ (q : Processor). q.count) in
    let inside : c.loop-p.p < length cs = omega (arith, size, i.end, c.loop-p-test.true) in
    let count_is : c.count-steps.result ≡ get_or cs c.loop-p.p 0 = c.count-steps.ensures ∙ sym (count_at m.state.processors c.loop-p.p) in
    let within = sum_by_more_le (λ x. x) cs c.loop-p.p 0 inside in
    let few = few_in m c.replay.ensures.reached c.replay.ensures.replay in
    let worn = c.replay.ensures.few in
    omega (arith, i.steps, count_is, within, few, worn)

pub loop-p-preserved : goal.loop-p-preserved
loop-p-preserved g c =
    let m = c.args.machine.now in
    let cs = counts m.state in
    let i = c.loop-p.invariant in
    let size = length-map m.state.processors (λ (q : Processor). q.count) in
    let inside : c.loop-p.p < length cs = omega (arith, size, i.end, c.loop-p-test.true) in
    let count_is : c.count-steps.result ≡ get_or cs c.loop-p.p 0 = c.count-steps.ensures ∙ sym (count_at m.state.processors c.loop-p.p) in
    let more = sum_by_more (λ x. x) cs c.loop-p.p 0 inside in
    record { steps = omega (arith, i.steps, count_is, more); end = i.end }
