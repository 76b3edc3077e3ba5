use Rattle.std.proofs.Common.{◌≡◌, ◌∙◌, ap, subst, arith, slice_get, Some}
use Rattle.m161_machine.specs.State.{processor_at}
use Rattle.m161_trace.proofs.Loading.{through_none, through_some}
use Rattle.m161_trace.proofs.loads.physical.Goals as goal

pub returns-in-Some : goal.returns-in-Some
returns-in-Some g c = λ r load reached.
    let row = through_some (processor_at c.args.p c.args.core.now.state.processors) r c.args.address c.args.via c.in-Some.via c.row-row.result reached c.in-Some.is (subst (λ i. slice_get (processor_at c.args.p c.args.core.now.state.processors).rows i ≡ Some c.row-row.result) c.number.ensures.value c.row-row.ensures) load in
    let same = c.number-in-Some.ensures.value in
    let small = c.number-in-Some.ensures.small in
    ap (λ n. Some n) (omega (arith, row, same, small))

pub returns-in-None : goal.returns-in-None
returns-in-None g c = λ r load reached.
    c.unmapped.ensures ∙ through_none (processor_at c.args.p c.args.core.now.state.processors) r c.args.address c.args.via reached c.in-None.is load
