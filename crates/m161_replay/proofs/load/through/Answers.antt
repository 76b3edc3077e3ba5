use Rattle.std.proofs.Common.{◌≡◌, refl, subst, arith, slice_get, Some}
use Rattle.m161_machine.specs.State.{processor_at}
use Rattle.m161_trace.proofs.Loading.{through_some}
use Rattle.m161_replay.proofs.load.through.Goals as goal

pub returns : goal.returns
returns g c = λ r load reached.
    let p = processor_at c.args.p c.args.core.now.state.processors in
    let row = through_some p r c.args.address (Some c.args.via) c.args.via c.row-row.result reached refl (subst (λ i. slice_get p.rows i ≡ Some c.row-row.result) c.number-number.ensures.value c.row-row.ensures) load in
    let same = c.number-frame.ensures.value in
    let small = c.number-frame.ensures.small in
    omega (arith, row, same, small)
