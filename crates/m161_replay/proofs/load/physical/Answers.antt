use Rattle.std.proofs.Common.{◌∙◌, ap, sym, Some}
use Rattle.m161_machine.specs.State.{processor_at}
use Rattle.m161_trace.specs.Loads.{physical_if}
use Rattle.m161_replay.proofs.Loading.{direct_is, from_load, reached}
use Rattle.m161_replay.proofs.load.physical.Goals as goal

pub returns-in-Some : goal.returns-in-Some
returns-in-Some g c = λ r load uses.
    let there = reached (processor_at c.args.p c.args.core.now.state.processors) r c.in-Some.via (sym c.in-Some.is ∙ uses) in
    ap (λ n. Some n) (c.through.ensures r (from_load c.args.width c.args.address r load) there) ∙ sym (ap physical_if there.address_is)

pub returns-in-None : goal.returns-in-None
returns-in-None g c = λ r load uses.
    c.direct.ensures
    ∙ direct_is (processor_at c.args.p c.args.core.now.state.processors) c.args.width c.args.address r load (sym c.in-None.is ∙ uses)
