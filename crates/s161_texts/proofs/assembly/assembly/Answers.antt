use Rattle.std.proofs.Common.{refl}
use Rattle.s161_texts.proofs.Unassembled.{unassembled}
use Rattle.s161_texts.proofs.assembly.assembly.Goals as goal

pub returns-in-Err-clause-fault : goal.returns-in-Err-clause-fault
returns-in-Err-clause-fault c =
    unassembled c.args.source.now c.in-Err.error c.in-Err.error.kind c.fault_of_source.result refl c.fault_of_source.ensures c.in-Err.ensures.value
