use Rattle.std.proofs.Common.{arith, length}
use Rattle.m161_judge.proofs.Finding.{found_below, result_below}
use Rattle.m161_judge.proofs.steps.audit_copy.Goals as goal

pub returns-clause-within : goal.returns-clause-within
returns-clause-within g c =
    result_below (length c.args.events.now) 18446744073709551615 c.audit_core.result (omega arith)
    (found_below _ c.args.events.now c.args.watches.now c.audit_core.result c.audit_core.ensures)
