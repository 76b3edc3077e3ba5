use Rattle.std.proofs.Common.{subst, sym}
use Rattle.s161_base.specs.Faults.{IsBootFault}
use Rattle.s161_run.proofs.Failing.{verify_refused}
use Rattle.s161_run.proofs.replay.verify_log.Goals as goal

pub returns-in-Err-clause-fault : goal.returns-in-Err-clause-fault
returns-in-Err-clause-fault c =
    subst (IsBootFault c.args.image.now c.args.conf) (sym c.fault_of_boot.ensures)
    (verify_refused c.args.image.now c.args.conf c.args.log.now c.in-Err.error c.in-Err.ensures)
