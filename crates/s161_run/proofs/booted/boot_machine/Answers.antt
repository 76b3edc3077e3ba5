use Rattle.std.proofs.Common.{subst, sym}
use Rattle.s161_base.specs.Faults.{IsBootFault}
use Rattle.s161_base.proofs.Failing.{boot_refused}
use Rattle.s161_run.proofs.booted.boot_machine.Goals as goal

pub returns-in-Err-clause-fault : goal.returns-in-Err-clause-fault
returns-in-Err-clause-fault c =
    subst (IsBootFault c.args.file.now c.args.conf) (sym c.fault_of_boot.ensures)
    (boot_refused c.args.file.now c.args.conf c.in-Err.error c.in-Err.ensures.answer)
