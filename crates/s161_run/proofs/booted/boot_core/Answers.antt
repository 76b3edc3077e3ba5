use Rattle.std.proofs.Common.{subst, sym}
use Rattle.m161_machine.specs.History.{boot_fault}
use Rattle.s161_base.specs.Faults.{IsBootFault}
use Rattle.s161_base.proofs.Failing.{state_booted, state_refused}
use Rattle.s161_run.proofs.booted.boot_core.Goals as goal

pub returns-in-Ok-clause-ok : goal.returns-in-Ok-clause-ok
returns-in-Ok-clause-ok c =
    let file = c.args.file.now in
    state_booted file c.args.conf (boot_fault file c.args.conf) c.in-Ok.core c.in-Ok.ensures

pub returns-in-Err-clause-fault : goal.returns-in-Err-clause-fault
returns-in-Err-clause-fault c =
    subst (IsBootFault c.args.file.now c.args.conf) (sym c.fault_of_boot.ensures)
    (state_refused c.args.file.now c.args.conf c.in-Err.error c.in-Err.ensures)
