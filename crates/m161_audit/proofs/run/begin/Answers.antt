use Rattle.std.proofs.Common.{Err}
use Rattle.std.proofs.lemmas.Result.{err_from_is_err_and}
use Rattle.m161_machine.specs.History.{boot_fault}
use Rattle.m161_audit.proofs.Begun.{begun, booted, not_enough}
use Rattle.m161_audit.proofs.run.begin.Goals as goal

pub returns : goal.returns
returns g c =
    begun c.args.file.now c.args.conf (boot_fault c.args.file.now c.args.conf) c.args.watches.now c.in_ok-machine.machine c.into_core.result c.in_ok-shootdowns.shootdowns
    c.in_ok-machine.ensures.answer c.in_default.ensures c.into_core.ensures c.in_ok-shootdowns.ensures

pub returns-in_err-shootdowns : goal.returns-in_err-shootdowns
returns-in_err-shootdowns g c =
    let p = err_from_is_err_and c.from_residual-in_err-shootdowns.result c.from_residual-in_err-shootdowns.ensures.1 in
    rw p.1 (booted c.args.file.now c.args.conf (boot_fault c.args.file.now c.args.conf) c.args.watches.now c.in_ok-machine.machine (Err p.0)
    c.in_ok-machine.ensures.answer (not_enough c.args.file.now c.args.conf c.args.watches.now p.0 p.2))
