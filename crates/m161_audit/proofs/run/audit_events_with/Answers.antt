use Rattle.m161_machine.specs.History.{boot_fault}
use Rattle.m161_audit.proofs.Begun.{audits}
use Rattle.m161_audit.proofs.run.audit_events_with.Goals as goal

pub returns : goal.returns
returns g c =
    audits c.args.file.now c.args.conf (boot_fault c.args.file.now c.args.conf) c.args.events.now c.args.watches.now c.in_ok-core.core c.in_ok-core.shootdowns c.find.result
    c.in_ok-core.ensures c.find.ensures
