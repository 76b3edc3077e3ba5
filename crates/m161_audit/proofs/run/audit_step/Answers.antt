use Rattle.std.proofs.Common.{rules, refl}
use Rattle.m161_machine.specs.declared.event.Event.TheVariants.{Step}
use Rattle.m161_audit.proofs.Made.{refused_next, refused_passes}
use Rattle.m161_audit.proofs.run.audit_step.Goals as goal

pub returns-in-Some : goal.returns-in-Some
returns-in-Some g c = λ watches s at.
    refused_passes watches s c.args.core.now.state c.args.core.now.state c.args.shootdowns.now c.args.shootdowns.now (Step c.args.p) c.in-Some.field-0 at
    (refused_next c.args.core.now.state (Step c.args.p) c.in-Some.field-0 (search rules)) refl refl
