use Rattle.m161_audit.proofs.Made.{step_is_stale, step_passes}
use Rattle.m161_audit.proofs.run.audit_accepted_step.Goals as goal

pub returns-in-Some : goal.returns-in-Some
returns-in-Some g c = λ watches s at.
    step_is_stale watches s c.args.core.now.state c.args.shootdowns.now c.args.p _ at c.requires.refusal (c.in-Some.ensures watches s at)

pub returns : goal.returns
returns g c = λ watches s at.
    step_passes watches s c.args.core.now.state c.make_step.new.core.state c.args.shootdowns.now c.make_step.new.shootdowns c.args.p c.uses-uses.result.stored at c.make_step.ensures.made
    c.uses-uses.ensures.stored (c.in_default.ensures watches s at) c.make_step.ensures.noted
