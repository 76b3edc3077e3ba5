use Rattle.m161_audit.proofs.Made.{still_at}
use Rattle.m161_audit.proofs.run.audit_event.Goals as goal

pub returns-then-make_clean_step : goal.returns-then-make_clean_step
returns-then-make_clean_step g c = rw c.in-Step.is (λ watches s at. c.make_clean_step.ensures.made c.if-make_clean_step.true watches s at)

pub returns-in-None : goal.returns-in-None
returns-in-None g c = rw c.in-Step.is (λ watches s at. c.in-None.ensures watches s
    (still_at watches s c.args.core.now.state c.make_clean_step.new.core.state c.args.shootdowns.now c.make_clean_step.new.shootdowns at
    (c.make_clean_step.ensures.kept c.if-make_clean_step.false)))
