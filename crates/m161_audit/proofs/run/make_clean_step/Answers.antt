use Rattle.std.proofs.Common.{rules}
use Rattle.m161_audit.proofs.Made.{step_passes}
use Rattle.m161_audit.proofs.run.make_clean_step.Goals as goal

pub returns-clause-made : goal.returns-clause-made
returns-clause-made g c = λ yes watches s at.
    step_passes watches s c.args.core.now.state c.make_step.new.core.state c.args.shootdowns.now c.make_step.new.shootdowns c.args.p c.uses-judged.result.stored at c.make_step.ensures.made
    c.uses-judged.ensures.stored (c.uses_stale.ensures (search rules) watches s at) c.make_step.ensures.noted
