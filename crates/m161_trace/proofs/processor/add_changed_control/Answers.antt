use Rattle.m161_trace.proofs.Spaced.{differs_ok, same}
use Rattle.m161_trace.proofs.processor.add_changed_control.Goals as goal

pub returns-then-before-after : goal.returns-then-before-after
returns-then-before-after c = same _ _ _ _ c.if-before-after.true

pub returns : goal.returns
returns c = differs_ok _ _ _ _ _ _ c.if-before-after.false c.push_control.ensures
