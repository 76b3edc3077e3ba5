use Rattle.m161_trace.proofs.Spaced.{differs_ok, same}
use Rattle.m161_trace.proofs.shared.add_changed_link.Goals as goal

pub returns-then-before-after : goal.returns-then-before-after
returns-then-before-after c = same _ _ _ _ c.if-before-after.true

pub returns : goal.returns
returns c = differs_ok _ _ _ _ _ _ c.if-before-after.false c.push_linked.ensures
