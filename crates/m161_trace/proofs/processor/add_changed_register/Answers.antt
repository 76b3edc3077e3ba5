use Rattle.m161_trace.proofs.Spaced.{differs_in_ok, same}
use Rattle.m161_trace.proofs.processor.add_changed_register.Goals as goal

pub returns-then-before-after : goal.returns-then-before-after
returns-then-before-after c = same _ _ _ _ c.if-before-after.true c.args.style.now

pub returns : goal.returns
returns c = differs_in_ok _ c.args.style.now _ _ _ _ _ c.if-before-after.false c.push_register.ensures
