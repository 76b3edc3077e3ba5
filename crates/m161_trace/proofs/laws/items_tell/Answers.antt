use Rattle.m161_trace.proofs.Tell.{items_tell}
use Rattle.m161_trace.proofs.laws.items_tell.Goals as goal

pub returns : goal.returns
returns c = items_tell
