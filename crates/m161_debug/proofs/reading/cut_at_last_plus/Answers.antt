use Rattle.std.proofs.Common.{arith}
use Rattle.m161_debug.proofs.Names.{cuts_last}
use Rattle.m161_debug.proofs.reading.cut_at_last_plus.Goals as goal

pub returns : goal.returns
returns c = cuts_last 43 c.args.text.now c.rsplit_once.result c.rsplit_once.ensures.cases (omega arith)
