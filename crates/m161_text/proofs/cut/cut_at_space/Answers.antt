use Rattle.std.proofs.Common.{arith}
use Rattle.m161_text.proofs.Parts.{cuts}
use Rattle.m161_text.proofs.cut.cut_at_space.Goals as goal

pub returns : goal.returns
returns c = cuts 32 c.args.text.now c.split_once.result c.split_once.ensures.cases (omega arith)
