use Rattle.std.proofs.Common.{arith, rules}
use Rattle.m161_audit.proofs.Walked.{good_all, good_next}
use Rattle.m161_audit.proofs.run.first_bad.Goals as goal

pub loop-k-preserved : goal.loop-k-preserved
loop-k-preserved c = good_next c.args.ram c.args.watches.now c.loop-k.k _ c.is_bad.result (omega arith) c.loop-k.invariant c.is_bad.ensures (search rules)

pub returns : goal.returns
returns c = good_all c.args.ram c.args.watches.now c.loop-k.k (omega arith) c.loop-k.invariant
