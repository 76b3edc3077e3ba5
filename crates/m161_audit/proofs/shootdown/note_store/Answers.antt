use Rattle.std.proofs.Common.{rules}
use Rattle.m161_audit.proofs.Walked.{noted_next}
use Rattle.m161_audit.proofs.shootdown.note_store.Goals as goal

pub loop-i-preserved : goal.loop-i-preserved
loop-i-preserved c =
    noted_next c.args.word c.args.items.now.items c.loop-i.items.items c.loop-i.i _ c.index.result.now c.noted.result (search rules) c.loop-i.invariant.0 c.loop-i.invariant.1 c.index.ensures c.noted.ensures
