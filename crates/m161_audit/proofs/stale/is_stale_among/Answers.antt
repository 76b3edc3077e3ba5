use Rattle.std.proofs.Common.{arith, rules}
use Rattle.m161_audit.specs.helpers.Progress.{is_stale_for}
use Rattle.m161_audit.proofs.Walked.{false_from}
use Rattle.m161_audit.proofs.stale.is_stale_among.Goals as goal

pub loop-i-preserved : goal.loop-i-preserved
loop-i-preserved g c =
    false_from (is_stale_for c.args.core.now.state c.args.p c.args.via.now) c.args.items.now c.args.first c.loop-i.i _ c.is_stale_for.result (omega arith) c.loop-i.invariant c.is_stale_for.ensures (search rules)

pub returns-clause-no : goal.returns-clause-no
returns-clause-no g c = λ _ i x after before at. c.loop-i.invariant i x after (omega (arith, before)) at
