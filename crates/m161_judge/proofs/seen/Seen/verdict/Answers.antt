use Rattle.std.proofs.Common.{subst, sym, Some}
use Rattle.m161_judge.specs.helpers.Walk.{IsConflictOff, IsJudgedBeside}
use Rattle.m161_judge.proofs.Judging.{judged_behind, judged_conflict}
use Rattle.m161_judge.proofs.seen.Seen.verdict.Goals as goal

pub returns-in-Some : goal.returns-in-Some
returns-in-Some g c = λ criteria s events out ends seen.
    subst (λ j. IsJudgedBeside criteria s events (Some j)) (sym c.judged.ensures)
    (judged_conflict criteria s events c.args.made c.args.core.now.state c.in-Some.conflict ends
    (subst (IsConflictOff c.args.core.now.state) c.in-Some.is c.conflict_off.ensures))

pub returns-in-None : goal.returns-in-None
returns-in-None g c = λ criteria s events out ends seen.
    judged_behind criteria s events c.args.made c.args.core.now.state c.verdict_behind.result ends
    (subst (IsConflictOff c.args.core.now.state) c.in-None.is c.conflict_off.ensures)
    (c.verdict_behind.ensures criteria s events out ends seen)
