use Rattle.std.proofs.Common.{◌∙◌, subst, sym, Some}
use Rattle.m161_judge.specs.helpers.Walk.{IsJudgedBehind}
use Rattle.m161_judge.proofs.Judging.{asked_for, judged_end, judged_output, judged_sent, judged_stuck, judged_unasked, judged_waiting, unasked_for}
use Rattle.m161_judge.proofs.seen.Seen.verdict_behind.Goals as goal

pub returns-in-Some : goal.returns-in-Some
returns-in-Some g c = λ criteria s events out ends seen.
    subst (λ j. IsJudgedBehind criteria s events (Some j)) (sym c.judged.ensures)
    (judged_stuck criteria s events c.args.made c.in-Some.events c.args.core.now.state c.args.self (record { ends = ends; looked = seen }) c.in-Some.is)

pub returns-then-is_none : goal.returns-then-is_none
returns-then-is_none g c = λ criteria s events out ends seen.
    judged_unasked criteria s events c.args.made c.args.core.now.state c.args.self (record { ends = ends; looked = seen }) c.in_default.is
    (out ∙ unasked_for c.args.output c.is_none.result c.is_none.ensures c.if-is_none.true)

pub returns-then-has_sent : goal.returns-then-has_sent
returns-then-has_sent g c = λ criteria s events out ends seen.
    judged_sent criteria s events c.args.made c.args.core.now.state c.args.self (record { ends = ends; looked = seen }) c.in_default.is
    (sym c.is_off.ensures ∙ c.if-is_off.true) (out ∙ c.has_sent.ensures.yes c.if-has_sent.true)

pub returns-then-is_off : goal.returns-then-is_off
returns-then-is_off g c = λ criteria s events out ends seen.
    subst (λ j. IsJudgedBehind criteria s events (Some j)) (sym c.judged-then-is_off.ensures)
    (judged_output criteria s events c.args.made c.args.core.now.state c.args.self (record { ends = ends; looked = seen }) c.in_default.is
    (λ none. asked_for c.args.output c.is_none.result c.is_none.ensures c.if-is_none.false (sym out ∙ none))
    (sym c.is_off.ensures ∙ c.if-is_off.true) (λ sent. c.has_sent.ensures.no c.if-has_sent.false (sym out ∙ sent)))

pub returns-then-self : goal.returns-then-self
returns-then-self g c = λ criteria s events out ends seen.
    judged_waiting criteria s events c.args.made c.args.core.now.state c.args.self (record { ends = ends; looked = seen }) c.in_default.is
    (sym c.is_off.ensures ∙ c.if-is_off.false) c.if-self.true

pub returns : goal.returns
returns g c = λ criteria s events out ends seen.
    subst (λ j. IsJudgedBehind criteria s events (Some j)) (sym c.judged-2.ensures)
    (judged_end criteria s events c.args.made c.args.core.now.state c.args.self (record { ends = ends; looked = seen }) c.in_default.is
    (λ none. asked_for c.args.output c.is_none.result c.is_none.ensures c.if-is_none.false (sym out ∙ none))
    (sym c.is_off.ensures ∙ c.if-is_off.false) c.if-self.false)
