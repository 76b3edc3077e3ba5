use Rattle.s161_base.specs.FaultLines.{detail_of}
use Rattle.s161_base.specs.Explained.{explanation_of}
use Rattle.s161_base.proofs.Putting.{puts_less, puts_same, puts_then}
use Rattle.s161_base.proofs.Words.{bracketed, shown_now}
use Rattle.s161_base.proofs.report.put_explanation.Goals as goal

pub returns-in_err-put-in-Some : goal.returns-in_err-put-in-Some
returns-in_err-put-in-Some g c =
    let is = shown_now c.explanation.result c.in-Some.why (explanation_of c.args.fault) c.explanation.ensures c.in-Some.is in
    puts_same _ _ _ _ _ (bracketed (explanation_of c.args.fault) c.in-Some.why.now (detail_of c.args.fault) is)
    (puts_less _ _ _ _ _ _ c.in_err-put-in-Some.ensures c.from_residual.ensures.1)

pub returns-in_err-put_reason-in-Some : goal.returns-in_err-put_reason-in-Some
returns-in_err-put_reason-in-Some g c =
    let is = shown_now c.explanation.result c.in-Some.why (explanation_of c.args.fault) c.explanation.ensures c.in-Some.is in
    puts_same _ _ _ _ _ (bracketed (explanation_of c.args.fault) c.in-Some.why.now (detail_of c.args.fault) is)
    (puts_then _ _ _ _ _ _ c.in_ok-put-in-Some.ensures
    (puts_less _ _ _ _ _ _ c.in_err-put_reason-in-Some.ensures c.from_residual-in_err-put_reason-in-Some.ensures.1))

pub returns-in_ok-put_reason-in-Some : goal.returns-in_ok-put_reason-in-Some
returns-in_ok-put_reason-in-Some g c =
    let is = shown_now c.explanation.result c.in-Some.why (explanation_of c.args.fault) c.explanation.ensures c.in-Some.is in
    puts_same _ _ _ _ _ (bracketed (explanation_of c.args.fault) c.in-Some.why.now (detail_of c.args.fault) is)
    (puts_then _ _ _ _ _ _ c.in_ok-put-in-Some.ensures
    (puts_then _ _ _ _ _ _ c.in_ok-put_reason-in-Some.ensures c.put-in-Some.ensures))
