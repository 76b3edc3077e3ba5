use Rattle.std.proofs.Common.{◌≡◌, ◌+◌, subst, arith, rules}
use Rattle.std.proofs.lemmas.Result.{err_from_is_err_and}
use Rattle.m161_text.specs.Lines.{FirstBad}
use Rattle.m161_steplog.specs.Schedule.{AreScheduleLines}
use Rattle.m161_steplog.proofs.Progress.{SoFar, more, end, end_only, bad_line, overfull, no_bad, err_only}
use Rattle.m161_steplog.proofs.schedule.read_schedule.Goals as goal

pub returns-in_default-parse_item-clause-line : goal.returns-in_default-parse_item-clause-line
returns-in_default-parse_item-clause-line c = λ n is.
    let here : c.loop-line.number + 1 ≡ n = cc in
    subst (FirstBad AreScheduleLines c.args.text.now) here (bad_line c.args.text.now c.loop-line.rest.now c.in-Some.line.now c.in-Some.more.now c.loop-line.events c.loop-line.number c.loop-line.invariant.so_far c.in-Some.ensures.lines c.in_default-parse_item.ensures)

pub returns-in_default-parse_item-clause-only : goal.returns-in_default-parse_item-clause-only
returns-in_default-parse_item-clause-only c = λ es other.
    absurd (no_bad _ es _ other (bad_line c.args.text.now c.loop-line.rest.now c.in-Some.line.now c.in-Some.more.now c.loop-line.events c.loop-line.number c.loop-line.invariant.so_far c.in-Some.ensures.lines c.in_default-parse_item.ensures))

pub returns-in_err-push_item-clause-line : goal.returns-in_err-push_item-clause-line
returns-in_err-push_item-clause-line c =
    let p = err_from_is_err_and c.from_residual.result c.from_residual.ensures.1 in
    overfull c.args.text.now c.loop-line.rest.now c.in-Some.line.now c.in-Some.more.now c.loop-line.events c.loop-line.number c.in-Some-parse_item.item c.from_residual.result c.in_err-push_item.field-0.0 p.0 c.loop-line.invariant.so_far
    c.in-Some.ensures.lines c.in-Some-parse_item.ensures p.1 p.2 c.in_err-push_item.ensures.full

pub returns-in_err-push_item-clause-only : goal.returns-in_err-push_item-clause-only
returns-in_err-push_item-clause-only c = λ es other.
    let p = err_from_is_err_and c.from_residual.result c.from_residual.ensures.1 in
    err_only c.args.text.now c.from_residual.result p.0 p.1
    (overfull c.args.text.now c.loop-line.rest.now c.in-Some.line.now c.in-Some.more.now c.loop-line.events c.loop-line.number c.in-Some-parse_item.item c.from_residual.result c.in_err-push_item.field-0.0 p.0 c.loop-line.invariant.so_far
    c.in-Some.ensures.lines c.in-Some-parse_item.ensures p.1 p.2 c.in_err-push_item.ensures.full) es other

pub loop-line-preserved : goal.loop-line-preserved
loop-line-preserved c = record {
  so_far = more c.args.text.now c.loop-line.rest.now c.in-Some.line.now c.in-Some.more.now c.loop-line.events c.push_item.new.events c.loop-line.number c.in-Some-parse_item.item c.loop-line.invariant.so_far c.in-Some.ensures.lines c.in-Some-parse_item.ensures c.in_ok-push_item.ensures.ok.0 c.in_ok-push_item.ensures.ok.1;
  utf8 = search rules;
  short = omega (arith, c.in-Some.ensures.shorter, c.loop-line.invariant.short);
}

pub returns-clause-found : goal.returns-clause-found
returns-clause-found c = end c.args.text.now c.loop-line.events c.loop-line.number (subst (λ bs. SoFar c.args.text.now bs c.loop-line.events c.loop-line.number) c.in_default.ensures.lines c.loop-line.invariant.so_far)

pub returns-clause-only : goal.returns-clause-only
returns-clause-only c = λ es other. end_only c.args.text.now c.loop-line.events es c.loop-line.number (subst (λ bs. SoFar c.args.text.now bs c.loop-line.events c.loop-line.number) c.in_default.ensures.lines c.loop-line.invariant.so_far) other
