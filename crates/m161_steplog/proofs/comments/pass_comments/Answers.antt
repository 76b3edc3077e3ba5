use Rattle.std.proofs.Common.{rules, ◌≡◌, true, false, eqb, get_or, arith}
use Rattle.std.proofs.lemmas.Bool.Decides.{nat_tests}
use Rattle.m161_text.specs.Lines.{lines_of}
use Rattle.m161_steplog.specs.Comments.{is_comment}
use Rattle.m161_steplog.proofs.Passing.{comment_test, passed_more, plain_line, plain_empty, passed_all}
use Rattle.m161_steplog.proofs.comments.pass_comments.Goals as goal

pub returns-then-not-starts_with-clause-behind : goal.returns-then-not-starts_with-clause-behind
returns-then-not-starts_with-clause-behind c =
    let test : c.starts_with.result ≡ eqb (get_or c.in-Some.line.now 0 0) 35 = c.starts_with.ensures.byte (omega arith) (omega arith) (λ _ _ h. h) in
    let no : is_comment c.in-Some.line.now ≡ false = grind (arith, nat_tests, comment_test c.in-Some.line.now) in
    (passed_all c.args.text.now c.loop-line.rest.now c.loop-line.count c.loop-line.invariant.passed (plain_line c.loop-line.rest.now c.in-Some.line.now (lines_of c.in-Some.more.now) c.in-Some.ensures.lines no)).0

pub returns-then-not-starts_with-clause-count : goal.returns-then-not-starts_with-clause-count
returns-then-not-starts_with-clause-count c =
    let test : c.starts_with.result ≡ eqb (get_or c.in-Some.line.now 0 0) 35 = c.starts_with.ensures.byte (omega arith) (omega arith) (λ _ _ h. h) in
    let no : is_comment c.in-Some.line.now ≡ false = grind (arith, nat_tests, comment_test c.in-Some.line.now) in
    (passed_all c.args.text.now c.loop-line.rest.now c.loop-line.count c.loop-line.invariant.passed (plain_line c.loop-line.rest.now c.in-Some.line.now (lines_of c.in-Some.more.now) c.in-Some.ensures.lines no)).1

pub loop-line-preserved : goal.loop-line-preserved
loop-line-preserved c =
    let test : c.starts_with.result ≡ eqb (get_or c.in-Some.line.now 0 0) 35 = c.starts_with.ensures.byte (omega arith) (omega arith) (λ _ _ h. h) in
    let yes : is_comment c.in-Some.line.now ≡ true = grind (arith, nat_tests, comment_test c.in-Some.line.now) in
    record {
      passed = passed_more c.args.text.now c.loop-line.rest.now c.in-Some.line.now c.in-Some.more.now c.loop-line.count c.loop-line.invariant.passed c.in-Some.ensures.lines c.in-Some.ensures.cut yes;
      utf8 = search rules;
      short = omega (arith, c.in-Some.ensures.shorter, c.loop-line.invariant.short);
    }

pub returns-clause-behind : goal.returns-clause-behind
returns-clause-behind c = (passed_all c.args.text.now c.loop-line.rest.now c.loop-line.count c.loop-line.invariant.passed (plain_empty c.loop-line.rest.now c.in_default.ensures.lines)).0

pub returns-clause-count : goal.returns-clause-count
returns-clause-count c = (passed_all c.args.text.now c.loop-line.rest.now c.loop-line.count c.loop-line.invariant.passed (plain_empty c.loop-line.rest.now c.in_default.ensures.lines)).1
