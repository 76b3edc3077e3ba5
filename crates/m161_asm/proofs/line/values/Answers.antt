use Rattle.std.proofs.Common.{sym, ◌∙◌, refl, arith}
use Rattle.m161_asm.proofs.Listed.{one_more, last_one, bad_value, bad_comma, none_left, none_seen, some_seen}
use Rattle.m161_asm.proofs.line.values.Goals as goal

pub returns-in-Err : goal.returns-in-Err
returns-in-Err c =
    bad_value _ _ _ _ _ _ _ _ c.loop-i-test.true c.in-Err.ensures c.loop-i.invariant

pub returns-then-behind-eq0 : goal.returns-then-behind-eq0
returns-then-behind-eq0 c =
    let e = none_seen _ c.if-behind-eq0.true in
    last_one _ _ _ _ _ _ _ c.loop-i-test.true (rw e at c.in-Ok.ensures) c.loop-i.invariant

pub returns-then-not-has_mark : goal.returns-then-not-has_mark
returns-then-not-has_mark c =
    bad_comma _ _ _ _ _ _ _ _ c.loop-i-test.true c.in-Ok.ensures
    (some_seen _ (omega (arith, c.if-behind-eq0.false))) (sym c.has_mark.ensures ∙ c.if-not-has_mark.true) c.loop-i.invariant
    ∙ rw (c.wrong.ensures.kind, c.wrong.ensures.column) refl

pub loop-i-preserved : goal.loop-i-preserved
loop-i-preserved c =
    rw c.after_next-rest.ensures
    (one_more _ _ _ _ _ _ _ _ c.loop-i-test.true c.in-Ok.ensures
    (some_seen _ (omega (arith, c.if-behind-eq0.false))) (sym c.has_mark.ensures ∙ c.if-not-has_mark.false) c.loop-i.invariant)

pub returns : goal.returns
returns c =
    none_left _ _ _ _ _ _ c.loop-i-test.false c.loop-i.invariant
    ∙ rw (c.wrong-2.ensures.kind, c.wrong-2.ensures.column) refl
