use Rattle.std.specs.Prelude.{Ok, [], drop, ◌+◌}
use Rattle.std.proofs.Common.{arith}
use Rattle.m161_text.specs.Lines.{lines_of}
use Rattle.m161_asm.specs.helpers.Seen.{above_of}
use Rattle.m161_asm.proofs.Above.{shorter, step_on, step_off, at_end, dropped_within}
use Rattle.m161_asm.proofs.first.first_pass.Goals as goal

pub returns-in-Err-clause-value : goal.returns-in-Err-clause-value
returns-in-Err-clause-value c =
    step_off (λ p. above_of p.lines.items) _
    (above_of c.loop-rest.pass.lines.items) c.loop-rest.rest.now c.len_before-len.result
    (Ok []) _ c.loop-rest-test.true c.len_before-len.ensures.value
    (c.in-Err.ensures.value
    (lines_of (drop
    (c.len_before-len.result + 1)
    c.loop-rest.rest.now))) c.loop-rest.invariant.so_far

pub returns-in-Err-clause-line : goal.returns-in-Err-clause-line
returns-in-Err-clause-line c =
    let e = shorter c.loop-rest.rest.now c.len_before-len.result c.loop-rest-test.true
    c.len_before-len.ensures.value in (
      omega (arith, c.in-Err.ensures.line),
      omega (arith, e, c.in-Err.ensures.line, c.loop-rest.invariant.counted),
    )

pub loop-rest-preserved : goal.loop-rest-preserved
loop-rest-preserved c =
    let below = drop (c.len_before-len.result + 1) c.loop-rest.rest.now in
    let d = dropped_within c.loop-rest.rest.now (c.len_before-len.result + 1) in
    let e = shorter c.loop-rest.rest.now c.len_before-len.result c.loop-rest-test.true
    c.len_before-len.ensures.value in
    record {
      pass = c.in_default.ensures.pass;
      so_far =
          rw c.behind_line-rest.ensures
          (step_on (above_of c.loop-rest.pass.lines.items) _ c.loop-rest.rest.now
          c.len_before-len.result _ c.loop-rest-test.true c.len_before-len.ensures.value
          (c.in_default.ensures.value (lines_of below)) c.loop-rest.invariant.so_far);
      within = rw c.behind_line-rest.ensures (omega (arith, d));
      counted =
          rw c.behind_line-rest.ensures
          (omega (arith, e, c.in_default.ensures.count, c.loop-rest.invariant.counted));
    }

pub returns-clause-value : goal.returns-clause-value
returns-clause-value c =
    at_end _ c.loop-rest.rest.now _ c.loop-rest-test.false c.loop-rest.invariant.so_far
