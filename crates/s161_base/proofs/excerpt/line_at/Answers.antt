use Rattle.std.proofs.Common.{◌≡◌, ◌-◌, ◌∙◌, [], ap, sym, refl, rules, arith}
use Rattle.std.specs.Prelude.{slice_get, unwrap_or}
use Rattle.m161_text.specs.Lines.{lines_of}
use Rattle.s161_base.proofs.Words.{line_behind, no_line}
use Rattle.s161_base.proofs.excerpt.line_at.Goals as goal

pub returns-in_default : goal.returns-in_default
returns-in_default c =
    let n = c.args.n in
    sym (ap (λ line. unwrap_or line []) c.loop-at.invariant.line
    ∙ no_line (lines_of c.loop-at.rest.now) (n - c.loop-at.at) (ap lines_of c.in_default.ensures.lines))

pub loop-at-preserved : goal.loop-at-preserved
loop-at-preserved c = record {
  line = c.loop-at.invariant.line
      ∙ line_behind (lines_of c.loop-at.rest.now) _ _ c.args.n c.loop-at.at c.loop-at-test.true c.in-Some.ensures.lines;
  utf8 = search rules;
}

pub returns-in-Some-next_line : goal.returns-in-Some-next_line
returns-in-Some-next_line c =
    let none : c.args.n - c.loop-at.at ≡ 0 = omega (arith, c.loop-at-test.false) in
    let here = c.loop-at.invariant.line ∙ ap (λ k. slice_get (lines_of c.loop-at.rest.now) k) none in
    sym (ap (λ line. unwrap_or line []) here ∙ ap (λ lines. unwrap_or (slice_get lines 0) []) c.in-Some-next_line.ensures.lines)

pub returns-in-None : goal.returns-in-None
returns-in-None c =
    sym (ap (λ line. unwrap_or line []) c.loop-at.invariant.line
    ∙ no_line (lines_of c.loop-at.rest.now) (c.args.n - c.loop-at.at) (ap lines_of c.in-None.ensures.lines))

pub loop-at-init : goal.loop-at-init
loop-at-init c = record { line = refl; utf8 = search rules }
