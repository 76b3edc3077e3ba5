use Rattle.std.proofs.Common.{◌≡◌, ◌∙◌, ◌%◌, Some, ap, arith, subst, sym}
use Rattle.std.specs.Prelude.{slice_get}
use Rattle.m161_audit.proofs.Judged.{none_in_range}
use Rattle.m161_audit.proofs.stale.is_stale.Goals as goal

pub returns-then-first-past-clause-no : goal.returns-then-first-past-clause-no
returns-then-first-past-clause-no g c = λ wrong.
    none_in_range c.args.core.now.state c.args.p c.args.via.now c.args.shootdowns.now c.range-first.result.0 c.range-first.result.1
    (λ i x at page over. c.range-first.ensures.range i x at (page ∙ ap (λ n. n % 64) (sym c.number.ensures.value)) over)
    (λ i x after before at. c.is_stale_among.ensures.no wrong i x after before (subst (λ xs. slice_get xs i ≡ Some x) (sym c.as_slice.ensures) at))

pub returns-else-first-past-clause-no : goal.returns-else-first-past-clause-no
returns-else-first-past-clause-no g c = λ _.
    none_in_range c.args.core.now.state c.args.p c.args.via.now c.args.shootdowns.now c.range-first.result.0 c.range-first.result.1
    (λ i x at page over. c.range-first.ensures.range i x at (page ∙ ap (λ n. n % 64) (sym c.number.ensures.value)) over)
    (λ i x after before at. absurd (omega (arith, after, before)))
