use Rattle.std.proofs.Common.{◌∙◌, subst}
use Rattle.m161_judge.specs.Memory.{IsKeptOf}
use Rattle.m161_c.proofs.points.go_along.Goals as goal

pub returns-clause-kept : goal.returns-clause-kept
returns-clause-kept c = λ s begun rest parts h.
    subst (λ es. IsKeptOf c.args.goal.now s es c.keep_on.new.steps) c.deref.ensures.value
    (c.in_ok-keep_on.ensures s begun rest (c.deref.ensures.value ∙ parts) h)
