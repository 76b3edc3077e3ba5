use Rattle.std.proofs.Common.{inl, inr, subst, arith, ◌≡◌, map}
use Rattle.m161_audit.specs.helpers.Progress.{after_word}
use Rattle.m161_audit.proofs.Walked.{all_outside}
use Rattle.m161_audit.proofs.shootdown.Shootdowns.may_be_watched.Goals as goal

pub returns-then-word-self : goal.returns-then-word-self
returns-then-word-self c = λ _.
    subst (λ xs. map (after_word c.args.word) xs ≡ xs) c.self.view_is
    (all_outside c.self.inside.low c.self.inside.high c.args.word c.self.inside.items.items c.self.invariant.0 (inl (omega arith)))

pub returns-then-word-self-2 : goal.returns-then-word-self-2
returns-then-word-self-2 c = λ _.
    subst (λ xs. map (after_word c.args.word) xs ≡ xs) c.self.view_is
    (all_outside c.self.inside.low c.self.inside.high c.args.word c.self.inside.items.items c.self.invariant.0 (inr (omega arith)))
