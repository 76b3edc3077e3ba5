use Rattle.std.proofs.Common.{◌≡◌, ◌∙◌, ℕ, List, IfOk, ap, subst}
use Rattle.m161_symbols.specs.Names.{names_in}
use Rattle.s161_base.proofs.Sampled.{labels_are}
use Rattle.s161_base.proofs.sample.sample_symbols.Goals as goal

pub returns : goal.returns
returns c =
    let P : List (List ℕ × ℕ) → Type 0 = λ labels. IfOk c.new.result (λ symbols. symbols ≡ labels) in
    subst P (ap names_in (c.deref.ensures.value ∙ c.in_ok-labelled.ensures) ∙ labels_are c.in-Ok.program c.in-Ok.ensures) c.new.ensures
