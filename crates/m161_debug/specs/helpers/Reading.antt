use Rattle.std.specs.Prelude.{◌≡◌, ℕ, List, ◌∷◌, ◌++◌, Option, IfSome, IfNone, MatchOption}
use Rattle.std.proofs.Common.{Bor}
use Rattle.m161_text.specs.Parts.{Lacks}

-- a text is read: the result is something that it says, or None if it says nothing
pub record Finds
    {X : Type 0} (Says : X → List ℕ → Type 0) (text : List ℕ) (result : Option X) : Type 0 where
  pub found : IfSome result (λ x. Says x text)
  pub none : IfNone result ((x : X) → Says x text → ⊥)

-- the parts of a text before and after its last c; None if it has no c
abbrev pub CutsLast : ℕ → List ℕ → Option (Bor (List ℕ) × Bor (List ℕ)) → Type 0
CutsLast c text result =
    MatchOption result (Lacks c text) (λ x. Lacks c x.1.now × (text ≡ x.0.now ++ c ∷ x.1.now))
