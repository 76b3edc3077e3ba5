use Rattle.std.specs.Prelude.{ℕ, Bool, List, [], ◌∷◌}
use Rattle.m161_audit.specs.declared.watch.Watch.{Watch}
use Rattle.m161_stores.specs.declared.watches.Unstored.{Unstored}

-- To which words of watches no Step stores.

-- of each watch, whether this is so of its two words
abbrev pub AreUnstored : (ℕ → Bool → Type 0) → List Watch → List Unstored → Type 0
AreUnstored IsSo [] [] = Unit {0}
AreUnstored IsSo [] (u ∷ us) = ⊥
AreUnstored IsSo (w ∷ ws) [] = ⊥
AreUnstored IsSo (w ∷ ws) (u ∷ us) =
    IsSo w.pte u.pte × IsSo w.done u.done × AreUnstored IsSo ws us
