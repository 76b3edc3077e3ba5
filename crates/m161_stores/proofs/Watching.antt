use Rattle.std.proofs.Common.{ℕ, Bool, List, [], ◌∷◌, ◌++◌}
use Rattle.m161_audit.specs.declared.watch.Watch.{Watch}
use Rattle.m161_stores.specs.declared.watches.Unstored.{Unstored}
use Rattle.m161_stores.specs.Watches.{AreUnstored}

-- Watches, one by one.

abbrev pub no_watch : Watch
no_watch = record { id = 0; page = 0; pte = 0; done = 0 }

-- one more
pub one_more : (IsSo : ℕ → Bool → Type 0) (ws : List Watch) (us : List Unstored) (w : Watch) (u : Unstored) → AreUnstored IsSo ws us → IsSo w.pte u.pte → IsSo w.done u.done →
    AreUnstored IsSo (ws ++ w ∷ []) (us ++ u ∷ [])
one_more IsSo [] [] w u h pte done = (pte, done, tt)
one_more IsSo [] (v ∷ us) w u h pte done = absurd h
one_more IsSo (x ∷ ws) [] w u h pte done = absurd h
one_more IsSo (x ∷ ws) (v ∷ us) w u h pte done = (h.0, h.1, one_more IsSo ws us w u h.2 pte done)
