use Rattle.std.proofs.Common.{◌≡◌, ◌∙◌, ap, sym, ℕ, zero, suc, ◌+◌, ◌<◌, List, [], ◌∷◌, ◌++◌, false, length, take, arith, append_assoc}
use Rattle.std.proofs.lemmas.List.{append-nil}
use Rattle.std.specs.Prelude.{slice_index_or}
use Rattle.m161_stores.specs.declared.watches.Unstored.{Unstored}
use Rattle.s161_search.specs.Notes.{notes_text, watch_notes}

-- Notes on watches, one by one.

abbrev pub none_unstored : Unstored
none_unstored = record { pte = false; done = false }

pub notes_more : (us : List Unstored) (i k : ℕ) → i < length us →
    notes_text k (take (suc i) us) ≡ notes_text k (take i us) ++ watch_notes (k + i) (slice_index_or us i none_unstored)
notes_more [] i k there = absurd (let bad : ⊥ = omega (arith, there) in bad)
notes_more (u ∷ us) zero k there =
    let number : k ≡ k + 0 = omega arith in
    append-nil (watch_notes k u) ∙ ap (λ n. watch_notes n u) number
notes_more (u ∷ us) (suc i) k there =
    let first = watch_notes k u in
    let number : (k + 1) + i ≡ k + suc i = omega arith in
    ap (λ xs. first ++ xs) (notes_more us i (k + 1) (omega (arith, there)))
    ∙ sym (append_assoc first (notes_text (k + 1) (take i us)) (watch_notes ((k + 1) + i) (slice_index_or us i none_unstored)))
    ∙ ap (λ n. (first ++ notes_text (k + 1) (take i us)) ++ watch_notes n (slice_index_or us i none_unstored)) number
