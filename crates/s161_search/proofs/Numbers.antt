use Rattle.std.proofs.Common.{◌≡◌, ◌∙◌, ap, sym, ℕ, zero, suc, ◌<◌, List, [], ◌∷◌, ◌++◌, length, take, arith, append_assoc}
use Rattle.std.proofs.lemmas.List.{append-nil}
use Rattle.std.specs.Prelude.{codes, decimal, slice_index_or}
use Rattle.s161_search.specs.Texts.{numbers_text}

-- The numbers of a list, as text.

pub numbers_more : (ns : List ℕ) (i d : ℕ) → i < length ns →
    numbers_text (take (suc i) ns) ≡ numbers_text (take i ns) ++ (codes " " ++ decimal (slice_index_or ns i d))
numbers_more [] i d there = absurd (let bad : ⊥ = omega (arith, there) in bad)
numbers_more (n ∷ ns) zero d there = append-nil (codes " " ++ decimal n)
numbers_more (n ∷ ns) (suc i) d there =
    let first = codes " " ++ decimal n in
    ap (λ xs. first ++ xs) (numbers_more ns i d (omega (arith, there)))
    ∙ sym (append_assoc first (numbers_text (take i ns)) (codes " " ++ decimal (slice_index_or ns i d)))
