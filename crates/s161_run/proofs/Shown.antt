use Rattle.std.proofs.Common.{◌≡◌, ◌∙◌, ◌+◌, ℕ, List, [], ◌∷◌, ◌++◌, ap, flat_map, map, refl, sym, arith}
use Rattle.std.specs.List.{range_with_len}
use Rattle.std.proofs.lemmas.List.{flat_map_more}
use Rattle.std.proofs.lemmas.List.FromFn.{map-range_with_len_more}
use Rattle.m161_machine.specs.State.{State}
use Rattle.s161_run.specs.Runs.{started_text, started_texts}

-- Texts of processors.

same_map : (xs : List ℕ) → map (λ x. x) xs ≡ xs
same_map [] = refl
same_map (x ∷ xs) = ap (λ l. x ∷ l) (same_map xs)

range_more : (n : ℕ) → range_with_len 0 (n + 1) ≡ range_with_len 0 n ++ n ∷ []
range_more n =
    sym (same_map (range_with_len 0 (n + 1))) ∙ map-range_with_len_more (λ x. x) 0 n n (omega arith) ∙ ap (λ l. l ++ n ∷ []) (same_map (range_with_len 0 n))

-- one processor more
pub started_more : (s : State) (n : ℕ) → started_texts s (n + 1) ≡ started_texts s n ++ started_text s n
started_more s n =
    ap (flat_map (started_text s)) (range_more n) ∙ sym (flat_map_more (started_text s) [] (range_with_len 0 n) n)
