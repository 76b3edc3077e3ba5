use Rattle.std.proofs.Common.{◌≡◌, ◌∙◌, refl, ap, sym, ℕ, ◌+◌, ◌<◌, Bool, true, false, List, [], ◌∷◌, ◌++◌, length, get_or, arith}
use Rattle.std.specs.Prelude.{nat_lt}
use Rattle.std.proofs.lemmas.Bool.Decides.{nat_tests}
use Rattle.std.proofs.lemmas.List.{get_or_append_left, get_or-append-add}

-- The workers of a run.

-- one element more, each with its value
by_place : {A B : Type 0} (f : A → B) (g : ℕ → B) (xs : List A) (x : A) →
    ((k : ℕ) (d : A) → k < length xs → f (get_or xs k d) ≡ g k) → f x ≡ g (length xs) →
    (k : ℕ) (d : A) (b : Bool) → nat_lt k (length xs) ≡ b → k < length xs + 1 → f (get_or (xs ++ x ∷ []) k d) ≡ g k
by_place {A} f g xs x each last k d true test inside =
    let before : k < length xs = grind (arith, nat_tests, test) in
    ap f (get_or_append_left xs (x ∷ []) d k before) ∙ each k d before
by_place {A} f g xs x each last k d false test inside =
    let here : k ≡ length xs = grind (arith, nat_tests, test, inside) in
    let there : length xs + 0 ≡ k = omega (arith, here) in
    ap f (ap (λ n. get_or (xs ++ x ∷ []) n d) (sym there) ∙ get_or-append-add xs (x ∷ []) 0 d) ∙ last ∙ ap g (sym here)

pub each_more : {A B : Type 0} (f : A → B) (g : ℕ → B) (xs : List A) (x : A) (i : ℕ) → length xs ≡ i →
    ((k : ℕ) (d : A) → k < i → f (get_or xs k d) ≡ g k) → f x ≡ g i →
    (k : ℕ) (d : A) → k < i + 1 → f (get_or (xs ++ x ∷ []) k d) ≡ g k
each_more f g xs x i number each last k d inside =
    by_place f g xs x (λ k d h. each k d (omega (arith, h, number))) (last ∙ ap g (sym number)) k d
    (nat_lt k (length xs)) refl (omega (arith, inside, number))

-- what holds whatever the default of a read in range
pub with_some : {A Q : Type 0} (xs : List A) (k : ℕ) → k < length xs → (A → Q) → Q
with_some [] k inside f = absurd (let bad : ⊥ = omega (arith, inside) in bad)
with_some (x ∷ xs) k inside f = f x
