use Rattle.std.proofs.Common.{◌≡◌, ◌∙◌, refl, ap, sym, subst, ℕ, zero, suc, ◌+◌, ◌<◌, arith, Bool, true, false, List, [], ◌∷◌, ◌++◌, length, drop, get_or, Option, None, Some}
use Rattle.std.specs.Prelude.{flat_map}
use Rattle.std.specs.List.{range_with_len}
use Rattle.std.proofs.lemmas.List.{length-append}
use Rattle.m161_alike.specs.Words.{flag, optional}
use Rattle.m161_states.specs.System.{Flags}
use Rattle.m161_states.specs.Views.{counted, flag_words}

-- Lists of words, apart.

pub split : (xs ys r q : List ℕ) → length xs ≡ length ys → xs ++ r ≡ ys ++ q → (xs ≡ ys) × (r ≡ q)
split [] [] r q size e = (refl, e)
split (x ∷ xs) (y ∷ ys) r q size e =
    let first : x ≡ y = ap (λ l. get_or l 0 0) e in
    let rest : xs ++ r ≡ ys ++ q = ap (λ l. drop 1 l) e in
    let shorter : length xs ≡ length ys = omega (arith, size) in
    let both = split xs ys r q shorter rest in
    (λ i. first i ∷ both.0 i, both.1)
split [] (y ∷ ys) r q size e = absurd (let bad : ⊥ = omega (arith, size) in bad)
split (x ∷ xs) [] r q size e = absurd (let bad : ⊥ = omega (arith, size) in bad)

pub counted_apart : (a b r q : List ℕ) → counted a ++ r ≡ counted b ++ q → (a ≡ b) × (r ≡ q)
counted_apart a b r q e = split a b r q (ap (λ l. get_or l 0 0) e) (ap (λ l. drop 1 l) e)

-- pieces of one size, one behind the other
pub pieces_size : (f g : ℕ → List ℕ) → ((i : ℕ) → length (f i) ≡ length (g i)) → (a n : ℕ) →
    length (flat_map f (range_with_len a n)) ≡ length (flat_map g (range_with_len a n))
pieces_size f g size a zero = refl
pieces_size f g size a (suc n) =
    let first = size a in
    let rest = pieces_size f g size (a + 1) n in
    length-append (f a) (flat_map f (range_with_len (a + 1) n))
    ∙ (λ i. first i + rest i)
    ∙ sym (length-append (g a) (flat_map g (range_with_len (a + 1) n)))

piece_from : (f g : ℕ → List ℕ) → ((i : ℕ) → length (f i) ≡ length (g i)) → (a n k : ℕ) → k < n →
    flat_map f (range_with_len a n) ≡ flat_map g (range_with_len a n) → f (a + k) ≡ g (a + k)
piece_from f g size a zero k below e = absurd (let bad : ⊥ = omega (arith, below) in bad)
piece_from f g size a (suc n) zero below e =
    let here : a ≡ a + 0 = omega arith in
    subst (λ i. f i ≡ g i) here (split (f a) (g a) (flat_map f (range_with_len (a + 1) n)) (flat_map g (range_with_len (a + 1) n)) (size a) e).0
piece_from f g size a (suc n) (suc k) below e =
    let there : a + 1 + k ≡ a + suc k = omega arith in
    let left : k < n = omega (arith, below) in
    subst (λ i. f i ≡ g i) there
    (piece_from f g size (a + 1) n k left (split (f a) (g a) (flat_map f (range_with_len (a + 1) n)) (flat_map g (range_with_len (a + 1) n)) (size a) e).1)

pub piece : (f g : ℕ → List ℕ) → ((i : ℕ) → length (f i) ≡ length (g i)) → (n k : ℕ) → k < n →
    flat_map f (range_with_len 0 n) ≡ flat_map g (range_with_len 0 n) → f k ≡ g k
piece f g size n k below e =
    let here : 0 + k ≡ k = omega arith in
    subst (λ i. f i ≡ g i) here (piece_from f g size 0 n k below e)

-- values by their words

same_flag : (a b : Bool) → flag a ≡ flag b → a ≡ b
same_flag true true e = refl
same_flag false false e = refl
same_flag true false e = absurd (let bad : ⊥ = omega (arith, e) in bad)
same_flag false true e = absurd (let bad : ⊥ = omega (arith, e) in bad)

same_optional : (a b : Option ℕ) → optional a ≡ optional b → a ≡ b
same_optional None None e = refl
same_optional (Some n) (Some m) e = ap (λ l. Some (get_or l 1 0)) e
same_optional None (Some m) e = absurd (let bad : 0 ≡ 1 = ap (λ l. get_or l 0 0) e in cc)
same_optional (Some n) None e = absurd (let bad : 1 ≡ 0 = ap (λ l. get_or l 0 0) e in cc)

optional_size : (a : Option ℕ) → length (optional a) ≡ 2
optional_size None = refl
optional_size (Some n) = refl

pub optional_apart : (a b : Option ℕ) (r q : List ℕ) → optional a ++ r ≡ optional b ++ q → (a ≡ b) × (r ≡ q)
optional_apart a b r q e =
    let parts = split (optional a) (optional b) r q (optional_size a ∙ sym (optional_size b)) e in
    (same_optional a b parts.0, parts.1)

pub same_flags : (fs gs : List Flags) → flat_map flag_words fs ≡ flat_map flag_words gs → fs ≡ gs
same_flags [] [] e = refl
same_flags (f ∷ fs) (g ∷ gs) e =
    let changed = same_flag f.changed g.changed (ap (λ l. get_or l 0 0) e) in
    let gone_on = same_flag f.gone_on g.gone_on (ap (λ l. get_or l 1 0) e) in
    let rest = same_flags fs gs (ap (λ l. drop 2 l) e) in
    λ i. record { changed = changed i; gone_on = gone_on i } ∷ rest i
same_flags [] (g ∷ gs) e = absurd (let bad : 0 ≡ suc (suc (length (flat_map flag_words gs))) = ap length e in omega (arith, bad))
same_flags (f ∷ fs) [] e = absurd (let bad : suc (suc (length (flat_map flag_words fs))) ≡ 0 = ap length e in omega (arith, bad))
