use Rattle.std.proofs.Common.{◌≡◌, ◌∙◌, refl, ap, sym, ℕ, zero, suc, ◌+◌, ◌-◌, ◌*◌, ◌<◌, arith, List, [], ◌∷◌, ◌++◌, length, take, drop, append_assoc, Option, None, Some}
use Rattle.std.specs.Prelude.{flat_map}
use Rattle.std.specs.List.{range_with_len}
use Rattle.std.proofs.lemmas.List.{drop-drop, length-append, length-drop, take_all}
use Rattle.m161_cpu.specs.Processor.{Processor}
use Rattle.m161_alike.specs.Words.{optional, processor_words}

-- The words of a view, taken apart.

pub take_first : (a b : List ℕ) → take (length a) (a ++ b) ≡ a
take_first [] b = refl
take_first (x ∷ xs) b = ap (λ l. x ∷ l) (take_first xs b)

pub drop_first : (a b : List ℕ) → drop (length a) (a ++ b) ≡ b
drop_first [] b = refl
drop_first (x ∷ xs) b = drop_first xs b

pub processor_size : (p : Processor) → length (processor_words p) ≡ 245
processor_size p = refl

-- pieces of one size

pub pieces_size : (f : ℕ → List ℕ) (size : ℕ) → ((i : ℕ) → length (f i) ≡ size) → (a n : ℕ) → length (flat_map f (range_with_len a n)) ≡ size * n
pieces_size f size each a zero = let none : 0 ≡ size * 0 = omega arith in none
pieces_size f size each a (suc n) =
    let first = each a in
    let rest = pieces_size f size each (a + 1) n in
    let all = length-append (f a) (flat_map f (range_with_len (a + 1) n)) in
    grind (arith, first, rest, all)

pub piece_there : (f : ℕ → List ℕ) → ((i : ℕ) → length (f i) ≡ 245) → (a n k : ℕ) (rest : List ℕ) → k < n →
    take 245 (drop (245 * k) (flat_map f (range_with_len a n) ++ rest)) ≡ f (a + k)
piece_there f each a zero k rest below = absurd (let bad : ⊥ = omega (arith, below) in bad)
piece_there f each a (suc n) zero rest below =
    let here : a ≡ a + 0 = omega arith in
    let others = flat_map f (range_with_len (a + 1) n) in
    let none : 245 * 0 ≡ 0 = omega arith in
    ap (λ m. take 245 (drop m ((f a ++ others) ++ rest))) none
    ∙ ap (take 245) (append_assoc (f a) others rest)
    ∙ ap (λ m. take m (f a ++ (others ++ rest))) (sym (each a))
    ∙ take_first (f a) (others ++ rest)
    ∙ ap f here
piece_there f each a (suc n) (suc k) rest below =
    let there : a + 1 + k ≡ a + suc k = omega arith in
    let others = flat_map f (range_with_len (a + 1) n) in
    let at : 245 * suc k ≡ 245 + 245 * k = omega arith in
    let left : k < n = omega (arith, below) in
    let behind : drop 245 ((f a ++ others) ++ rest) ≡ others ++ rest =
    ap (drop 245) (append_assoc (f a) others rest) ∙ ap (λ m. drop m (f a ++ (others ++ rest))) (sym (each a)) ∙ drop_first (f a) (others ++ rest) in
    ap (λ m. take 245 (drop m ((f a ++ others) ++ rest))) at
    ∙ ap (take 245) (sym (drop-drop (245 * k) 245 ((f a ++ others) ++ rest)))
    ∙ ap (λ l. take 245 (drop (245 * k) l)) behind
    ∙ piece_there f each (a + 1) n k rest left
    ∙ ap f there

pub optional_size : (o : Option ℕ) → length (optional o) ≡ 2
optional_size None = refl
optional_size (Some n) = refl

pub rest_all : (n : ℕ) (words : List ℕ) → take (length words - n) (drop n words) ≡ drop n words
rest_all n words = let left = length-drop n words in take_all (length words - n) (drop n words) (omega (arith, left))

pub split_is : (a b words : List ℕ) (number : ℕ) → length a ≡ number → words ≡ a ++ b →
    (take number words ≡ a) × (take (length words - number) (drop number words) ≡ b)
split_is a b words number size is = (
  (λ i. take (sym size i) (is i)) ∙ take_first a b,
  rest_all number words ∙ (λ i. drop (sym size i) (is i)) ∙ drop_first a b,
)
