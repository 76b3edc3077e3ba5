use Rattle.std.proofs.Common.{◌≡◌, ◌∙◌, refl, ap, sym, subst, ℕ, zero, suc, ◌+◌, ◌-◌, ◌*◌, ◌/◌, ◌%◌, ◌^◌, ◌<◌, ◌≤◌, arith, Bool, true, false, List, [], ◌∷◌, ◌++◌, length, drop, get_or, ext_get_or}
use Rattle.std.specs.Prelude.{◌==◌, flat_map, if◌then◌else◌}
use Rattle.std.specs.List.{range_with_len, slice_range}
use Rattle.std.proofs.lemmas.Bool.Decides.{nat_tests}
use Rattle.std.proofs.lemmas.List.{append-nil, flat_map_more, get_or-drop, get_or-take}
use Rattle.m161_ram.specs.Word.{word_at}
use Rattle.m161_alike.specs.Words.{AreBytes, MemoryLaw, word_change}

-- The words of memory.

-- one place more
range_more : (a n : ℕ) → range_with_len a (n + 1) ≡ range_with_len a n ++ (a + n) ∷ []
range_more a zero = let here : a ≡ a + 0 = omega arith in ap (λ x. x ∷ []) here
range_more a (suc n) =
    let there : a + 1 + n ≡ a + suc n = omega arith in
    let one : suc n + 1 ≡ suc (n + 1) = omega arith in
    ap (range_with_len a) one
    ∙ ap (λ l. a ∷ l) (range_more (a + 1) n ∙ ap (λ x. range_with_len (a + 1) n ++ x ∷ []) there)

pub changes_more : (f : ℕ → List ℕ) (before now : List ℕ) (n : ℕ) → now ≡ before ++ flat_map f (range_with_len 0 n) →
    now ++ f n ≡ before ++ flat_map f (range_with_len 0 (n + 1))
changes_more f before now n so_far =
    let here : 0 + n ≡ n = omega arith in
    ap (λ l. l ++ f n) so_far
    ∙ flat_map_more f before (range_with_len 0 n) n
    ∙ ap (λ l. before ++ flat_map f l) (sym (range_more 0 n ∙ ap (λ x. range_with_len 0 n ++ x ∷ []) here))

-- places that have no change more
pub changes_none : (f : ℕ → List ℕ) (before now : List ℕ) (n k : ℕ) → now ≡ before ++ flat_map f (range_with_len 0 n) → ((i : ℕ) → i < k → f (n + i) ≡ []) →
    now ≡ before ++ flat_map f (range_with_len 0 (n + k))
changes_none f before now n zero so_far none =
    let same : n ≡ n + 0 = omega arith in so_far ∙ ap (λ m. before ++ flat_map f (range_with_len 0 m)) same
changes_none f before now n (suc k) so_far none =
    let next : n + k + 1 ≡ n + suc k = omega arith in
    let rest = changes_none f before now n k so_far (λ i less. none i (omega (arith, less))) in
    sym (append-nil now)
    ∙ ap (λ l. now ++ l) (sym (none k (omega arith)))
    ∙ changes_more f before now (n + k) rest
    ∙ ap (λ m. before ++ flat_map f (range_with_len 0 m)) next

-- parts that are the same

byte_in : (xs : List ℕ) (a b j : ℕ) → a ≤ j → j < b → get_or (slice_range xs a b) (j - a) 0 ≡ get_or xs j 0
byte_in xs a b j from less =
    let here : a + (j - a) ≡ j = omega (arith, from) in
    get_or-take (b - a) (drop a xs) (j - a) 0 (omega (arith, from, less)) ∙ get_or-drop a xs (j - a) 0 ∙ ap (λ i. get_or xs i 0) here

byte_same : (xs ys : List ℕ) (a b j : ℕ) → slice_range xs a b ≡ slice_range ys a b → a ≤ j → j < b → get_or xs j 0 ≡ get_or ys j 0
byte_same xs ys a b j same from less = sym (byte_in xs a b j from less) ∙ ap (λ zs. get_or zs (j - a) 0) same ∙ byte_in ys a b j from less

word_same : (xs ys : List ℕ) (a b at : ℕ) → slice_range xs a b ≡ slice_range ys a b → a ≤ at → at + 4 ≤ b → word_at xs at ≡ word_at ys at
word_same xs ys a b at same from less =
    let p = byte_same xs ys a b at same from (omega (arith, less)) in
    let q = byte_same xs ys a b (at + 1) same (omega (arith, from)) (omega (arith, less)) in
    let r = byte_same xs ys a b (at + 2) same (omega (arith, from)) (omega (arith, less)) in
    let s = byte_same xs ys a b (at + 3) same (omega (arith, from)) (omega (arith, less)) in
    λ i. p i * 2 ^ 24 + q i * 2 ^ 16 + r i * 2 ^ 8 + s i

no_change : (boot memory : List ℕ) (at : ℕ) → word_at memory at ≡ word_at boot at → word_change boot memory at ≡ []
no_change boot memory at same =
    let yes : (word_at memory at == word_at boot at) ≡ true = grind (arith, nat_tests, same) in
    ap (λ t. if t then [] else at ∷ word_at memory at ∷ []) yes

pub block_unchanged : (boot memory : List ℕ) (place : ℕ) → slice_range memory (4 * place) (4 * place + 256) ≡ slice_range boot (4 * place) (4 * place + 256) →
    (i : ℕ) → i < 64 → word_change boot memory (4 * (place + i)) ≡ []
block_unchanged boot memory place same i less =
    no_change boot memory (4 * (place + i)) (word_same memory boot (4 * place) (4 * place + 256) (4 * (place + i)) same (omega arith) (omega (arith, less)))

-- the law

-- words from place i on
abbrev pub changes : List ℕ → List ℕ → ℕ → ℕ → List ℕ
changes boot m i n = flat_map (λ j. word_change boot m (4 * j)) (range_with_len i n)

-- the first address is that of a place from i on
abbrev BeginsFrom : ℕ → List ℕ → Type 0
BeginsFrom i [] = Unit {0}
BeginsFrom i (at ∷ rest) = 4 * i ≤ at

later : (i : ℕ) (l : List ℕ) → BeginsFrom (i + 1) l → BeginsFrom i l
later i [] h = tt
later i (at ∷ rest) h = omega (arith, h)

begins_by : (test : Bool) (i word : ℕ) (rest : List ℕ) → BeginsFrom (i + 1) rest →
    BeginsFrom i ((if test then [] else 4 * i ∷ word ∷ []) ++ rest)
begins_by true i word rest h = later i rest h
begins_by false i word rest h = omega arith

begins : (boot m : List ℕ) (i n : ℕ) → BeginsFrom i (changes boot m i n)
begins boot m i zero = tt
begins boot m i (suc n) =
    begins_by (word_at m (4 * i) == word_at boot (4 * i)) i (word_at m (4 * i)) (changes boot m (i + 1) n) (begins boot m (i + 1) n)

-- a word that is there can't be left out
not_there : (i word : ℕ) (rest l : List ℕ) → BeginsFrom (i + 1) l → 4 * i ∷ word ∷ rest ≡ l → ⊥
not_there i word rest [] h e = cc
not_there i word rest (at ∷ l) h e =
    let same : 4 * i ≡ at = ap (λ (x : List ℕ). get_or x 0 0) e in omega (arith, h, same)

-- of two lists, the words at one place, and the rest
abbrev SameFirst : ℕ → ℕ → List ℕ → List ℕ → Type 0
SameFirst x y r q = (x ≡ y) × (r ≡ q)

abbrev tail_of : List ℕ → List ℕ
tail_of [] = []
tail_of (x ∷ xs) = xs

first_by : (s t : Bool) (i b x y : ℕ) (r q : List ℕ) → (x == b) ≡ s → (y == b) ≡ t → BeginsFrom (i + 1) r → BeginsFrom (i + 1) q →
    (if s then [] else 4 * i ∷ x ∷ []) ++ r ≡ (if t then [] else 4 * i ∷ y ∷ []) ++ q → SameFirst x y r q
first_by true true i b x y r q hs ht hr hq e = (grind (arith, nat_tests, hs, ht), e)
first_by true false i b x y r q hs ht hr hq e = absurd (not_there i y q r hr (sym e))
first_by false true i b x y r q hs ht hr hq e = absurd (not_there i x r q hq e)
first_by false false i b x y r q hs ht hr hq e =
    (ap (λ (l : List ℕ). get_or l 1 0) e, ap (λ (l : List ℕ). tail_of (tail_of l)) e)

first_same : (boot a b : List ℕ) (i n : ℕ) → changes boot a i (suc n) ≡ changes boot b i (suc n) →
    SameFirst (word_at a (4 * i)) (word_at b (4 * i)) (changes boot a (i + 1) n) (changes boot b (i + 1) n)
first_same boot a b i n e =
    first_by (word_at a (4 * i) == word_at boot (4 * i)) (word_at b (4 * i) == word_at boot (4 * i)) i (word_at boot (4 * i))
    (word_at a (4 * i)) (word_at b (4 * i)) (changes boot a (i + 1) n) (changes boot b (i + 1) n) refl refl
    (begins boot a (i + 1) n) (begins boot b (i + 1) n) e

pub same_words : (boot a b : List ℕ) (i n k : ℕ) → changes boot a i n ≡ changes boot b i n → k < n →
    word_at a (4 * (i + k)) ≡ word_at b (4 * (i + k))
same_words boot a b i zero k e below = absurd (let bad : ⊥ = omega (arith, below) in bad)
same_words boot a b i (suc n) zero e below =
    let here : i ≡ i + 0 = omega arith in
    subst (λ j. word_at a (4 * j) ≡ word_at b (4 * j)) here (first_same boot a b i n e).0
same_words boot a b i (suc n) (suc k) e below =
    let there : i + 1 + k ≡ i + suc k = omega arith in
    let left : k < n = omega (arith, below) in
    subst (λ j. word_at a (4 * j) ≡ word_at b (4 * j)) there (same_words boot a b (i + 1) n k (first_same boot a b i n e).1 left)

-- the bytes of a word
pub same_bytes : (a0 a1 a2 a3 b0 b1 b2 b3 : ℕ) → a1 < 256 → a2 < 256 → a3 < 256 → b1 < 256 → b2 < 256 → b3 < 256 →
    a0 * 2 ^ 24 + a1 * 2 ^ 16 + a2 * 2 ^ 8 + a3 ≡ b0 * 2 ^ 24 + b1 * 2 ^ 16 + b2 * 2 ^ 8 + b3 →
    (a0 ≡ b0) × (a1 ≡ b1) × (a2 ≡ b2) × (a3 ≡ b3)
same_bytes a0 a1 a2 a3 b0 b1 b2 b3 h1 h2 h3 k1 k2 k3 e = (
  omega (arith, h1, h2, h3, k1, k2, k3, e),
  omega (arith, h1, h2, h3, k1, k2, k3, e),
  omega (arith, h1, h2, h3, k1, k2, k3, e),
  omega (arith, h1, h2, h3, k1, k2, k3, e),
)

-- the four bytes at a place
unfoldable pub SamePlace : List ℕ → List ℕ → ℕ → Type 0
SamePlace a b k =
    (get_or a (4 * k) 0 ≡ get_or b (4 * k) 0) × (get_or a (4 * k + 1) 0 ≡ get_or b (4 * k + 1) 0)
    × (get_or a (4 * k + 2) 0 ≡ get_or b (4 * k + 2) 0) × (get_or a (4 * k + 3) 0 ≡ get_or b (4 * k + 3) 0)

place_same : (a b : List ℕ) → AreBytes a → AreBytes b → length a ≡ length b → (k : ℕ) → 4 * k + 3 < length a →
    word_at a (4 * k) ≡ word_at b (4 * k) → SamePlace a b k
unfolding SamePlace
place_same a b p q size k below e =
    let a1 : 4 * k + 1 < length a = omega (arith, below) in
    let a2 : 4 * k + 2 < length a = omega (arith, below) in
    let b1 : 4 * k + 1 < length b = omega (arith, below, size) in
    let b2 : 4 * k + 2 < length b = omega (arith, below, size) in
    let b3 : 4 * k + 3 < length b = omega (arith, below, size) in
    same_bytes (get_or a (4 * k) 0) (get_or a (4 * k + 1) 0) (get_or a (4 * k + 2) 0) (get_or a (4 * k + 3) 0)
    (get_or b (4 * k) 0) (get_or b (4 * k + 1) 0) (get_or b (4 * k + 2) 0) (get_or b (4 * k + 3) 0)
    (p.0 (4 * k + 1) 0 a1) (p.0 (4 * k + 2) 0 a2) (p.0 (4 * k + 3) 0 below)
    (q.0 (4 * k + 1) 0 b1) (q.0 (4 * k + 2) 0 b2) (q.0 (4 * k + 3) 0 b3) e

pub by_rest : (a b : List ℕ) (k r i : ℕ) → r < 4 → i ≡ 4 * k + r → SamePlace a b k → get_or a i 0 ≡ get_or b i 0
unfolding SamePlace
by_rest a b k zero i small is h =
    let here : i ≡ 4 * k = omega (arith, is) in subst (λ j. get_or a j 0 ≡ get_or b j 0) (sym here) h.0
by_rest a b k (suc zero) i small is h = subst (λ j. get_or a j 0 ≡ get_or b j 0) (sym is) h.1
by_rest a b k (suc (suc zero)) i small is h = subst (λ j. get_or a j 0 ≡ get_or b j 0) (sym is) h.2
by_rest a b k (suc (suc (suc zero))) i small is h = subst (λ j. get_or a j 0 ≡ get_or b j 0) (sym is) h.3
by_rest a b k (suc (suc (suc (suc r)))) i small is h = absurd (let bad : ⊥ = omega (arith, small) in bad)

pub memory_law : MemoryLaw
memory_law boot a b p q size e = ext_get_or 0 a b size (λ i below.
    let whole = p.1 in
    let inside : i / 4 < length a / 4 = omega (arith, below, whole) in
    let last : 4 * (i / 4) + 3 < length a = omega (arith, below, whole) in
    let same_places : length b / 4 ≡ length a / 4 = ap (λ n. n / 4) (sym size) in
    let e_too : changes boot a 0 (length a / 4) ≡ changes boot b 0 (length a / 4) = e ∙ ap (changes boot b 0) same_places in
    let zero_is : 0 + i / 4 ≡ i / 4 = omega arith in
    let words : word_at a (4 * (i / 4)) ≡ word_at b (4 * (i / 4)) =
    subst (λ k. word_at a (4 * k) ≡ word_at b (4 * k)) zero_is (same_words boot a b 0 (length a / 4) (i / 4) e_too inside) in
    by_rest a b (i / 4) (i % 4) i (omega arith) (omega arith) (place_same a b p q size (i / 4) last words))
