use Rattle.std.proofs.Common.{◌≡◌, refl, subst, ℕ, zero, suc, ◌+◌, ◌*◌, ◌/◌, ◌%◌, ◌^◌, ◌<◌, ◌≤◌, arith, Bool, true, false, List, [], ◌∷◌, ◌++◌, length, get_or, Fits, w8, w32}
use Rattle.std.specs.Prelude.{◌==◌, All, flat_map, if◌then◌else◌, slice_index}
use Rattle.std.specs.List.{range_with_len}
use Rattle.std.proofs.lemmas.Bool.Decides.{nat_tests}
use Rattle.m161_alike.specs.Words.{AreBytes, memory_words, word_change}
use Rattle.m161_states.specs.Shape.{HaveBytes}

-- Memory whose words have 32 bits is of bytes.

abbrev pub AreWords32 : List ℕ → Type 0
AreWords32 words = All (λ word. word < 2 ^ 32) words

-- the word whose first byte is at an address
abbrev word_at : List ℕ → ℕ → ℕ
word_at memory at =
    slice_index memory at * 2 ^ 24 + slice_index memory (at + 1) * 2 ^ 16 + slice_index memory (at + 2) * 2 ^ 8 + slice_index memory (at + 3)

-- words from place i on
abbrev changes : List ℕ → List ℕ → ℕ → ℕ → List ℕ
changes boot m i n = flat_map (λ j. word_change boot m (4 * j)) (range_with_len i n)

-- a word, and those behind it
abbrev Below : ℕ → List ℕ → Type 0
Below w rest = (w < 2 ^ 32) × AreWords32 rest

below_by : (test : Bool) (at w b : ℕ) (rest : List ℕ) → (w == b) ≡ test → AreWords32 ((if test then [] else at ∷ w ∷ []) ++ rest) → b < 2 ^ 32 → Below w rest
below_by true at w b rest is all small = let same : w ≡ b = grind (arith, nat_tests, is) in (omega (arith, same, small), all)
below_by false at w b rest is all small = (all 1 0 (omega arith), λ k d inside. all (suc (suc k)) d (omega (arith, inside)))

below_first : (boot m : List ℕ) (i n : ℕ) → AreWords32 (changes boot m i (suc n)) → word_at boot (4 * i) < 2 ^ 32 → Below (word_at m (4 * i)) (changes boot m (i + 1) n)
below_first boot m i n all small =
    below_by (word_at m (4 * i) == word_at boot (4 * i)) (4 * i) (word_at m (4 * i)) (word_at boot (4 * i)) (changes boot m (i + 1) n) refl all small

word_below : (boot m : List ℕ) (i n k : ℕ) → AreWords32 (changes boot m i n) → ((j : ℕ) → j < i + n → word_at boot (4 * j) < 2 ^ 32) → k < n →
    word_at m (4 * (i + k)) < 2 ^ 32
word_below boot m i zero k all small inside = absurd (let bad : ⊥ = omega (arith, inside) in bad)
word_below boot m i (suc n) zero all small inside =
    let here : i ≡ i + 0 = omega arith in
    subst (λ j. word_at m (4 * j) < 2 ^ 32) here (below_first boot m i n all (small i (omega arith))).0
word_below boot m i (suc n) (suc k) all small inside =
    let there : i + 1 + k ≡ i + suc k = omega arith in
    let left : k < n = omega (arith, inside) in
    subst (λ j. word_at m (4 * j) < 2 ^ 32) there
    (word_below boot m (i + 1) n k (below_first boot m i n all (small i (omega arith))).1 (λ j less. small j (omega (arith, less))) left)

first_byte : (a b c d : ℕ) → a * 2 ^ 24 + b * 2 ^ 16 + c * 2 ^ 8 + d < 2 ^ 32 → a < 2 ^ 8
first_byte a b c d small = omega (arith, small)

of_bytes : (a b c d : ℕ) → a < 2 ^ 8 → b < 2 ^ 8 → c < 2 ^ 8 → d < 2 ^ 8 → a * 2 ^ 24 + b * 2 ^ 16 + c * 2 ^ 8 + d < 2 ^ 32
of_bytes a b c d ha hb hc hd = omega (arith, ha, hb, hc, hd)

word_small : (boot : List ℕ) → All (λ byte. byte < 2 ^ 8) boot → (j : ℕ) → 4 * j + 4 ≤ length boot → word_at boot (4 * j) < 2 ^ 32
word_small boot all j inside =
    of_bytes (slice_index boot (4 * j)) (slice_index boot (4 * j + 1)) (slice_index boot (4 * j + 2)) (slice_index boot (4 * j + 3))
    (all (4 * j) 0 (omega (arith, inside))) (all (4 * j + 1) 0 (omega (arith, inside))) (all (4 * j + 2) 0 (omega (arith, inside)))
    (all (4 * j + 3) 0 (omega (arith, inside)))

pub any_default : (xs : List ℕ) (i d e : ℕ) → i < length xs → get_or xs i d ≡ get_or xs i e
any_default [] i d e inside = absurd (let bad : ⊥ = omega (arith, inside) in bad)
any_default (x ∷ xs) zero d e inside = refl
any_default (x ∷ xs) (suc i) d e inside = any_default xs i d e (omega (arith, inside))

pub words_fit : (words : List ℕ) → ((i : ℕ) → Fits w32 (get_or words i 0)) → AreWords32 words
words_fit words fit = λ k d inside.
    let small : get_or words k 0 < 2 ^ 32 = (fit k).fits in
    let same = any_default words k d 0 inside in
    omega (arith, small, same)

pub bytes_fit : (bytes : List ℕ) → ((i : ℕ) → Fits w8 (get_or bytes i 0)) → All (λ byte. byte < 2 ^ 8) bytes
bytes_fit bytes fit = λ k d inside.
    let small : get_or bytes k 0 < 2 ^ 8 = (fit k).fits in
    let same = any_default bytes k d 0 inside in
    omega (arith, small, same)

byte_by : (m : List ℕ) (i r : ℕ) → HaveBytes m → i % 4 ≡ r → slice_index m (4 * (i / 4)) < 2 ^ 8 → slice_index m i < 2 ^ 8
byte_by m i zero bytes is first = let here : 4 * (i / 4) ≡ i = omega (arith, is) in subst (λ j. slice_index m j < 2 ^ 8) here first
byte_by m i (suc r) bytes is first = bytes i (omega (arith, is))

pub bytes_told : (boot m : List ℕ) → All (λ byte. byte < 2 ^ 8) boot → HaveBytes m → length m % 4 ≡ 0 → length boot ≡ length m →
    AreWords32 (memory_words boot m) → AreBytes m
bytes_told boot m boot_bytes bytes whole size all = (
  λ i d inside.
      let k_inside : i / 4 < length m / 4 = omega (arith, inside, whole) in
      let zero_is : 0 + i / 4 ≡ i / 4 = omega arith in
      let word : word_at m (4 * (i / 4)) < 2 ^ 32 =
      subst (λ k. word_at m (4 * k) < 2 ^ 32) zero_is
      (word_below boot m 0 (length m / 4) (i / 4) all (λ j less. word_small boot boot_bytes j (omega (arith, less, size))) k_inside) in
      let first : slice_index m (4 * (i / 4)) < 2 ^ 8 =
      first_byte (slice_index m (4 * (i / 4))) (slice_index m (4 * (i / 4) + 1)) (slice_index m (4 * (i / 4) + 2)) (slice_index m (4 * (i / 4) + 3)) word in
      let small = byte_by m i (i % 4) bytes refl first in
      let same = any_default m i d 0 inside in
      omega (arith, small, same),
  whole,
)
