use Rattle.std.proofs.Common.{◌≡◌, ℕ, ◌+◌, ◌-◌, ◌<◌, ◌≤◌, Bool, true, false, cond, List, [], ◌∷◌, map, None, Some, refl, sym, ◌∙◌, ap, arith, zero, suc, inl, inr}
use Rattle.std.specs.Prelude.{find, ◌&&◌}
use Rattle.std.specs.List.{list_all, range_with_len, slice_get}
use Rattle.std.proofs.lemmas.Bool.{cases_lt, and_parts}

-- A list made from a function of the index, from place i on.

abbrev pub rest : {X : Type 0} → (ℕ → X) → ℕ → ℕ → List X
rest f i n = map f (range_with_len i (n - i))

module _ {X : Type 0} (f : ℕ → X) where
  pub rest_step : (i n : ℕ) → i < n → rest f i n ≡ f i ∷ rest f (i + 1) n
  rest_step i n here =
      let left : n - i ≡ suc (n - (i + 1)) = omega arith in
      ap (λ k. map f (range_with_len i k)) left

  pub rest_end : (i n : ℕ) → n ≤ i → rest f i n ≡ []
  rest_end i n past =
      let left : n - i ≡ 0 = omega arith in
      ap (λ k. map f (range_with_len i k)) left

  pub rest_all : (n : ℕ) → rest f 0 n ≡ map f (range_with_len 0 n)
  rest_all n =
      let left : n - 0 ≡ n = omega arith in
      ap (λ k. map f (range_with_len 0 k)) left

  -- the element at a place
  get_some_from : (from n k : ℕ) → k < n
      → slice_get (map f (range_with_len from n)) k ≡ Some (f (from + k))
  get_some_from from zero k within = absurd (omega arith)
  get_some_from from (suc n) zero within =
      let same : from ≡ from + 0 = omega arith in
      ap (λ i. Some (f i)) same
  get_some_from from (suc n) (suc k) within =
      let same : from + 1 + k ≡ from + suc k = omega arith in
      get_some_from (from + 1) n k (omega arith) ∙ ap (λ i. Some (f i)) same

  get_none_from : (from n k : ℕ) → n ≤ k → slice_get (map f (range_with_len from n)) k ≡ None
  get_none_from from zero k past = refl
  get_none_from from (suc n) zero past = absurd (omega arith)
  get_none_from from (suc n) (suc k) past = get_none_from (from + 1) n k (omega arith)

  pub get_some : (n k : ℕ) → k < n → slice_get (map f (range_with_len 0 n)) k ≡ Some (f k)
  get_some n k within =
      let same : 0 + k ≡ k = omega arith in
      get_some_from 0 n k within ∙ ap (λ i. Some (f i)) same

  pub get_none : (n k : ℕ) → n ≤ k → slice_get (map f (range_with_len 0 n)) k ≡ None
  get_none n k past = get_none_from 0 n k past

  module _ (test : X → Bool) where
    -- the first that passes a test
    pub find_here : (i n : ℕ) → i < n → test (f i) ≡ true → find test (rest f i n) ≡ Some (f i)
    find_here i n here is =
        ap (find test) (rest_step i n here)
        ∙ ap (λ t. cond t (Some (f i)) (find test (rest f (i + 1) n))) is

    pub find_later : (i n : ℕ) → i < n → test (f i) ≡ false
        → find test (rest f (i + 1) n) ≡ find test (rest f i n)
    find_later i n here isnt =
        sym (ap (find test) (rest_step i n here)
        ∙ ap (λ t. cond t (Some (f i)) (find test (rest f (i + 1) n))) isnt)

    -- whether all pass a test
    pub all_not : (i n : ℕ) → i < n → test (f i) ≡ false → list_all test (rest f i n) ≡ false
    all_not i n here isnt =
        ap (list_all test) (rest_step i n here)
        ∙ ap (λ t. t && list_all test (rest f (i + 1) n)) isnt

    pub all_later : (i n : ℕ) → i < n → test (f i) ≡ true
        → list_all test (rest f (i + 1) n) ≡ list_all test (rest f i n)
    all_later i n here is =
        sym (ap (list_all test) (rest_step i n here)
        ∙ ap (λ t. t && list_all test (rest f (i + 1) n)) is)

    all_at : (from n k : ℕ) → list_all test (map f (range_with_len from n)) ≡ true
        → from ≤ k → k < from + n → test (f k) ≡ true
    all_at from zero k all low high = absurd (omega arith)
    all_at from (suc n) k all low high =
        let parts = and_parts (test (f from)) _ all in
        elim (cases_lt from k) [
          | inl above ↦ all_at (from + 1) n k parts.1 (omega arith) (omega arith)
          | inr below ↦ let here : k ≡ from = omega arith in rw here parts.0
        ]

    pub each : (n k : ℕ) → list_all test (map f (range_with_len 0 n)) ≡ true → k < n
        → test (f k) ≡ true
    each n k all within = all_at 0 n k all (omega arith) (omega arith)
