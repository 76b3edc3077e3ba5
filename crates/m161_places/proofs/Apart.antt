use Rattle.std.proofs.Common.{◌≡◌, ◌≢◌, ◌∙◌, refl, ap, sym, subst, ℕ, zero, suc, ◌+◌, ◌-◌, ◌<◌, ◌≤◌, Bool, true, false, cond, List, [], ◌∷◌, ◌++◌, length, min, arith}
use Rattle.std.proofs.lemmas.Bool.Decides.{nat_tests}
use Rattle.std.specs.Prelude.{nat_lt, if◌then◌else◌, filter, slice_index}
use Rattle.std.specs.List.{range_with_len}
use Rattle.m161_machine.specs.State.{State}
use Rattle.m161_drive.specs.Delayed.{passed, ready_from}
use Rattle.m161_drive.specs.Ready.{cyclic, is_ready}

-- The ready processors from one on are different ones.

-- a rank that rises along the cycle from processor p on
rank : ℕ → ℕ → ℕ → ℕ
rank p n x = if nat_lt x p then x + n else x

rank_low : (p n x : ℕ) → x < p → rank p n x ≡ x + n
unfolding rank
rank_low p n x h = let low : nat_lt x p ≡ true = grind (arith, nat_tests) in ap (λ b. if b then x + n else x) low

rank_high : (p n x : ℕ) → p ≤ x → rank p n x ≡ x
unfolding rank
rank_high p n x h = let high : nat_lt x p ≡ false = grind (arith, nat_tests) in ap (λ b. if b then x + n else x) high

-- ranks that rise from k on, and are below m
Rises : (ℕ → ℕ) → ℕ → ℕ → List ℕ → Type 0
Rises r k m [] = k ≤ m
Rises r k m (x ∷ xs) = (k ≤ r x) × Rises r (r x + 1) m xs

rises_sooner : (r : ℕ → ℕ) (less k m : ℕ) (xs : List ℕ) → less ≤ k → Rises r k m xs → Rises r less m xs
unfolding Rises
rises_sooner r less k m [] h rises = omega (arith, h, rises)
rises_sooner r less k m (x ∷ xs) h rises = ((let first = rises.0 in omega (arith, h, first)), rises.1)

rises_append : (r : ℕ → ℕ) (k m e : ℕ) (xs ys : List ℕ) → Rises r k m xs → Rises r m e ys → Rises r k e (xs ++ ys)
unfolding Rises
rises_append r k m e [] ys first second = rises_sooner r k m e ys first second
rises_append r k m e (x ∷ xs) ys first second = (first.0, rises_append r (r x + 1) m e xs ys first.1 second)

rises_if : (r : ℕ → ℕ) (b : Bool) (k m x : ℕ) (xs : List ℕ) → k ≤ r x → Rises r (r x + 1) m xs → Rises r k m (cond b (x ∷ xs) xs)
unfolding Rises
rises_if r true k m x xs first rest = (first, rest)
rises_if r false k m x xs first rest = rises_sooner r k (r x + 1) m xs (omega (arith, first)) rest

rises_filter : (r : ℕ → ℕ) (test : ℕ → Bool) (k m : ℕ) (xs : List ℕ) → Rises r k m xs → Rises r k m (filter test xs)
unfolding Rises
rises_filter r test k m [] h = h
rises_filter r test k m (x ∷ xs) h =
    rises_if r (test x) k m x (filter test xs) h.0 (rises_filter r test (r x + 1) m xs h.1)

rises_range : (r : ℕ → ℕ) (more n a : ℕ) → ((x : ℕ) → a ≤ x → x < a + n → r x ≡ x + more) → Rises r (a + more) (a + n + more) (range_with_len a n)
unfolding Rises
rises_range r more zero a h = omega arith
rises_range r more (suc n) a h =
    let here = h a (omega arith) (omega arith) in
    let next : a + 1 + more ≡ r a + 1 = omega (arith, here) in
    let end : a + 1 + n + more ≡ a + suc n + more = omega arith in (
      omega (arith, here),
      subst (λ k. Rises r k (a + suc n + more) (range_with_len (a + 1) n)) next
          (subst (λ m. Rises r (a + 1 + more) m (range_with_len (a + 1) n)) end
          (rises_range r more n (a + 1) (λ x from to. h x (omega (arith, from)) (omega (arith, to))))),
    )

rises_cyclic : (p n : ℕ) → p ≤ n → Rises (rank p n) p (p + n) (cyclic p n)
rises_cyclic p n within =
    let high = rises_range (rank p n) 0 (n - p) p (λ x from to. let is = rank_high p n x from in omega (arith, is)) in
    let low = rises_range (rank p n) n p 0 (λ x from to. rank_low p n x (omega (arith, to))) in
    let a : p + 0 ≡ p = omega arith in
    let b : p + (n - p) + 0 ≡ n = omega (arith, within) in
    let c : 0 + n ≡ n = omega arith in
    let d : 0 + p + n ≡ p + n = omega arith in
    rises_append (rank p n) p n (p + n) (range_with_len p (n - p)) (range_with_len 0 p)
    (subst (λ k. Rises (rank p n) k n (range_with_len p (n - p))) a (subst (λ m. Rises (rank p n) (p + 0) m (range_with_len p (n - p))) b high))
    (subst (λ k. Rises (rank p n) k (p + n) (range_with_len 0 p)) c (subst (λ m. Rises (rank p n) (0 + n) m (range_with_len 0 p)) d low))

-- what stands at a place has at least that rank
risen : (r : ℕ → ℕ) (k m i : ℕ) (xs : List ℕ) → Rises r k m xs → i < length xs → k ≤ r (slice_index xs i)
unfolding Rises
risen r k m i [] h there = absurd (let bad : ⊥ = omega (arith, there) in bad)
risen r k m zero (x ∷ xs) h there = h.0
risen r k m (suc i) (x ∷ xs) h there =
    let rest = risen r (r x + 1) m i xs h.1 (omega (arith, there)) in
    let first = h.0 in omega (arith, rest, first)

apart_in : (r : ℕ → ℕ) (k m i j : ℕ) (xs : List ℕ) → Rises r k m xs → i < j → j < length xs → r (slice_index xs i) < r (slice_index xs j)
unfolding Rises
apart_in r k m i j [] h less there = absurd (let bad : ⊥ = omega (arith, there) in bad)
apart_in r k m i zero (x ∷ xs) h less there = absurd (let bad : ⊥ = omega (arith, less) in bad)
apart_in r k m zero (suc j) (x ∷ xs) h less there = let rest = risen r (r x + 1) m j xs h.1 (omega (arith, there)) in omega (arith, rest)
apart_in r k m (suc i) (suc j) (x ∷ xs) h less there = apart_in r (r x + 1) m i j xs h.1 (omega (arith, less)) (omega (arith, there))

passed_less : (a b p : ℕ) (s : State) → p < length s.processors → a < b → b < length (ready_from p s) → passed a p s ≢ passed b p s
passed_less a b p s here less there same =
    let n = length s.processors in
    let xs = ready_from p s in
    let rises = rises_filter (rank p n) (is_ready s) p (p + n) (cyclic p n) (rises_cyclic p n (omega (arith, here))) in
    let first : min a (length xs - 1) ≡ a = omega (arith, less, there) in
    let second : min b (length xs - 1) ≡ b = omega (arith, there) in
    let apart = apart_in (rank p n) p (p + n) a b xs rises less there in
    let equal : slice_index xs a ≡ slice_index xs b = sym (ap (slice_index xs) first) ∙ same ∙ ap (slice_index xs) second in
    let ranks = ap (rank p n) equal in
    let bad : ⊥ = omega (arith, apart, ranks) in bad

lt_true : (a b : ℕ) → nat_lt a b ≡ true → a < b
lt_true a b h = grind (arith, nat_tests)

lt_false : (a b : ℕ) → a ≢ b → nat_lt a b ≡ false → b < a
lt_false a b differ h = grind (arith, nat_tests)

by_less : (a b p : ℕ) (s : State) → p < length s.processors → a < length (ready_from p s) → b < length (ready_from p s) →
    a ≢ b → passed a p s ≡ passed b p s → (less : Bool) → nat_lt a b ≡ less → ⊥
by_less a b p s here first second differ same true h = passed_less a b p s here (lt_true a b h) second same
by_less a b p s here first second differ same false h =
    let more : b < a = lt_false a b differ h in passed_less b a p s here more first (sym same)

-- so different numbers of them are passed over for different ones
pub passed_apart : (a b p : ℕ) (s : State) → p < length s.processors → a < length (ready_from p s) → b < length (ready_from p s) →
    a ≢ b → passed a p s ≢ passed b p s
passed_apart a b p s here first second differ same = by_less a b p s here first second differ same (nat_lt a b) refl
