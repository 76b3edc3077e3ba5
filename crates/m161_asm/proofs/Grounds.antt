use Rattle.std.specs.Prelude.{◌⊎◌, ℕ, zero, suc, ◌+◌, ◌*◌, ◌^◌, ◌≤◌, ◌<◌, Bool, true, false, ◌&&◌, ◌||◌, nat_lt, List, [], ◌∷◌, length, drop, insert}
use Rattle.std.specs.List.{slice_index_or}
use Rattle.std.proofs.Common.{◌≡◌, inl, inr, refl, ap, sym, ◌∙◌, arith}
use Rattle.std.proofs.lemmas.Bool.Decides.{nat_tests}
use Rattle.m161_asm.specs.declared.ground.AddressRun.{AddressRun}
use Rattle.m161_asm.specs.declared.ground.Ground.{Ground}
use Rattle.m161_asm.specs.helpers.Ground.{meet, meets, InOrder, Splits, limit_of, IsOrdered, HasFilled}
use Rattle.m161_asm.specs.Text.{overlap}

-- Runs of filled addresses.

-- where a run begins
pub limit_some : (runs : List AddressRun) (d : AddressRun) (k : ℕ) → k < length runs
    → (slice_index_or runs k d).start ≡ limit_of (drop k runs)
limit_some [] d k h = absurd (omega (arith, h))
limit_some (r ∷ rs) d zero h = refl
limit_some (r ∷ rs) d (suc k) h = limit_some rs d k (omega (arith, h))

pub limit_none : (runs : List AddressRun) (k : ℕ) → length runs ≤ k → 2 ^ 32 ≡ limit_of (drop k runs)
limit_none [] zero h = refl
limit_none [] (suc k) h = refl
limit_none (r ∷ rs) zero h = absurd (omega (arith, h))
limit_none (r ∷ rs) (suc k) h = limit_none rs k (omega (arith, h))

-- a run meets what is in reach
met_not_a : (s e a n : ℕ) → e ≤ a → meet s e a n ≡ false
met_not_a s e a n h = grind (arith, nat_tests)

met_not_s : (s e a n : ℕ) → a + 4 * n ≤ s → meet s e a n ≡ false
met_not_s s e a n h = grind (arith, nat_tests)

met_none : (s e a : ℕ) → meet s e a 0 ≡ false
met_none s e a = grind (arith, nat_tests)

met_first : (s e a n : ℕ) → s < e → a < e → meet s e a n ≡ (nat_lt 0 n && nat_lt s (a + 4 * n))
met_first s e a n h k = grind (arith, nat_tests)

or_false : (b c : Bool) → c ≡ false → (b || c) ≡ b
or_false true c e = refl
or_false false c e = e

false_or : (b c : Bool) → b ≡ false → (b || c) ≡ c
false_or true c e = cc
false_or false c e = refl

none_met : (runs : List AddressRun) (a : ℕ) → meets runs a 0 ≡ false
none_met [] a = refl
none_met (r ∷ rs) a = false_or _ _ (met_none r.start r.end a) ∙ none_met rs a

behind_met : (runs : List AddressRun) (low a n : ℕ) → InOrder low runs → a + 4 * n ≤ low
    → meets runs a n ≡ false
behind_met [] low a n o h = refl
behind_met (r ∷ rs) low a n (p, q, o) h =
    false_or _ _ (met_not_s r.start r.end a n (omega (arith, p, h)))
    ∙ behind_met rs r.end a n o (omega (arith, p, q, h))

reached : (start e s a : ℕ) → start < e → s < e → (start ≡ a) ⊎ (a ≤ s) → a < e
reached start e s a h k (inl p) = omega (arith, h, p)
reached start e s a h k (inr p) = omega (arith, k, p)

first_met : (t : Bool) (rs : List AddressRun) (s e a n : ℕ) → nat_lt s (a + 4 * n) ≡ t → s < e
    → InOrder e rs
    → ((nat_lt 0 n && nat_lt s (a + 4 * n)) || meets rs a n) ≡ (nat_lt 0 n && nat_lt s (a + 4 * n))
first_met t rs s e a zero h k o = none_met rs a
first_met true rs s e a (suc n) h k o =
    let p : nat_lt 0 (suc n) ≡ true = grind (arith, nat_tests) in
    rw (p, h) refl
first_met false rs s e a (suc n) h k o =
    let low : a + 4 * suc n ≤ s = grind (arith, nat_tests, h) in
    or_false _ _ (behind_met rs e a (suc n) o (omega (arith, low, k)))

pub meets_at : (runs : List AddressRun) (low k start a n : ℕ) → InOrder low runs → Splits start k runs
    → start ≤ a → (start ≡ a) ⊎ (a ≤ limit_of (drop k runs)) → a + 4 * n ≤ 2 ^ 32
    → meets runs a n ≡ (nat_lt 0 n && nat_lt (limit_of (drop k runs)) (a + 4 * n))
meets_at [] low zero start a n o s h c w = grind (arith, nat_tests, w)
meets_at [] low (suc k) start a n o s h c w = absurd s
meets_at (r ∷ rs) low zero start a n (p, q, o) s h c w =
    ap (λ b. b || meets rs a n)
    (met_first r.start r.end a n q (reached start r.end r.start a s q c))
    ∙ first_met _ rs r.start r.end a n refl q o
meets_at (r ∷ rs) low (suc k) start a n (p, q, o) (e, s) h c w =
    false_or _ _ (met_not_a r.start r.end a n (omega (arith, e, h)))
    ∙ meets_at rs r.end k start a n o s h c w

-- one run more
or_past : (b c d : Bool) → (b || (c || d)) ≡ (c || (b || d))
or_past true true d = refl
or_past true false d = refl
or_past false true d = refl
or_past false false d = refl

pub meets-insert : (runs : List AddressRun) (k : ℕ) (r : AddressRun) (a n : ℕ) → k ≤ length runs
    → meets (insert runs k r) a n ≡ (meet r.start r.end a n || meets runs a n)
meets-insert [] zero r a n h = refl
meets-insert [] (suc k) r a n h = refl
meets-insert (q ∷ qs) zero r a n h = refl
meets-insert (q ∷ qs) (suc k) r a n h =
    ap (λ b. meet q.start q.end a n || b) (meets-insert qs k r a n (omega (arith, h)))
    ∙ or_past (meet q.start q.end a n) (meet r.start r.end a n) (meets qs a n)

pub splits_within : (runs : List AddressRun) (start k : ℕ) → Splits start k runs → k ≤ length runs
splits_within [] start zero s = omega arith
splits_within [] start (suc k) s = absurd s
splits_within (r ∷ rs) start zero s = omega arith
splits_within (r ∷ rs) start (suc k) (e, s) = let d = splits_within rs start k s in omega (arith, d)

pub ordered-insert : (runs : List AddressRun) (low k : ℕ) (r : AddressRun) → InOrder low runs
    → Splits r.start k runs → low ≤ r.start → r.start < r.end → r.end ≤ limit_of (drop k runs)
    → InOrder low (insert runs k r)
ordered-insert [] low zero r o s h k m = (h, k, tt)
ordered-insert [] low (suc j) r o s h k m = absurd s
ordered-insert (q ∷ qs) low zero r (a, b, o) s h k m = (h, k, (m, b, o))
ordered-insert (q ∷ qs) low (suc j) r (a, b, o) (e, s) h k m =
    (a, b, ordered-insert qs q.end j r o s e k m)

-- the ends rise
end_above : (runs : List AddressRun) (low : ℕ) (d : AddressRun) (i : ℕ) → InOrder low runs → i < length runs
    → low ≤ (slice_index_or runs i d).end
end_above [] low d i o h = absurd (omega (arith, h))
end_above (r ∷ rs) low d zero (p, q, o) h = omega (arith, p, q)
end_above (r ∷ rs) low d (suc i) (p, q, o) h =
    let e = end_above rs r.end d i o (omega (arith, h)) in omega (arith, p, q, e)

pub ends_rise : (runs : List AddressRun) (low : ℕ) (d : AddressRun) (i j : ℕ) → InOrder low runs → i ≤ j
    → j < length runs → (slice_index_or runs i d).end ≤ (slice_index_or runs j d).end
ends_rise [] low d i j o h k = absurd (omega (arith, k))
ends_rise (r ∷ rs) low d zero zero o h k = omega arith
ends_rise (r ∷ rs) low d zero (suc j) (p, q, o) h k = end_above rs r.end d j o (omega (arith, k))
ends_rise (r ∷ rs) low d (suc i) zero o h k = absurd (omega (arith, h))
ends_rise (r ∷ rs) low d (suc i) (suc j) (p, q, o) h k =
    ends_rise rs r.end d i j o (omega (arith, h)) (omega (arith, k))

pub splits_by : (runs : List AddressRun) (start k : ℕ) (d : AddressRun) → k ≤ length runs
    → ((i : ℕ) → i < k → (slice_index_or runs i d).end ≤ start)
    → ((i : ℕ) → k ≤ i → i < length runs → start < (slice_index_or runs i d).end)
    → Splits start k runs
splits_by [] start zero d h f g = tt
splits_by [] start (suc k) d h f g = absurd (omega (arith, h))
splits_by (r ∷ rs) start zero d h f g = g 0 (omega arith) (omega arith)
splits_by (r ∷ rs) start (suc k) d h f g = (
  f 0 (omega arith),
  splits_by rs start k d (omega (arith, h))
      (λ i p. f (suc i) (omega (arith, p)))
      (λ i p q. g (suc i) (omega (arith, p)) (omega (arith, q))),
)

-- the run in which a line stands grows by the line's words
pub grown : (start address m a n : ℕ) → start ≤ address
    → (overlap address m a n || meet start address a n) ≡ meet start (address + 4 * m) a n
grown start address m a n h = grind (arith, nat_tests, h)

-- the test of the code
same_met : (a n : ℕ) (s : ℕ) → meet s a a n ≡ false
same_met a n s = grind (arith, nat_tests)

filled_at : (g : Ground) (address size : ℕ) → IsOrdered g address → address + 4 * size ≤ 2 ^ 32
    → (filled : ℕ → ℕ → Bool) → HasFilled g address filled
    → filled address size ≡ (nat_lt 0 size && nat_lt g.limit (address + 4 * size))
filled_at g address size o w filled f =
    let l = o.limit in
    let c : (g.start ≡ address)
    ⊎ (address ≤ limit_of (drop g.next g.runs.items)) = rw l at o.clear in
    f address size
    ∙ false_or _ _ (same_met address size g.start)
    ∙ meets_at g.runs.items 0 g.next g.start address size o.order o.split o.begun c w
    ∙ ap (λ x. nat_lt 0 size && nat_lt x (address + 4 * size)) (sym l)

pub filled_then : (g : Ground) (address size : ℕ) → IsOrdered g address
    → address + 4 * size ≤ 2 ^ 32 → 0 < size → (filled : ℕ → ℕ → Bool) → HasFilled g address filled
    → nat_lt g.limit (address + 4 * size) ≡ filled address size
filled_then g address size o w h filled f =
    let t : nat_lt 0 size ≡ true = grind (arith, nat_tests, h) in
    let e = filled_at g address size o w filled f in
    sym (rw t at e)

pub filled_else : (g : Ground) (address size : ℕ) → IsOrdered g address
    → address + 4 * size ≤ 2 ^ 32 → size ≤ 0 → (filled : ℕ → ℕ → Bool) → HasFilled g address filled
    → nat_lt 0 size ≡ filled address size
filled_else g address size o w h filled f =
    let t : nat_lt 0 size ≡ false = grind (arith, nat_tests, h) in
    let e = filled_at g address size o w filled f in
    t ∙ sym (rw t at e)

-- a run is closed, and the next line stands elsewhere
elsewhere : (g : Ground) (end start a n : ℕ) (filled : ℕ → ℕ → Bool) (runs : List AddressRun)
    → HasFilled g end filled → meets runs a n ≡ (meet g.start end a n || meets g.runs.items a n)
    → filled a n ≡ (meet start start a n || meets runs a n)
elsewhere g end start a n filled runs f e = f a n ∙ sym e ∙ sym (false_or _ _ (empty_met start a n))
  where
    empty_met : (s a n : ℕ) → meet s s a n ≡ false
    empty_met s a n = grind (arith, nat_tests)

-- the search by halves
same_at : (runs : List AddressRun) (i : ℕ) (d e : AddressRun) → i < length runs
    → slice_index_or runs i d ≡ slice_index_or runs i e
same_at [] i d e h = absurd (omega (arith, h))
same_at (r ∷ rs) zero d e h = refl
same_at (r ∷ rs) (suc i) d e h = same_at rs i d e (omega (arith, h))

pub below_middle : (runs : List AddressRun) (start m i : ℕ) (d e : AddressRun) → InOrder 0 runs → m < length runs
    → (slice_index_or runs m e).end ≤ start → i < m + 1 → (slice_index_or runs i d).end ≤ start
below_middle runs start m i d e o h k l =
    let r = ends_rise runs 0 e i m o (omega (arith, l)) h in
    rw (same_at runs i d e (omega (arith, l, h))) (omega (arith, r, k))

pub above_middle : (runs : List AddressRun) (start m i : ℕ) (d e : AddressRun) → InOrder 0 runs
    → start < (slice_index_or runs m e).end → m ≤ i → i < length runs
    → start < (slice_index_or runs i d).end
above_middle runs start m i d e o k l h =
    let r = ends_rise runs 0 e m i o l h in
    rw (same_at runs i d e h) (omega (arith, r, k))

-- a run ends by the next one's start
pub reach_end : (g : Ground) (end : ℕ) → IsOrdered g end → g.start < end
    → end ≤ limit_of (drop g.next g.runs.items)
reach_end g end o h = by o.clear
  where
    by : (g.start ≡ end) ⊎ (end ≤ g.limit) → end ≤ limit_of (drop g.next g.runs.items)
    by (inl e) = absurd (omega (arith, e, h))
    by (inr l) = rw (← o.limit) l

-- a run without addresses meets nothing
pub no_run : (g : Ground) (end a n : ℕ) → end ≤ g.start
    → meets g.runs.items a n ≡ (meet g.start end a n || meets g.runs.items a n)
no_run g end a n h = sym (false_or _ _ (backward g.start end a n h))
  where
    backward : (s e a n : ℕ) → e ≤ s → meet s e a n ≡ false
    backward s e a n h = grind (arith, nat_tests, h)
