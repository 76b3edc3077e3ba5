use Rattle.std.proofs.Common.{◌≡◌, ◌∙◌, refl, sym, ap, ℕ, zero, suc, ◌+◌, ◌-◌, ◌<◌, ◌≤◌, Bool, true, false, cond, List, [], ◌∷◌, ◌++◌, length, take, set, arith, append_assoc}
use Rattle.std.proofs.lemmas.Grind.{take-set_at}
use Rattle.std.proofs.lemmas.Bool.Decides.{nat_tests}
use Rattle.std.specs.Prelude.{Option, None, Some, ◌==◌, ◌||◌, find, filter, is_some}
use Rattle.std.specs.List.{last_or, list_any, range_with_len}

-- Searches along a range.

-- the rest of a range begins with its place
pub range_more : (p to : ℕ) → p < to → range_with_len p (to - p) ≡ p ∷ range_with_len (p + 1) (to - (p + 1))
range_more p to h = let e : to - p ≡ suc (to - (p + 1)) = omega arith in ap (λ n. range_with_len p n) e

pub range_done : (p to : ℕ) → to ≤ p → range_with_len p (to - p) ≡ []
range_done p to h = let e : to - p ≡ 0 = omega arith in ap (λ n. range_with_len p n) e

pub range_whole : (n : ℕ) → range_with_len 0 (n - 0) ≡ range_with_len 0 n
range_whole n = let e : n - 0 ≡ n = omega arith in ap (λ k. range_with_len 0 k) e

-- a place that doesn't pass
pub find_skip : (test : ℕ → Bool) (p to : ℕ) → p < to → test p ≡ false →
    find test (range_with_len p (to - p)) ≡ find test (range_with_len (p + 1) (to - (p + 1)))
find_skip test p to h fails =
    ap (find test) (range_more p to h) ∙ ap (λ b. cond b (Some p) (find test (range_with_len (p + 1) (to - (p + 1))))) fails

-- the first that passes
pub find_here : (test : ℕ → Bool) (p to : ℕ) → p < to → test p ≡ true →
    find test (range_with_len p (to - p)) ≡ Some p
find_here test p to h passes =
    ap (find test) (range_more p to h) ∙ ap (λ b. cond b (Some p) (find test (range_with_len (p + 1) (to - (p + 1))))) passes

pub find_done : (test : ℕ → Bool) (p to : ℕ) → to ≤ p → find test (range_with_len p (to - p)) ≡ None
find_done test p to h = ap (find test) (range_done p to h)

-- the same for a filter
pub filter_skip : (test : ℕ → Bool) (p to : ℕ) → p < to → test p ≡ false →
    filter test (range_with_len p (to - p)) ≡ filter test (range_with_len (p + 1) (to - (p + 1)))
filter_skip test p to h fails =
    let rest = filter test (range_with_len (p + 1) (to - (p + 1))) in
    ap (filter test) (range_more p to h) ∙ ap (λ b. cond b (p ∷ rest) rest) fails

pub filter_take : (test : ℕ → Bool) (p to : ℕ) → p < to → test p ≡ true →
    filter test (range_with_len p (to - p)) ≡ p ∷ filter test (range_with_len (p + 1) (to - (p + 1)))
filter_take test p to h passes =
    let rest = filter test (range_with_len (p + 1) (to - (p + 1))) in
    ap (filter test) (range_more p to h) ∙ ap (λ b. cond b (p ∷ rest) rest) passes

pub filter_done : (test : ℕ → Bool) (p to : ℕ) → to ≤ p → filter test (range_with_len p (to - p)) ≡ []
filter_done test p to h = ap (filter test) (range_done p to h)

-- a search in one list and then in another
or_find : Option ℕ → Option ℕ → Option ℕ
or_find None q = q
or_find (Some p) q = Some p

cond_or : (b : Bool) (x : ℕ) (o q r : Option ℕ) → r ≡ or_find o q → cond b (Some x) r ≡ or_find (cond b (Some x) o) q
unfolding or_find
cond_or true x o q r h = refl
cond_or false x o q r h = h

find_append : (test : ℕ → Bool) (xs ys : List ℕ) → find test (xs ++ ys) ≡ or_find (find test xs) (find test ys)
unfolding or_find
find_append test [] ys = refl
find_append test (x ∷ xs) ys = cond_or (test x) x (find test xs) (find test ys) (find test (xs ++ ys)) (find_append test xs ys)

pub find_first : (test : ℕ → Bool) (xs ys : List ℕ) (p : ℕ) → find test xs ≡ Some p → find test (xs ++ ys) ≡ Some p
unfolding or_find
find_first test xs ys p h = find_append test xs ys ∙ ap (λ o. or_find o (find test ys)) h

pub find_second : (test : ℕ → Bool) (xs ys : List ℕ) → find test xs ≡ None → find test (xs ++ ys) ≡ find test ys
unfolding or_find
find_second test xs ys h = find_append test xs ys ∙ ap (λ o. or_find o (find test ys)) h

any_cons : (b c : Bool) (x : ℕ) (o : Option ℕ) → c ≡ is_some o → (b || c) ≡ is_some (cond b (Some x) o)
any_cons true c x o h = refl
any_cons false c x o h = h

-- some number passes where a search finds one
pub any_found : (test : ℕ → Bool) (xs : List ℕ) → list_any test xs ≡ is_some (find test xs)
any_found test [] = refl
any_found test (x ∷ xs) = any_cons (test x) (list_any test xs) x (find test xs) (any_found test xs)

-- a comparison of numbers
pub eq_true : (a b : ℕ) → a ≡ b → (a == b) ≡ true
eq_true a b h = grind (arith, nat_tests)

pub eq_false : (a b : ℕ) → (a ≡ b → ⊥) → (a == b) ≡ false
eq_false a b h = grind (arith, nat_tests)

-- one that passes, written behind those so far
pub listed_more : (test : ℕ → Bool) (xs : List ℕ) (k p to : ℕ) → p < to → k < length xs → test p ≡ true →
    take k xs ++ filter test (range_with_len p (to - p))
    ≡ take (k + 1) (set xs k p) ++ filter test (range_with_len (p + 1) (to - (p + 1)))
listed_more test xs k p to less there passes =
    let rest = filter test (range_with_len (p + 1) (to - (p + 1))) in
    ap (λ ys. take k xs ++ ys) (filter_take test p to less passes)
    ∙ sym (append_assoc (take k xs) (p ∷ []) rest)
    ∙ ap (λ ys. ys ++ rest) (sym (take-set_at xs k (k + 1) p refl there))

-- none of the rest passes
pub filter_rest : (test : ℕ → Bool) (n p : ℕ) → ((k : ℕ) → p ≤ k → k < p + n → test k ≡ false) → filter test (range_with_len p n) ≡ []
filter_rest test zero p fails = refl
filter_rest test (suc n) p fails =
    let rest = filter test (range_with_len (p + 1) n) in
    ap (λ b. cond b (p ∷ rest) rest) (fails p (omega arith) (omega arith))
    ∙ filter_rest test n (p + 1) (λ k from to. fails k (omega (arith, from)) (omega (arith, to)))

-- the last place that passes
last_skip : (b : Bool) (x : ℕ) (ys : List ℕ) (k : ℕ) (o : Option ℕ) → ((q : Option ℕ) → last_or q ys ≡ Some k) →
    last_or o (cond b (x ∷ ys) ys) ≡ Some k
last_skip true x ys k o h = h (Some x)
last_skip false x ys k o h = h o

pub last_here : (test : ℕ → Bool) (n m p k : ℕ) (o : Option ℕ) → k ≡ p + m → m < n → test k ≡ true →
    ((j : ℕ) → k < j → j < p + n → test j ≡ false) → last_or o (filter test (range_with_len p n)) ≡ Some k
last_here test zero m p k o place less passes fails = absurd (omega (arith, less))
last_here test (suc n) zero p k o place less passes fails =
    let same : k ≡ p = omega (arith, place) in
    let rest = filter test (range_with_len (p + 1) n) in
    ap (λ b. last_or o (cond b (p ∷ rest) rest)) (ap test (sym same) ∙ passes)
    ∙ ap (last_or (Some p)) (filter_rest test n (p + 1) (λ j from to. fails j (omega (arith, from, same)) (omega (arith, to))))
    ∙ ap (λ i. Some i) (sym same)
last_here test (suc n) (suc m) p k o place less passes fails =
    last_skip (test p) p (filter test (range_with_len (p + 1) n)) k o
    (λ q. last_here test n m (p + 1) k q (omega (arith, place)) (omega (arith, less)) passes
    (λ j from to. fails j from (omega (arith, to))))
