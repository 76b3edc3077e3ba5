use Rattle.std.proofs.Common.{◌≡◌, ◌∙◌, refl, ap, sym, ℕ, zero, suc, ◌+◌, ◌-◌, ◌<◌, ◌≤◌, Bool, true, false, cond, List, [], ◌∷◌, ◌++◌, length, min, arith}
use Rattle.std.proofs.lemmas.Bool.Decides.{nat_tests}
use Rattle.std.proofs.lemmas.List.{length-append}
use Rattle.std.specs.Prelude.{Option, None, Some, ◌||◌, nat_lt, filter, is_some, if◌then◌else◌, slice_index}
use Rattle.std.specs.List.{list_any, range_with_len}
use Rattle.m161_machine.specs.State.{State}
use Rattle.m161_drive.specs.Delayed.{passed, ready_from}
use Rattle.m161_drive.specs.Ready.{cyclic, is_ready, next_behind, place_behind, ready, some_ready}
use Rattle.m161_drive.proofs.Finding.{any_found, range_more}

-- The processors in cyclic order are those in ascending order.

range_parts : (a n p : ℕ) → range_with_len p (a + n) ≡ range_with_len p a ++ range_with_len (p + a) n
range_parts zero n p =
    let none : 0 + n ≡ n = omega arith in
    let same : p ≡ p + 0 = omega arith in
    ap (range_with_len p) none ∙ ap (λ k. range_with_len k n) same
range_parts (suc a) n p =
    let same : p + 1 + a ≡ p + suc a = omega arith in
    let long : suc a + n ≡ suc (a + n) = omega arith in
    ap (range_with_len p) long
    ∙ ap (λ xs. p ∷ xs) (range_parts a n (p + 1) ∙ ap (λ k. range_with_len (p + 1) a ++ range_with_len k n) same)

range_cut : (a n : ℕ) → a ≤ n → range_with_len 0 n ≡ range_with_len 0 a ++ range_with_len a (n - a)
range_cut a n h =
    let whole : n ≡ a + (n - a) = omega (arith, h) in
    let start : 0 + a ≡ a = omega arith in
    ap (range_with_len 0) whole ∙ range_parts a (n - a) 0 ∙ ap (λ k. range_with_len 0 a ++ range_with_len k (n - a)) start

filter_one : (b : Bool) (x : ℕ) (xs ys zs : List ℕ) → zs ≡ xs ++ ys → cond b (x ∷ zs) zs ≡ cond b (x ∷ xs) xs ++ ys
filter_one true x xs ys zs h = ap (λ l. x ∷ l) h
filter_one false x xs ys zs h = h

filter_append : (test : ℕ → Bool) (xs ys : List ℕ) → filter test (xs ++ ys) ≡ filter test xs ++ filter test ys
filter_append test [] ys = refl
filter_append test (x ∷ xs) ys = filter_one (test x) x (filter test xs) (filter test ys) (filter test (xs ++ ys)) (filter_append test xs ys)

any_one : (b c d e : Bool) → e ≡ (c || d) → (b || e) ≡ ((b || c) || d)
any_one true c d e h = refl
any_one false c d e h = h

any_append : (test : ℕ → Bool) (xs ys : List ℕ) → list_any test (xs ++ ys) ≡ (list_any test xs || list_any test ys)
any_append test [] ys = refl
any_append test (x ∷ xs) ys = any_one (test x) (list_any test xs) (list_any test ys) (list_any test (xs ++ ys)) (any_append test xs ys)

or_turned : (a b : Bool) → (a || b) ≡ (b || a)
or_turned true true = refl
or_turned true false = refl
or_turned false true = refl
or_turned false false = refl

any_cyclic : (test : ℕ → Bool) (a n : ℕ) → a ≤ n → list_any test (cyclic a n) ≡ list_any test (range_with_len 0 n)
any_cyclic test a n h =
    let low = range_with_len 0 a in
    let high = range_with_len a (n - a) in
    any_append test high low ∙ or_turned (list_any test high) (list_any test low)
    ∙ sym (any_append test low high) ∙ ap (list_any test) (sym (range_cut a n h))

or_true : (a b : Bool) → b ≡ true → (a || b) ≡ true
or_true true b h = refl
or_true false b h = h

-- some processor passes where one does
pub any_here : (test : ℕ → Bool) (p n : ℕ) → p < n → test p ≡ true → list_any test (range_with_len 0 n) ≡ true
any_here test p n here passes =
    let low = range_with_len 0 p in
    let high = range_with_len p (n - p) in
    let behind = range_with_len (p + 1) (n - (p + 1)) in
    ap (list_any test) (range_cut p n (omega (arith, here))) ∙ any_append test low high
    ∙ or_true (list_any test low) (list_any test high)
    (ap (list_any test) (range_more p n here) ∙ ap (λ b. b || list_any test behind) passes)

-- as many are ready from one on as are ready
pub as_many : (p : ℕ) (s : State) → p < length s.processors → length (ready_from p s) ≡ length (ready s)
as_many p s here =
    let n = length s.processors in
    let low = range_with_len 0 p in
    let high = range_with_len p (n - p) in
    let test = is_ready s in
    let turned = length-append (filter test high) (filter test low) in
    let straight = length-append (filter test low) (filter test high) in
    let same : length (filter test high ++ filter test low) ≡ length (filter test low ++ filter test high) = omega (arith, turned, straight) in
    ap length (filter_append test high low) ∙ same
    ∙ ap length (sym (filter_append test low high)) ∙ ap (λ xs. length (filter test xs)) (sym (range_cut p n (omega (arith, here))))

within_if : (b : Bool) (p n : ℕ) → nat_lt p n ≡ b → (if b then p + 1 else 0) ≤ n
within_if true p n h = grind (arith, nat_tests)
within_if false p n h = omega arith

place_within : (last : Option ℕ) (n : ℕ) → place_behind last n ≤ n
place_within None n = omega arith
place_within (Some p) n = within_if (nat_lt p n) p n refl

-- a search among the ready processors finds one where one is ready
pub found_ready : (last : Option ℕ) (s : State) → some_ready s ≡ is_some (next_behind (is_ready s) last s)
found_ready last s =
    let n = length s.processors in
    let a = place_behind last n in
    sym (any_cyclic (is_ready s) a n (place_within last n)) ∙ any_found (is_ready s) (cyclic a n)

get_of : ℕ → State → ℕ → ℕ
get_of p s k = slice_index (ready_from p s) k

-- the one that is chosen where more are passed over than are ready is the last
pub passed_most : (m p : ℕ) (s : State) → p < length s.processors →
    passed (min m (length (ready s) - 1)) p s ≡ passed m p s
unfolding get_of
passed_most m p s here =
    let size = as_many p s here in
    let same : min (min m (length (ready s) - 1)) (length (ready_from p s) - 1) ≡ min m (length (ready_from p s) - 1) = omega (arith, size) in
    ap (get_of p s) same
