use Rattle.std.proofs.Common.{◌≡◌, ◌∙◌, refl, ap, sym, ℕ, zero, suc, ◌+◌, ◌-◌, ◌<◌, ◌≤◌, Bool, true, false, cond, List, [], ◌∷◌, ◌++◌, length, map, min, arith}
use Rattle.std.proofs.lemmas.Bool.Decides.{nat_tests}
use Rattle.std.proofs.lemmas.List.Sums.{sum_by-cons}
use Rattle.std.specs.Prelude.{◌==◌, nat_le, if◌then◌else◌, count_by, filter, slice_index}
use Rattle.std.specs.List.{range_with_len}
use Rattle.m161_machine.specs.State.{State}
use Rattle.m161_order.specs.Delays.{behind}
use Rattle.m161_drive.specs.Delayed.{passed, ready_from, turned}
use Rattle.m161_drive.specs.declared.turns.Turns.{Turns}
use Rattle.m161_drive.specs.Ready.{is_ready}
use Rattle.m161_drive.proofs.Finding.{eq_true, range_more}

-- Delays, and the processors that are passed over.

-- the first of the ready processors from a ready one on is that one
pub ready_head : (p : ℕ) (s : State) → is_ready s p ≡ true → p < length s.processors →
    ready_from p s ≡ p ∷ filter (is_ready s) (range_with_len (p + 1) (length s.processors - (p + 1)) ++ range_with_len 0 p)
ready_head p s ready here =
    let n = length s.processors in
    let rest = range_with_len (p + 1) (n - (p + 1)) ++ range_with_len 0 p in
    ap (λ xs. filter (is_ready s) (xs ++ range_with_len 0 p)) (range_more p n here)
    ∙ ap (λ b. cond b (p ∷ filter (is_ready s) rest) (filter (is_ready s) rest)) ready

-- where none is passed over it is chosen
pub passed_none : (p : ℕ) (s : State) → is_ready s p ≡ true → p < length s.processors → passed 0 p s ≡ p
passed_none p s ready here =
    let none : min 0 (length (ready_from p s) - 1) ≡ 0 = omega arith in
    ap (slice_index (ready_from p s)) none ∙ ap (λ ps. slice_index ps 0) (ready_head p s ready here)

pub turned_same : (p q : ℕ) (t : Turns) → p ≡ q → turned p q t ≡ t
turned_same p q t h = ap (λ b. if b then t else record t { made = 1 }) (eq_true p q h)

-- the delays that are left further on

pub behind_all : (ns : List ℕ) → behind 0 ns ≡ ns
behind_all [] = refl
behind_all (n ∷ ns) =
    let passes : nat_le 0 n ≡ true = grind (arith, nat_tests) in
    let same : n - 0 ≡ n = omega arith in
    ap (λ b. map (λ k. k - 0) (cond b (n ∷ filter (nat_le 0) ns) (filter (nat_le 0) ns))) passes
    ∙ (λ i. same i ∷ behind_all ns i)

-- one number, k further on and then one
behind_number : (b c : Bool) (k n : ℕ) (ns ms : List ℕ) → nat_le 1 n ≡ b → nat_le (suc k) n ≡ c →
    behind k (map (λ j. j - 1) ms) ≡ map (λ j. j - suc k) ns →
    behind k (map (λ j. j - 1) (cond b (n ∷ ms) ms)) ≡ map (λ j. j - suc k) (cond c (n ∷ ns) ns)
behind_number true true k n ns ms some far h =
    let passes : nat_le k (n - 1) ≡ true = grind (arith, nat_tests) in
    let same : n - 1 - k ≡ n - suc k = omega arith in
    let rest = map (λ j. j - 1) ms in
    ap (λ b. map (λ j. j - k) (cond b ((n - 1) ∷ filter (nat_le k) rest) (filter (nat_le k) rest))) passes
    ∙ (λ i. same i ∷ h i)
behind_number true false k n ns ms some near h =
    let fails : nat_le k (n - 1) ≡ false = grind (arith, nat_tests) in
    let rest = map (λ j. j - 1) ms in
    ap (λ b. map (λ j. j - k) (cond b ((n - 1) ∷ filter (nat_le k) rest) (filter (nat_le k) rest))) fails ∙ h
behind_number false true k n ns ms none far h =
    let bad : true ≡ false = grind (arith, nat_tests) in absurd cc
behind_number false false k n ns ms none near h = h

pub behind_more : (k : ℕ) (ns : List ℕ) → behind k (behind 1 ns) ≡ behind (suc k) ns
behind_more k [] = refl
behind_more k (n ∷ ns) =
    behind_number (nat_le 1 n) (nat_le (suc k) n) k n (filter (nat_le (suc k)) ns) (filter (nat_le 1) ns) refl refl (behind_more k ns)

-- how many of them come k choices further on

eq_less : (b c : Bool) (k n : ℕ) → nat_le 1 n ≡ true → (n - 1 == k) ≡ b → (n == k + 1) ≡ c → b ≡ c
eq_less true true k n some here there = refl
eq_less true false k n some here there = grind (arith, nat_tests)
eq_less false true k n some here there = grind (arith, nat_tests)
eq_less false false k n some here there = refl

count_number : (b : Bool) (k n y : ℕ) (ms : List ℕ) → nat_le 1 n ≡ b → count_by (λ j. j == k) (map (λ j. j - 1) ms) ≡ y →
    count_by (λ j. j == k) (map (λ j. j - 1) (cond b (n ∷ ms) ms)) ≡ cond (n == k + 1) 1 0 + y
count_number true k n y ms some h =
    let same : (n - 1 == k) ≡ (n == k + 1) = eq_less (n - 1 == k) (n == k + 1) k n some refl refl in
    sum_by-cons (λ j. cond (j == k) 1 0) (n - 1) (map (λ j. j - 1) ms) ∙ (λ i. cond (same i) 1 0 + h i)
count_number false k n y ms none h =
    let no : (n == k + 1) ≡ false = grind (arith, nat_tests) in
    let zero : y ≡ 0 + y = omega arith in
    h ∙ zero ∙ ap (λ b. cond b 1 0 + y) (sym no)

pub count_behind : (k : ℕ) (ns : List ℕ) → count_by (λ n. n == k) (behind 1 ns) ≡ count_by (λ n. n == k + 1) ns
count_behind k [] = refl
count_behind k (n ∷ ns) =
    count_number (nat_le 1 n) k n (count_by (λ j. j == k + 1) ns) (filter (nat_le 1) ns) refl (count_behind k ns)
    ∙ sym (sum_by-cons (λ j. cond (j == k + 1) 1 0) n ns)
