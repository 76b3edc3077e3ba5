use Rattle.std.proofs.Common.{◌≡◌, ◌∙◌, refl, ap, subst, sym, ℕ, zero, suc, ◌+◌, ◌-◌, ◌≤◌, Bool, true, false, cond, List, [], ◌∷◌, length, map, arith}
use Rattle.std.proofs.lemmas.Bool.Decides.{nat_tests}
use Rattle.std.proofs.lemmas.List.Sums.{sum_by-cons}
use Rattle.std.specs.Prelude.{◌==◌, nat_le, filter}
use Rattle.m161_order.specs.Delays.{behind}
use Rattle.m161_drive.proofs.Finding.{eq_false}
use Rattle.m161_delays.specs.Lists.{IsAscendingFrom, times}

-- Lists of delays, seen from one choice sooner.

-- numbers that are at least a number are at least a lesser one
pub ascending_less : (more less : ℕ) (ns : List ℕ) → less ≤ more → IsAscendingFrom more ns → IsAscendingFrom less ns
ascending_less more less [] h k = tt
ascending_less more less (n ∷ ns) h k = ((let from = k.0 in omega (arith, h, from)), k.1)

-- so many come at that choice
unfoldable pub sooner : ℕ → List ℕ → List ℕ
sooner zero ns = map suc ns
sooner (suc m) ns = 0 ∷ sooner m ns

behind_suc : (ns : List ℕ) → behind 1 (map suc ns) ≡ ns
behind_suc [] = refl
behind_suc (n ∷ ns) =
    let passes : nat_le 1 (suc n) ≡ true = grind (arith, nat_tests) in
    let same : suc n - 1 ≡ n = omega arith in
    ap (λ b. map (λ k. k - 1) (cond b (suc n ∷ filter (nat_le 1) (map suc ns)) (filter (nat_le 1) (map suc ns)))) passes
    ∙ (λ i. same i ∷ behind_suc ns i)

pub behind_sooner : (m : ℕ) (ns : List ℕ) → behind 1 (sooner m ns) ≡ ns
unfolding sooner
behind_sooner zero ns = behind_suc ns
behind_sooner (suc m) ns = behind_sooner m ns

times_cons : (j n : ℕ) (ns : List ℕ) → times j (n ∷ ns) ≡ cond (n == j) 1 0 + times j ns
times_cons j n ns = sum_by-cons (λ k. cond (k == j) 1 0) n ns

times_none : (ns : List ℕ) → times 0 (map suc ns) ≡ 0
times_none [] = refl
times_none (n ∷ ns) =
    let no : (suc n == 0) ≡ false = eq_false (suc n) 0 (λ h. omega (arith, h)) in
    times_cons 0 (suc n) (map suc ns) ∙ (λ i. cond (no i) 1 0 + times_none ns i)

pub times_now : (m : ℕ) (ns : List ℕ) → times 0 (sooner m ns) ≡ m
unfolding sooner
times_now zero ns = times_none ns
times_now (suc m) ns =
    let one : cond true 1 0 + m ≡ suc m = omega arith in
    times_cons 0 0 (sooner m ns) ∙ ap (λ k. cond true 1 0 + k) (times_now m ns) ∙ one

suc_if : (b : Bool) (j n : ℕ) → (n == j) ≡ b → (suc n == suc j) ≡ b
suc_if true j n h = grind (arith, nat_tests)
suc_if false j n h = grind (arith, nat_tests)

suc_same : (j n : ℕ) → (suc n == suc j) ≡ (n == j)
suc_same j n = suc_if (n == j) j n refl

times_suc : (j : ℕ) (ns : List ℕ) → times (suc j) (map suc ns) ≡ times j ns
times_suc j [] = refl
times_suc j (n ∷ ns) =
    times_cons (suc j) (suc n) (map suc ns)
    ∙ (λ i. cond (suc_same j n i) 1 0 + times_suc j ns i)
    ∙ sym (times_cons j n ns)

pub times_later : (m j : ℕ) (ns : List ℕ) → times (suc j) (sooner m ns) ≡ times j ns
unfolding sooner
times_later zero j ns = times_suc j ns
times_later (suc m) j ns =
    let no : (0 == suc j) ≡ false = eq_false 0 (suc j) (λ h. omega (arith, h)) in
    let none : 0 + times j ns ≡ times j ns = omega arith in
    times_cons (suc j) 0 (sooner m ns) ∙ (λ i. cond (no i) 1 0 + times_later m j ns i) ∙ none

length_map : (ns : List ℕ) → length (map suc ns) ≡ length ns
length_map [] = refl
length_map (n ∷ ns) = ap suc (length_map ns)

pub length_sooner : (m : ℕ) (ns : List ℕ) → length (sooner m ns) ≡ m + length ns
unfolding sooner
length_sooner zero ns = let same = length_map ns in omega (arith, same)
length_sooner (suc m) ns = let rest = length_sooner m ns in omega (arith, rest)

-- those that come now, and those behind
parted : (b c : Bool) (n : ℕ) (ns ms : List ℕ) (k : ℕ) → nat_le 1 n ≡ b → (n == 0) ≡ c → k + length (map (λ j. j - 1) ms) ≡ length ns →
    (cond c 1 0 + k) + length (map (λ j. j - 1) (cond b (n ∷ ms) ms)) ≡ suc (length ns)
parted true true n ns ms k some none h = let bad : true ≡ false = grind (arith, nat_tests) in absurd cc
parted true false n ns ms k some other h = omega (arith, h)
parted false true n ns ms k less none h = omega (arith, h)
parted false false n ns ms k less other h = let bad : true ≡ false = grind (arith, nat_tests) in absurd cc

pub length_parts : (ns : List ℕ) → times 0 ns + length (behind 1 ns) ≡ length ns
length_parts [] = refl
length_parts (n ∷ ns) =
    ap (λ k. k + length (behind 1 (n ∷ ns))) (times_cons 0 n ns)
    ∙ parted (nat_le 1 n) (n == 0) n ns (filter (nat_le 1) ns) (times 0 ns) refl refl (length_parts ns)

-- an ascending list, seen from one choice sooner, is the list itself
all_later : (ns : List ℕ) → IsAscendingFrom 1 ns → (map suc (behind 1 ns) ≡ ns) × (times 0 ns ≡ 0)
all_later [] h = (refl, refl)
all_later (n ∷ ns) h =
    let some = h.0 in
    let rest = all_later ns (ascending_less n 1 ns some h.1) in
    let passes : nat_le 1 n ≡ true = grind (arith, nat_tests) in
    let same : suc (n - 1) ≡ n = omega (arith, some) in
    let no : (n == 0) ≡ false = eq_false n 0 (λ z. omega (arith, z, some)) in (
      ap (λ b. map suc (map (λ k. k - 1) (cond b (n ∷ filter (nat_le 1) ns) (filter (nat_le 1) ns)))) passes
          ∙ (λ i. same i ∷ rest.0 i),
      times_cons 0 n ns ∙ (λ i. cond (no i) 1 0 + rest.1 i),
    )

pub whole : (ns : List ℕ) → IsAscendingFrom 0 ns → sooner (times 0 ns) (behind 1 ns) ≡ ns
unfolding sooner
whole [] h = refl
whole (zero ∷ ns) h =
    let one : cond true 1 0 + times 0 ns ≡ suc (times 0 ns) = omega arith in
    ap (λ k. sooner k (behind 1 ns)) (times_cons 0 0 ns ∙ one) ∙ ap (λ xs. 0 ∷ xs) (whole ns h.1)
whole (suc n ∷ ns) h =
    let all = all_later (suc n ∷ ns) (omega arith, h.1) in
    ap (λ k. sooner k (behind 1 (suc n ∷ ns))) all.1 ∙ all.0

-- and those behind are ascending too
ascending_later_less : (ns : List ℕ) (k : ℕ) → IsAscendingFrom (suc k) ns → IsAscendingFrom k (behind 1 ns)
ascending_later_less [] k h = tt
ascending_later_less (n ∷ ns) k h =
    let some = h.0 in
    let passes : nat_le 1 n ≡ true = grind (arith, nat_tests) in
    let same : suc (n - 1) ≡ n = omega (arith, some) in
    subst (λ b. IsAscendingFrom k (map (λ j. j - 1) (cond b (n ∷ filter (nat_le 1) ns) (filter (nat_le 1) ns)))) (sym passes)
    ((omega (arith, some)), ascending_later_less ns (n - 1) (subst (λ x. IsAscendingFrom x ns) (sym same) h.1))

pub ascending_behind : (ns : List ℕ) → IsAscendingFrom 0 ns → IsAscendingFrom 0 (behind 1 ns)
ascending_behind [] h = tt
ascending_behind (zero ∷ ns) h = ascending_behind ns h.1
ascending_behind (suc n ∷ ns) h = ascending_later_less (suc n ∷ ns) 0 (omega arith, h.1)
