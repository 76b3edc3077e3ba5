use Rattle.std.proofs.Common.{◌≡◌, ◌∙◌, refl, ap, sym, subst, ℕ, zero, suc, ◌+◌, ◌%◌, ◌^◌, ◌<◌, ◌≤◌, Bool, List, [], ◌∷◌, ◌++◌, length, map, arith, inl, inr}
use Rattle.std.proofs.lemmas.List.{length-append, length-map, map_push}
use Rattle.std.specs.Prelude.{slice_index}
use Rattle.std.specs.List.{AllByRecursion, range_with_len}
use Rattle.m161_order.specs.declared.delays.Delays.{Delays}
use Rattle.m161_order.specs.Delays.{delays_of}
use Rattle.m161_delays.specs.declared.search.Class.{Class}
use Rattle.m161_delays.specs.declared.walk.Found.{Found}
use Rattle.m161_delays.specs.declared.walk.Sums.{Sums}
use Rattle.m161_delays.specs.Lists.{ComesBefore, times}
use Rattle.m161_delays.specs.helpers.Last.{last_from}
use Rattle.m161_delays.specs.Runs.{AreInOrder, AreThose, ChooseAlike, IsAmong, IsUsefulOf}
use Rattle.m161_delays.specs.helpers.Walking.{AreCounted, AreNext, IsBehind, IsBehindBelow, IsFirstSo, IsLonger, with_number}
use Rattle.m161_delays.proofs.Counting.{counted_those, those_more, those_none, those_one, those_same}
use Rattle.m161_delays.proofs.Judging.{not_before, not_both}
use Rattle.m161_delays.proofs.Walking.{all_below, below_less, below_more, below_or_child, child_below, in_order, itself_behind, none_behind, none_below}
use Rattle.m161_jobs.specs.declared.trials.Tried.{Tried}
use Rattle.m161_jobs.specs.declared.trials.Tried.TheVariants.{Clean, Wrong}
use Rattle.m161_jobs.specs.Answers.{AreRightBelow, IsAnswer}
use Rattle.m161_jobs.specs.Trials.{AreRight}

-- Lists that differ in their last number alone.

-- the lists with the numbers below a place
pub record AreNextBelow
    (class : Class) (offers : List ℕ → List ℕ) (ns : List ℕ) (place : ℕ) (next : List ℕ) : Type 0 where
  pub are_those : AreThose (IsBehindBelow class offers ns 1 place) (map (with_number ns) next)
  pub least : AllByRecursion (λ n. last_from class.from ns ≤ n) next
  pub few : length next ≤ place
  pub fits : length next < 2 ^ 32

all_push : (P : ℕ → Type 0) (ns : List ℕ) (n : ℕ) → AllByRecursion P ns → P n → AllByRecursion P (ns ++ n ∷ [])
all_push P [] n h k = (k, tt)
all_push P (m ∷ ns) n h k = (h.0, all_push P ns n h.1 k)

pub next_none : (class : Class) (offers : List ℕ → List ℕ) (ns : List ℕ) (k : ℕ) → ChooseAlike offers → k ≡ last_from class.from ns →
    AreNextBelow class offers ns k []
next_none class offers ns k alike is = record {
  are_those = those_none (IsBehindBelow class offers ns 1 k) (none_below class offers ns 1 k alike is);
  least = tt;
  few = omega arith;
  fits = omega arith;
}

pub next_useless : (class : Class) (offers : List ℕ → List ℕ) (ns : List ℕ) (k : ℕ) (next : List ℕ) → ChooseAlike offers →
    slice_index (offers ns) k ≤ times k ns + 1 → AreNextBelow class offers ns k next → AreNextBelow class offers ns (k + 1) next
next_useless class offers ns k next alike few before = record {
  are_those =
      those_same (IsBehindBelow class offers ns 1 k) (IsBehindBelow class offers ns 1 (k + 1)) (map (with_number ns) next)
      (below_more class offers ns 1 k) (below_less class offers ns 0 k alike few) before.are_those;
  least = before.least;
  few = let less = before.few in omega (arith, less);
  fits = before.fits;
}

only_itself : (class : Class) (offers : List ℕ → List ℕ) (ms z : List ℕ) → IsBehind class offers ms 0 z → z ≡ ms
only_itself class offers ms z h = none_behind class offers ms 0 z h.rest refl h refl

pub next_useful : (class : Class) (offers : List ℕ → List ℕ) (ns : List ℕ) (k : ℕ) (next more : List ℕ) (longer : Delays) →
    last_from class.from ns ≤ k → k + 1 < 2 ^ 32 → IsLonger class offers ns k longer → more ≡ next ++ k ∷ [] → AreNextBelow class offers ns k next →
    AreNextBelow class offers ns (k + 1) more
next_useful class offers ns k next more longer least fits is_longer is before =
    let itself : IsBehind class offers (with_number ns k) 0 (with_number ns k) =
    itself_behind class offers (with_number ns k) 0 (with_number ns k) refl (subst (IsUsefulOf class offers) is_longer.longer_is is_longer.is_useful) refl in
    let one = those_one (IsBehind class offers (with_number ns k) 0) (with_number ns k) itself (only_itself class offers (with_number ns k)) in
    let all = those_more (IsBehindBelow class offers ns 1 k) (IsBehind class offers (with_number ns k) 0) (IsBehindBelow class offers ns 1 (k + 1))
    (map (with_number ns) next) (with_number ns k ∷ []) (in_order class offers ns 0 k) (below_more class offers ns 1 k) (child_below class offers ns 0 k)
    (below_or_child class offers ns 0 k) before.are_those one in
    let lists : map (with_number ns) next ++ with_number ns k ∷ [] ≡ map (with_number ns) more =
    sym (map_push (with_number ns) next k) ∙ ap (map (with_number ns)) (sym is) in
    record {
      are_those = subst (AreThose (IsBehindBelow class offers ns 1 (k + 1))) lists all;
      least = subst (AllByRecursion (λ n. last_from class.from ns ≤ n)) (sym is) (all_push (λ n. last_from class.from ns ≤ n) next k before.least least);
      few = let size = ap length is ∙ length-append next (k ∷ []) in let less = before.few in omega (arith, size, less);
      fits = let size = ap length is ∙ length-append next (k ∷ []) in let less = before.few in omega (arith, size, less, fits);
    }

pub next_all : (class : Class) (offers : List ℕ → List ℕ) (ns : List ℕ) (to : ℕ) (next : List ℕ) → ChooseAlike offers →
    ((n : ℕ) → n < class.within → n < length (offers ns) → n < to) → AreNextBelow class offers ns to next → AreNext class offers ns next
next_all class offers ns to next alike bound below = record {
  are_those =
      those_same (IsBehindBelow class offers ns 1 to) (IsBehind class offers ns 1) (map (with_number ns) next) (λ z h. h.0)
      (all_below class offers ns 0 to alike bound) below.are_those;
  least = below.least;
  few = below.fits;
}

-- by the number of a trial
right_mapped : (right : List ℕ → Bool → Type 0) (f at : ℕ → List ℕ) (from : ℕ) (next : List ℕ) (cut : ℕ) →
    ((i : ℕ) → i < length next → at (from + i) ≡ f (slice_index next i)) → AreRight (λ n. right (at n)) (range_with_len from (length next)) cut →
    AreRight right (map f next) cut
right_mapped right f at from [] cut is h = h
right_mapped right f at from (x ∷ next) cut is h =
    let here : from ≡ from + 0 = omega arith in (
      h.0,
      h.1,
      subst (λ z. right z h.0) (ap at here ∙ is 0 (omega arith)) h.2,
      h.3,
      right_mapped right f at (from + 1) next h.1
          (λ i less.
          let on : from + 1 + i ≡ from + suc i = omega arith in ap at on ∙ is (suc i) (omega (arith, less)))
          h.4,
    )

pub right_next : (right : List ℕ → Bool → Type 0) (ns next : List ℕ) (cut : ℕ) →
    AreRight (λ n. right (with_number ns (slice_index next n))) (range_with_len 0 (length next)) cut → AreRight right (map (with_number ns) next) cut
right_next right ns next cut h =
    right_mapped right (with_number ns) (λ n. with_number ns (slice_index next n)) 0 next cut
    (λ i less. let same : 0 + i ≡ i = omega arith in ap (λ n. with_number ns (slice_index next n)) same) h

each_at : (P : List ℕ → Type 0) (f : ℕ → List ℕ) (next : List ℕ) (place : ℕ) → place < length next → AllByRecursion P (map f next) →
    P (f (slice_index next place))
each_at P f [] place within all = absurd (let bad : ⊥ = omega (arith, within) in bad)
each_at P f (x ∷ next) zero within all = all.0
each_at P f (x ∷ next) (suc place) within all = each_at P f next place (omega (arith, within)) all.1

pub number_at : (P : ℕ → Type 0) (next : List ℕ) (place : ℕ) → place < length next → AllByRecursion P next → P (slice_index next place)
number_at P [] place within all = absurd (let bad : ⊥ = omega (arith, within) in bad)
number_at P (x ∷ next) zero within all = all.0
number_at P (x ∷ next) (suc place) within all = number_at P next place (omega (arith, within)) all.1

among_each : (P : List ℕ → Type 0) (z : List ℕ) (xs : List (List ℕ)) → AllByRecursion P xs → IsAmong z xs → P z
among_each P z [] all among = absurd among
among_each P z (x ∷ xs) all (inl same) = subst P (sym same) all.0
among_each P z (x ∷ xs) all (inr rest) = among_each P z xs all.1 rest

-- a list that comes before one of these stands before it among them
right_before : (right : List ℕ → Bool → Type 0) (f : ℕ → List ℕ) (next : List ℕ) (place : ℕ) (z : List ℕ) → place < length next →
    AreInOrder (map f next) → ((n : ℕ) → n < place → (is_cut : Bool) × right (f (slice_index next n)) is_cut) → IsAmong z (map f next) →
    ComesBefore z (f (slice_index next place)) → (is_cut : Bool) × right z is_cut
right_before right f [] place z within order rights among before = absurd among
right_before right f (x ∷ next) zero z within order rights (inl same) before =
    absurd (not_before (f x) (subst (λ y. ComesBefore y (f x)) same before))
right_before right f (x ∷ next) zero z within order rights (inr rest) before =
    absurd (not_both (f x) z (among_each (ComesBefore (f x)) z (map f next) order.0 rest) before)
right_before right f (x ∷ next) (suc place) z within order rights (inl same) before =
    let first = rights 0 (omega arith) in (first.0, subst (λ y. right y first.0) (sym same) first.1)
right_before right f (x ∷ next) (suc place) z within order rights (inr rest) before =
    right_before right f next place z (omega (arith, within)) order.1 (λ n less. rights (suc n) (omega (arith, less))) rest before

pub first_next : {W : Type 0} (class : Class) (offers : List ℕ → List ℕ) (right : List ℕ → Bool → Type 0) (wrong : List ℕ → W → Type 0)
    (ns next : List ℕ) (place : ℕ) (found : Found W) → AreNext class offers ns next → place < length next →
    delays_of found.delays ≡ with_number ns (slice_index next place) → wrong (with_number ns (slice_index next place)) found.wrong →
    ((n : ℕ) → n < place → (is_cut : Bool) × right (with_number ns (slice_index next n)) is_cut) →
    IsFirstSo (IsBehind class offers ns 1) right wrong found
first_next class offers right wrong ns next place found those within is is_wrong rights = record {
  is_so = subst (IsBehind class offers ns 1) (sym is) (each_at (IsBehind class offers ns 1) (with_number ns) next place within those.are_those.each);
  is_wrong = subst (λ z. wrong z found.wrong) (sym is) is_wrong;
  before = λ z so order.
      right_before right (with_number ns) next place z within those.are_those.ordered rights (those.are_those.all z so)
      (subst (ComesBefore z) is order);
}

pub last_zero : (from n : ℕ) (ns : List ℕ) → last_from from ns ≤ n → last_from 0 ns ≤ n
last_zero from n [] h = omega arith
last_zero from n (m ∷ ns) h = h

-- the trial with a number is the list with the number at its place
abbrev pub IsAnswerOf : {W : Type 0} → (List ℕ → Bool → Type 0) → (List ℕ → W → Type 0) → List ℕ → List ℕ → ℕ → Tried W → Type 0
IsAnswerOf right wrong ns next count tried =
    IsAnswer (λ n. right (with_number ns (slice_index next n))) (λ n. wrong (with_number ns (slice_index next n))) count tried

pub clean_next : {W : Type 0} (class : Class) (offers : List ℕ → List ℕ) (right : List ℕ → Bool → Type 0) (wrong : List ℕ → W → Type 0)
    (ns next : List ℕ) (count cut : ℕ) (s t : Sums) (tried : Tried W) → AreNext class offers ns next → count ≡ length next → tried ≡ Clean cut →
    IsAnswerOf right wrong ns next count tried → t.runs ≡ (s.runs + count) % 2 ^ 64 → t.cut ≡ (s.cut + cut) % 2 ^ 64 →
    AreCounted (IsBehind class offers ns 1) right s t
clean_next class offers right wrong ns next count cut s t tried those size is answer runs_new cut_new =
    let all : AreRight (λ n. right (with_number ns (slice_index next n))) (range_with_len 0 count) cut = subst (IsAnswerOf right wrong ns next count) is answer in
    let long : count ≡ length (map (with_number ns) next) = size ∙ sym (length-map next (with_number ns)) in
    counted_those (IsBehind class offers ns 1) right s t (map (with_number ns) next) cut those.are_those
    (right_next right ns next cut (subst (λ k. AreRight (λ n. right (with_number ns (slice_index next n))) (range_with_len 0 k) cut) size all))
    (runs_new ∙ ap (λ k. (s.runs + k) % 2 ^ 64) long) cut_new

pub wrong_next : {W : Type 0} (right : List ℕ → Bool → Type 0) (wrong : List ℕ → W → Type 0) (ns next : List ℕ) (count place : ℕ) (what : W)
    (tried : Tried W) → tried ≡ Wrong place what → IsAnswerOf right wrong ns next count tried →
    (place < count) × wrong (with_number ns (slice_index next place)) what × AreRightBelow (λ n. right (with_number ns (slice_index next n))) place
wrong_next right wrong ns next count place what tried is answer = subst (IsAnswerOf right wrong ns next count) is answer
