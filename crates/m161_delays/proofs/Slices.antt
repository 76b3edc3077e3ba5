use Rattle.std.proofs.Common.{◌≡◌, refl, sym, subst, ℕ, ◌+◌, ◌<◌, ◌≤◌, ◌%◌, ◌^◌, Bool, true, false, List, [], ◌∷◌, length, arith, ◌⊎◌, inl, inr}
use Rattle.std.proofs.lemmas.Bool.Decides.{nat_tests}
use Rattle.std.specs.Prelude.{◌==◌, if◌then◌else◌, min, nat_lt, Option, None, Some}
use Rattle.m161_jobs.specs.Trials.{AreRight}
use Rattle.m161_jobs.proofs.Rights.{right_few}
use Rattle.m161_order.specs.declared.delays.Delays.{Delays}
use Rattle.m161_order.specs.Delays.{delays_of}
use Rattle.m161_delays.specs.declared.slice.SliceStop.{SliceStop}
use Rattle.m161_delays.specs.declared.slice.SliceStop.TheVariants.{Next, Wrong}
use Rattle.m161_delays.specs.declared.walk.Sums.{Sums}
use Rattle.m161_delays.specs.declared.search.Class.{Class}
use Rattle.m161_delays.specs.Lists.{ComesBefore, IsLess}
use Rattle.m161_delays.specs.Runs.{IsUsefulOf}
use Rattle.m161_delays.specs.Search.{AreClean, IsFirst}
use Rattle.m161_delays.specs.Slices.{IsSlice, IsUsefulFrom, MayStop, stopped_at}
use Rattle.m161_delays.specs.helpers.Slicing.{AreMade, GoesAlong, IsBehindFrom, MayStopIn, StopsSo, rest_at}
use Rattle.m161_delays.specs.helpers.Walking.{IsBehind}
use Rattle.m161_delays.proofs.Counting.{counted_right, made_more, made_none, made_same, those_same}
use Rattle.m161_delays.proofs.Lengths.{IsShorter, by_length, long_of, of_long}

-- The lists of a class from one on, by their lengths.

abbrev pub IsShorterFrom : Class → (List ℕ → List ℕ) → List ℕ → ℕ → List ℕ → Type 0
IsShorterFrom class offers from n z = IsUsefulFrom class offers from z × (length z < n)

less_none : (xs : List ℕ) → IsLess xs [] → ⊥
less_none [] h = h
less_none (x ∷ xs) h = h

eq_same : (a b : ℕ) → a ≡ b → (a == b) ≡ false → ⊥
eq_same a b same h = let bad : ⊥ = grind (arith, nat_tests, h, same) in bad

eq_of : (a b : ℕ) → (a == b) ≡ true → a ≡ b
eq_of a b h = grind (arith, nat_tests)

-- of lists as long as this, those not before another aren't less than its numbers here
before_if : (from z : List ℕ) (n : ℕ) (b : Bool) → length z ≡ n → length from ≤ n → (length from == n) ≡ b → (IsLess z (if b then from else []) → ⊥) →
    ComesBefore z from → ⊥
before_if from z n b long least is not (inl shorter) = let bad : ⊥ = omega (arith, shorter, long, least) in bad
before_if from z n true long least is not (inr same) = not same.1
before_if from z n false long least is not (inr same) = let size = same.0 in eq_same (length from) n (omega (arith, size, long)) is

less_if : (from z : List ℕ) (n : ℕ) (b : Bool) → length z ≡ n → (length from == n) ≡ b → (ComesBefore z from → ⊥) → IsLess z (if b then from else []) → ⊥
less_if from z n true long is not less = let size = eq_of (length from) n is in not (inr (omega (arith, size, long), less))
less_if from z n false long is not less = less_none z less

of_behind : (class : Class) (offers : List ℕ → List ℕ) (from : List ℕ) (n : ℕ) (z : List ℕ) → length from ≤ n →
    IsBehindFrom class offers [] n (rest_at from n) z → IsUsefulFrom class offers from z
of_behind class offers from n z least h = (
  h.0.is_useful,
  before_if from z n (length from == n) (long_of class offers n z h.0) least refl h.1,
)

to_behind : (class : Class) (offers : List ℕ → List ℕ) (from : List ℕ) (n : ℕ) (z : List ℕ) → length z ≡ n → IsUsefulFrom class offers from z →
    IsBehindFrom class offers [] n (rest_at from n) z
to_behind class offers from n z long h = (of_long class offers n z h.0 long, less_if from z n (length from == n) long refl h.1)

-- the walk along the lengths
pub reached : (from : List ℕ) (n most : ℕ) → min (length from) 65 ≤ n → n < most + 1 → most ≤ 64 → length from ≤ n
reached from n most least less few = omega (arith, least, less, few)

pub from_none : (class : Class) (offers : List ℕ → List ℕ) (right : List ℕ → Bool → Type 0) (from : List ℕ) (n : ℕ) (limit : Option ℕ) (s : Sums) →
    n ≤ length from → AreMade (IsShorterFrom class offers from n) right limit s s
from_none class offers right from n limit s is =
    made_none (IsShorterFrom class offers from n) right limit s (λ z h. let less = h.1 in h.0.1 (inl (omega (arith, less, is))))

split_length : (class : Class) (offers : List ℕ → List ℕ) (from : List ℕ) (n : ℕ) (z : List ℕ) → IsUsefulFrom class offers from z →
    IsShorter class offers n z ⊎ IsBehind class offers [] n z →
    IsShorterFrom class offers from n z ⊎ IsBehindFrom class offers [] n (rest_at from n) z
split_length class offers from n z h (inl shorter) = inl (h, shorter.1)
split_length class offers from n z h (inr behind) = inr (to_behind class offers from n z (long_of class offers n z behind) h)

pub from_longer : (class : Class) (offers : List ℕ → List ℕ) (right : List ℕ → Bool → Type 0) (from : List ℕ) (n : ℕ) (limit : Option ℕ) (s t u : Sums) →
    length from ≤ n → AreMade (IsShorterFrom class offers from n) right limit s t →
    AreMade (IsBehindFrom class offers [] n (rest_at from n)) right limit t u → AreMade (IsShorterFrom class offers from (n + 1)) right limit s u
from_longer class offers right from n limit s t u least made longer =
    made_more (IsShorterFrom class offers from n) (IsBehindFrom class offers [] n (rest_at from n)) (IsShorterFrom class offers from (n + 1)) right limit s t u
    (λ x y a b. let less = a.1 in let long = long_of class offers n y b.0 in inl (omega (arith, less, long)))
    (λ z h. let less = h.1 in (h.0, omega (arith, less)))
    (λ z h. let long = long_of class offers n z h.0 in (of_behind class offers from n z least h, omega (arith, long)))
    (λ z h. split_length class offers from n z h.0 (by_length class offers n z h.0.0 h.1 (nat_lt (length z) n) refl)) made longer

pub from_whole : (class : Class) (offers : List ℕ → List ℕ) (right : List ℕ → Bool → Type 0) (from : List ℕ) (n : ℕ) (limit : Option ℕ) (s t : Sums) →
    class.most < n → AreMade (IsShorterFrom class offers from n) right limit s t → AreMade (IsUsefulFrom class offers from) right limit s t
from_whole class offers right from n limit s t whole made =
    made_same (IsShorterFrom class offers from n) (IsUsefulFrom class offers from) right limit s t (λ z h. h.0)
    (λ z h. (h, (let few = h.0.0.few in omega (arith, few, whole)))) made

split_before : (class : Class) (offers : List ℕ → List ℕ) (from : List ℕ) (n : ℕ) (z d : List ℕ) → length d ≡ n → IsUsefulFrom class offers from z →
    ComesBefore z d →
    IsShorterFrom class offers from n z ⊎ (IsBehindFrom class offers [] n (rest_at from n) z × ComesBefore z d)
split_before class offers from n z d long h (inl shorter) = inl (h, omega (arith, shorter, long))
split_before class offers from n z d long h (inr same) =
    let size = same.0 in inr (to_behind class offers from n z (omega (arith, size, long)) h, inr same)

pub from_stop : {W : Type 0} (class : Class) (offers : List ℕ → List ℕ) (right : List ℕ → Bool → Type 0) (wrong : List ℕ → W → Type 0) (from : List ℕ)
    (n : ℕ) (limit : Option ℕ) (s t u : Sums) (stop : SliceStop W) → length from ≤ n → AreMade (IsShorterFrom class offers from n) right limit s t →
    StopsSo (IsBehindFrom class offers [] n (rest_at from n)) right wrong limit t u stop →
    StopsSo (IsUsefulFrom class offers from) right wrong limit s u stop
from_stop class offers right wrong from n limit s t u stop least made stops =
    let d = delays_of (stopped_at stop) in
    let long = long_of class offers n d stops.is_so.0 in
    record {
      is_so = of_behind class offers from n d least stops.is_so;
      may = stops.may;
      before =
          made_more (IsShorterFrom class offers from n) (λ z. IsBehindFrom class offers [] n (rest_at from n) z × ComesBefore z d)
          (λ z. IsUsefulFrom class offers from z × ComesBefore z d) right limit s t u
          (λ x y a b. let less = a.1 in let size = long_of class offers n y b.0.0 in inl (omega (arith, less, size)))
          (λ z h. let less = h.1 in (h.0, inl (omega (arith, less, long))))
          (λ z h. (of_behind class offers from n z least h.0, h.1))
          (λ z h. split_before class offers from n z d long h.0 h.1) made stops.before;
    }

-- a slice of at most so many runs
cut_is : (cut all runs long : ℕ) → cut % 2 ^ 64 ≡ (0 + all) % 2 ^ 64 → cut < 2 ^ 64 → all ≤ long → runs ≡ 0 + long → runs < 2 ^ 64 → all ≡ cut
cut_is cut all runs long h small few is fits = omega (arith, h, small, few, is, fits)

rights_in : (IsSo : List ℕ → Type 0) (right : List ℕ → Bool → Type 0) (most runs cut : ℕ) →
    (h : AreMade IsSo right (Some most) (record { runs = 0; cut = 0 }) (record { runs = runs; cut = cut })) →
    AreRight right h.counted.lists cut × (runs ≡ length h.counted.lists) × (runs ≤ most)
rights_in IsSo right most runs cut h =
    let counted = h.counted in
    let fits = counted.fits (omega arith, omega arith) in
    let within = h.within most refl (omega arith) in
    let is = within.0 in (
      subst (AreRight right counted.lists)
          (cut_is cut counted.cut runs (length counted.lists) counted.cut_is fits.1 (right_few right counted.lists counted.cut counted.are_right) is fits.0)
          counted.are_right,
      omega (arith, is),
      within.1,
    )

some_is : (a b : ℕ) → ◌≡◌ {A = Option ℕ} (Some a) (Some b) → b ≡ a
some_is a b h = let same : a ≡ b = cc in sym same

may_stop : {W : Type 0} (wrong : List ℕ → W → Type 0) (most runs : ℕ) (stop : SliceStop W) → runs ≤ most → MayStopIn wrong (Some most) runs stop →
    MayStop wrong most runs stop
may_stop wrong most runs (Wrong delays what) few h = (h.0 most refl few, h.1)
may_stop wrong most runs (Next delays) few h = some_is most runs h

pub is_slice : {W : Type 0} (class : Class) (offers : List ℕ → List ℕ) (right : List ℕ → Bool → Type 0) (wrong : List ℕ → W → Type 0) (from : List ℕ)
    (most runs cut : ℕ) (stop : Option (SliceStop W)) →
    GoesAlong (IsUsefulFrom class offers from) right wrong (Some most) (record { runs = 0; cut = 0 }) (record { runs = runs; cut = cut }) stop →
    IsSlice class offers right wrong from most (record { runs = runs; cut = cut; stop = stop })
is_slice class offers right wrong from most runs cut None h =
    let rights = rights_in (IsUsefulFrom class offers from) right most runs cut h in
    record {
      lists = h.counted.lists;
      are_those =
          those_same (IsUsefulFrom class offers from) (λ z. IsUsefulFrom class offers from z × Unit {0}) h.counted.lists (λ z so. (so, tt)) (λ z so. so.0)
          h.counted.are_those;
      are_right = rights.0;
      runs_is = rights.1;
      stops = rights.2;
    }
is_slice class offers right wrong from most runs cut (Some stop) h =
    let rights = rights_in (λ z. IsUsefulFrom class offers from z × ComesBefore z (delays_of (stopped_at stop))) right most runs cut h.before in
    record {
      lists = h.before.counted.lists;
      are_those = h.before.counted.are_those;
      are_right = rights.0;
      runs_is = rights.1;
      stops = (h.is_so, may_stop wrong most runs stop rights.2 h.may);
    }

-- from the empty list on, a slice without a limit is the whole
pub not_before_none : (z : List ℕ) → ComesBefore z [] → ⊥
not_before_none z (inl shorter) = let bad : ⊥ = omega (arith, shorter) in bad
not_before_none z (inr same) = less_none z same.1

pub whole_clean : (class : Class) (offers : List ℕ → List ℕ) (right : List ℕ → Bool → Type 0) (limit : Option ℕ) (runs cut : ℕ) →
    AreMade (IsUsefulFrom class offers []) right limit (record { runs = 0; cut = 0 }) (record { runs = runs; cut = cut }) →
    AreClean class offers right runs cut
whole_clean class offers right limit runs cut made =
    let counted = made.counted in
    record {
      lists = counted.lists;
      are_useful =
          those_same (IsUsefulFrom class offers []) (IsUsefulOf class offers) counted.lists (λ z h. h.0) (λ z h. (h, not_before_none z)) counted.are_those;
      all_cut = counted.cut;
      are_right = counted.are_right;
      runs_is = let is = counted.runs_is in let small = (counted.fits (omega arith, omega arith)).0 in omega (arith, is, small);
      cut_is = let is = counted.cut_is in let small = (counted.fits (omega arith, omega arith)).1 in omega (arith, is, small);
    }

pub whole_first : {W : Type 0} (class : Class) (offers : List ℕ → List ℕ) (right : List ℕ → Bool → Type 0) (wrong : List ℕ → W → Type 0)
    (limit : Option ℕ) (s t : Sums) (delays : Delays) (what : W) →
    StopsSo (IsUsefulFrom class offers []) right wrong limit s t (Wrong delays what) → IsFirst class offers right wrong (delays_of delays) what
whole_first class offers right wrong limit s t delays what h = record {
  is_useful = h.is_so.0;
  is_wrong = h.may.1;
  before = λ others useful order.
      counted_right (λ z. IsUsefulFrom class offers [] z × ComesBefore z (delays_of delays)) right s t others h.before.counted
      ((useful, not_before_none others), order);
}
