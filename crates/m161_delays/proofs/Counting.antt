use Rattle.std.proofs.Common.{◌≡◌, refl, sym, subst, ℕ, ◌+◌, ◌<◌, ◌≤◌, ◌%◌, ◌^◌, Bool, List, [], ◌∷◌, ◌++◌, length, arith, ◌⊎◌, inl, inr}
use Rattle.std.proofs.lemmas.List.{length-append}
use Rattle.std.specs.Prelude.{if◌then◌else◌, Option, Some}
use Rattle.std.specs.List.{AllByRecursion}
use Rattle.m161_delays.specs.declared.walk.Sums.{Sums}
use Rattle.m161_delays.specs.Lists.{ComesBefore}
use Rattle.m161_delays.specs.Runs.{AreInOrder, AreThose, IsAmong}
use Rattle.m161_jobs.specs.Trials.{AreRight}
use Rattle.m161_jobs.proofs.Rights.{right_more, right_one}
use Rattle.m161_delays.specs.helpers.Slicing.{AreMade}
use Rattle.m161_delays.specs.helpers.Walking.{AreCounted}

-- Lists of lists, and how many of their runs are cut.

all_append : (P : List ℕ → Type 0) (xs ys : List (List ℕ)) → AllByRecursion P xs → AllByRecursion P ys → AllByRecursion P (xs ++ ys)
all_append P [] ys h k = k
all_append P (x ∷ xs) ys h k = (h.0, all_append P xs ys h.1 k)

pub all_map : (P Q : List ℕ → Type 0) (xs : List (List ℕ)) → ((x : List ℕ) → P x → Q x) → AllByRecursion P xs → AllByRecursion Q xs
all_map P Q [] f h = tt
all_map P Q (x ∷ xs) f h = (f x h.0, all_map P Q xs f h.1)

among_left : (z : List ℕ) (xs ys : List (List ℕ)) → IsAmong z xs → IsAmong z (xs ++ ys)
among_left z [] ys h = absurd h
among_left z (x ∷ xs) ys (inl same) = inl same
among_left z (x ∷ xs) ys (inr rest) = inr (among_left z xs ys rest)

among_right : (z : List ℕ) (xs ys : List (List ℕ)) → IsAmong z ys → IsAmong z (xs ++ ys)
among_right z [] ys h = h
among_right z (x ∷ xs) ys h = inr (among_right z xs ys h)

ordered_append : (A B : List ℕ → Type 0) (xs ys : List (List ℕ)) → ((x y : List ℕ) → A x → B y → ComesBefore x y) →
    AllByRecursion A xs → AllByRecursion B ys → AreInOrder xs → AreInOrder ys → AreInOrder (xs ++ ys)
ordered_append A B [] ys f h k a b = b
ordered_append A B (x ∷ xs) ys f h k a b = (
  all_append (ComesBefore x) xs ys a.0 (all_map B (ComesBefore x) ys (λ y of_y. f x y h.0 of_y) k),
  ordered_append A B xs ys f h.1 k a.1 b,
)

among_split : (A B : List ℕ → Type 0) (z : List ℕ) (xs ys : List (List ℕ)) → AreThose A xs → AreThose B ys → A z ⊎ B z → IsAmong z (xs ++ ys)
among_split A B z xs ys first second (inl a) = among_left z xs ys (first.all z a)
among_split A B z xs ys first second (inr b) = among_right z xs ys (second.all z b)

-- lists that are so, and behind them others that are so in another way
pub those_more : (A B C : List ℕ → Type 0) (xs ys : List (List ℕ)) → ((x y : List ℕ) → A x → B y → ComesBefore x y) →
    ((z : List ℕ) → A z → C z) → ((z : List ℕ) → B z → C z) → ((z : List ℕ) → C z → A z ⊎ B z) →
    AreThose A xs → AreThose B ys → AreThose C (xs ++ ys)
those_more A B C xs ys order of_a of_b split first second = record {
  each = all_append C xs ys (all_map A C xs of_a first.each) (all_map B C ys of_b second.each);
  all = λ z h. among_split A B z xs ys first second (split z h);
  ordered = ordered_append A B xs ys order first.each second.each first.ordered second.ordered;
}

pub right_among : (right : List ℕ → Bool → Type 0) (xs : List (List ℕ)) (a : ℕ) (z : List ℕ) → AreRight right xs a → IsAmong z xs →
    (is_cut : Bool) × right z is_cut
right_among right [] a z h among = absurd among
right_among right (x ∷ xs) a z h (inl same) = (h.0, subst (λ y. right y h.0) (sym same) h.2)
right_among right (x ∷ xs) a z h (inr rest) = right_among right xs h.1 z h.4 rest

pub those_none : (A : List ℕ → Type 0) → ((z : List ℕ) → A z → ⊥) → AreThose A []
those_none A none = record { each = tt; all = λ z h. absurd (none z h); ordered = tt }

pub those_one : (A : List ℕ → Type 0) (x : List ℕ) → A x → ((z : List ℕ) → A z → z ≡ x) → AreThose A (x ∷ [])
those_one A x so only = record { each = (so, tt); all = λ z h. inl (only z h); ordered = (tt, tt) }

pub those_same : (A B : List ℕ → Type 0) (xs : List (List ℕ)) → ((z : List ℕ) → A z → B z) → ((z : List ℕ) → B z → A z) → AreThose A xs → AreThose B xs
those_same A B xs to back those = record {
  each = all_map A B xs to those.each;
  all = λ z h. those.all z (back z h);
  ordered = those.ordered;
}

-- sums
pub counted_none : (A : List ℕ → Type 0) (right : List ℕ → Bool → Type 0) (s : Sums) → ((z : List ℕ) → A z → ⊥) →
    AreCounted A right s s
counted_none A right s none = record {
  lists = [];
  are_those = those_none A none;
  cut = 0;
  are_right = refl;
  fits = λ h. h;
  runs_is = omega arith;
  cut_is = omega arith;
}

pub counted_those : (A : List ℕ → Type 0) (right : List ℕ → Bool → Type 0) (s t : Sums) (lists : List (List ℕ)) (cut : ℕ) → AreThose A lists →
    AreRight right lists cut → t.runs ≡ (s.runs + length lists) % 2 ^ 64 → t.cut ≡ (s.cut + cut) % 2 ^ 64 → AreCounted A right s t
counted_those A right s t lists cut those rights runs_new cut_new = record {
  lists = lists;
  are_those = those;
  cut = cut;
  are_right = rights;
  fits = λ h. (omega (arith, runs_new), omega (arith, cut_new));
  runs_is = omega (arith, runs_new);
  cut_is = omega (arith, cut_new);
}

pub counted_one : (A : List ℕ → Type 0) (right : List ℕ → Bool → Type 0) (s t : Sums) (x : List ℕ) (is_cut : Bool) → A x →
    ((z : List ℕ) → A z → z ≡ x) → right x is_cut → t.runs ≡ (s.runs + 1) % 2 ^ 64 → t.cut ≡ (s.cut + (if is_cut then 1 else 0)) % 2 ^ 64 →
    AreCounted A right s t
counted_one A right s t x is_cut so only is_right runs cut =
    counted_those A right s t (x ∷ []) (if is_cut then 1 else 0) (those_one A x so only) (right_one right x is_cut is_right) runs cut

pub counted_more : (A B C : List ℕ → Type 0) (right : List ℕ → Bool → Type 0) (s t u : Sums) → ((x y : List ℕ) → A x → B y → ComesBefore x y) →
    ((z : List ℕ) → A z → C z) → ((z : List ℕ) → B z → C z) → ((z : List ℕ) → C z → A z ⊎ B z) →
    AreCounted A right s t → AreCounted B right t u → AreCounted C right s u
counted_more A B C right s t u order of_a of_b split first second = record {
  lists = first.lists ++ second.lists;
  are_those = those_more A B C first.lists second.lists order of_a of_b split first.are_those second.are_those;
  cut = first.cut + second.cut;
  are_right = right_more right first.lists second.lists first.cut second.cut first.are_right second.are_right;
  fits = λ h. second.fits (first.fits h);
  runs_is =
      let size = length-append first.lists second.lists in let a = first.runs_is in let b = second.runs_is in omega (arith, size, a, b);
  cut_is = let a = first.cut_is in let b = second.cut_is in omega (arith, a, b);
}

pub counted_same : (A B : List ℕ → Type 0) (right : List ℕ → Bool → Type 0) (s t : Sums) → ((z : List ℕ) → A z → B z) → ((z : List ℕ) → B z → A z) →
    AreCounted A right s t → AreCounted B right s t
counted_same A B right s t to back counted = record {
  lists = counted.lists;
  are_those = those_same A B counted.lists to back counted.are_those;
  cut = counted.cut;
  are_right = counted.are_right;
  fits = counted.fits;
  runs_is = counted.runs_is;
  cut_is = counted.cut_is;
}

pub counted_right : (A : List ℕ → Type 0) (right : List ℕ → Bool → Type 0) (s t : Sums) (z : List ℕ) → AreCounted A right s t → A z →
    (is_cut : Bool) × right z is_cut
counted_right A right s t z counted so = right_among right counted.lists counted.cut z counted.are_right (counted.are_those.all z so)

-- runs that are made, up to a limit
pub made_none : (A : List ℕ → Type 0) (right : List ℕ → Bool → Type 0) (limit : Option ℕ) (s : Sums) → ((z : List ℕ) → A z → ⊥) →
    AreMade A right limit s s
unfolding counted_none
made_none A right limit s none = record { counted = counted_none A right s none; within = λ most is few. (omega arith, few) }

pub made_more : (A B C : List ℕ → Type 0) (right : List ℕ → Bool → Type 0) (limit : Option ℕ) (s t u : Sums) →
    ((x y : List ℕ) → A x → B y → ComesBefore x y) →
    ((z : List ℕ) → A z → C z) → ((z : List ℕ) → B z → C z) → ((z : List ℕ) → C z → A z ⊎ B z) →
    AreMade A right limit s t → AreMade B right limit t u → AreMade C right limit s u
unfolding counted_more
made_more A B C right limit s t u order of_a of_b split first second = record {
  counted = counted_more A B C right s t u order of_a of_b split first.counted second.counted;
  within = λ most is few.
      let a = first.within most is few in
      let b = second.within most is a.1 in
      let here = a.0 in
      let there = b.0 in
      let size = length-append first.counted.lists second.counted.lists in (omega (arith, here, there, size), b.1);
}

pub made_same : (A B : List ℕ → Type 0) (right : List ℕ → Bool → Type 0) (limit : Option ℕ) (s t : Sums) → ((z : List ℕ) → A z → B z) →
    ((z : List ℕ) → B z → A z) → AreMade A right limit s t → AreMade B right limit s t
unfolding counted_same
made_same A B right limit s t to back made = record { counted = counted_same A B right s t to back made.counted; within = made.within }

pub made_one : (A : List ℕ → Type 0) (right : List ℕ → Bool → Type 0) (limit : Option ℕ) (s t : Sums) (x : List ℕ) (is_cut : Bool) → A x →
    ((z : List ℕ) → A z → z ≡ x) → right x is_cut →
    ((most : ℕ) → limit ≡ Some most → s.runs ≤ most → (s.runs < most) × (most < 2 ^ 64)) →
    t.runs ≡ (s.runs + 1) % 2 ^ 64 → t.cut ≡ (s.cut + (if is_cut then 1 else 0)) % 2 ^ 64 →
    AreMade A right limit s t
unfolding counted_one counted_those
made_one A right limit s t x is_cut so only is_right room runs cut = record {
  counted = counted_one A right s t x is_cut so only is_right runs cut;
  within = λ most is few.
      let h = room most is few in let less = h.0 in let small = h.1 in (omega (arith, less, small, runs), omega (arith, less, small, runs));
}
