use Rattle.std.proofs.Common.{◌≡◌, ◌∙◌, refl, ap, sym, subst, ℕ, suc, ◌+◌, ◌<◌, ◌≤◌, Bool, true, false, List, [], ◌∷◌, ◌++◌, length, arith, append_assoc, ◌⊎◌, inl, inr}
use Rattle.std.proofs.lemmas.Bool.Decides.{nat_tests}
use Rattle.std.proofs.lemmas.List.{append-nil}
use Rattle.std.specs.Prelude.{◌==◌, if◌then◌else◌, max, nat_lt, slice_index, Option, None, Some}
use Rattle.m161_order.specs.declared.delays.Delays.{Delays}
use Rattle.m161_order.specs.Delays.{delays_of}
use Rattle.m161_delays.specs.declared.slice.SliceStop.{SliceStop}
use Rattle.m161_delays.specs.declared.slice.SliceStop.TheVariants.{Next, Wrong}
use Rattle.m161_delays.specs.declared.walk.Sums.{Sums}
use Rattle.m161_delays.specs.declared.search.Class.{Class}
use Rattle.m161_delays.specs.Lists.{ComesBefore, IsLess, times}
use Rattle.m161_delays.specs.helpers.Last.{last_from}
use Rattle.m161_delays.specs.Runs.{ChooseAlike, IsUsefulOf}
use Rattle.m161_delays.specs.Slices.{stopped_at}
use Rattle.m161_delays.specs.helpers.Slicing.{AreMade, GoesAlong, IsBehindFrom, StopsSo, first_of, rest_behind}
use Rattle.m161_delays.specs.helpers.Walking.{IsBehind, IsBehindBelow}
use Rattle.m161_delays.proofs.Counting.{made_more, made_none, made_same}
use Rattle.m161_delays.proofs.Judging.{not_before}
use Rattle.m161_delays.proofs.Ordering.{less_behind, less_inside}
use Rattle.m161_delays.proofs.Walking.{all_below, below_less, below_more, below_or_child, by_next, child_below, in_order, itself_behind, none_behind, none_below}

-- The lists behind some numbers, from one on, by the place that is next.

-- one list, whose run isn't made or goes wrong
none_before : (ns z : List ℕ) → (z ≡ ns) × ComesBefore z ns → ⊥
none_before ns z h = not_before ns (subst (λ w. ComesBefore w ns) h.0 h.1)

pub stops_next : {W : Type 0} (right : List ℕ → Bool → Type 0) (wrong : List ℕ → W → Type 0) (limit : Option ℕ) (s : Sums) (delays : Delays) →
    limit ≡ Some s.runs → StopsSo (λ z. z ≡ delays_of delays) right wrong limit s s (Next delays)
stops_next right wrong limit s delays spent = record {
  is_so = refl;
  may = spent;
  before = made_none (λ z. (z ≡ delays_of delays) × ComesBefore z (delays_of delays)) right limit s (none_before (delays_of delays));
}

pub stops_wrong : {W : Type 0} (right : List ℕ → Bool → Type 0) (wrong : List ℕ → W → Type 0) (limit : Option ℕ) (s : Sums) (delays : Delays) (what : W) →
    ((most : ℕ) → limit ≡ Some most → s.runs ≤ most → s.runs < most) → wrong (delays_of delays) what →
    StopsSo (λ z. z ≡ delays_of delays) right wrong limit s s (Wrong delays what)
stops_wrong right wrong limit s delays what room is_wrong = record {
  is_so = refl;
  may = (room, is_wrong);
  before = made_none (λ z. (z ≡ delays_of delays) × ComesBefore z (delays_of delays)) right limit s (none_before (delays_of delays));
}

-- no list is less than its beginning, nor the beginning than it
less_none : (xs : List ℕ) → IsLess xs [] → ⊥
less_none [] h = h
less_none (x ∷ xs) h = h

not_less_itself : (ns rest : List ℕ) → IsLess ns (ns ++ rest) → ⊥
not_less_itself ns rest h = less_inside ns [] rest (subst (λ xs. IsLess xs (ns ++ rest)) (sym (append-nil ns)) h)

not_less_longer : (ns ks z : List ℕ) (k : ℕ) → z ≡ ns ++ k ∷ ks → IsLess z ((ns ++ k ∷ []) ++ []) → ⊥
not_less_longer ns ks z k is h =
    less_none ks
    (less_inside (ns ++ k ∷ []) ks []
    (subst (λ w. IsLess w ((ns ++ k ∷ []) ++ [])) (is ∙ sym (append_assoc ns (k ∷ []) ks)) h))

-- what is less than a list is less than the one that goes on behind the number with its rest
eq_of : (a b : ℕ) → (a == b) ≡ true → a ≡ b
eq_of a b h = grind (arith, nat_tests)

ne_of : (a b : ℕ) → (a == b) ≡ false → a ≡ b → ⊥
ne_of a b h same = let bad : ⊥ = grind (arith, nat_tests, h, same) in bad

along : (ns rs : List ℕ) (k r : ℕ) → r ≡ k → (ns ++ k ∷ []) ++ rs ≡ ns ++ r ∷ rs
along ns rs k r same = append_assoc ns (k ∷ []) rs ∙ ap (λ j. ns ++ j ∷ rs) (sym same)

to_child_if : (ns ks rs z : List ℕ) (k r : ℕ) (b : Bool) → z ≡ ns ++ k ∷ ks → (r == k) ≡ b → (IsLess z (ns ++ r ∷ rs) → ⊥) →
    IsLess z ((ns ++ k ∷ []) ++ (if b then rs else [])) → ⊥
to_child_if ns ks rs z k r true is same not h = not (subst (IsLess z) (along ns rs k r (eq_of r k same)) h)
to_child_if ns ks rs z k r false is other not h = not_less_longer ns ks z k is h

to_child : (ns ks rest z : List ℕ) (k : ℕ) → z ≡ ns ++ k ∷ ks → (IsLess z (ns ++ rest) → ⊥) → IsLess z ((ns ++ k ∷ []) ++ rest_behind rest k) → ⊥
to_child ns ks [] z k is not h = not_less_longer ns ks z k is h
to_child ns ks (r ∷ rs) z k is not h = to_child_if ns ks rs z k r (r == k) is refl not h

not_first_less : (r k : ℕ) (ks rs : List ℕ) → r ≤ k → (r ≡ k → ⊥) → IsLess (k ∷ ks) (r ∷ rs) → ⊥
not_first_less r k ks rs least other (inl less) = let bad : ⊥ = omega (arith, less, least) in bad
not_first_less r k ks rs least other (inr rest) = other (sym rest.0)

from_child_if : (ns ks rs z : List ℕ) (k r : ℕ) (b : Bool) → z ≡ ns ++ k ∷ ks → (r == k) ≡ b → r ≤ k →
    (IsLess z ((ns ++ k ∷ []) ++ (if b then rs else [])) → ⊥) → IsLess z (ns ++ r ∷ rs) → ⊥
from_child_if ns ks rs z k r true is same least not h = not (subst (IsLess z) (sym (along ns rs k r (eq_of r k same))) h)
from_child_if ns ks rs z k r false is other least not h =
    not_first_less r k ks rs least (ne_of r k other) (less_inside ns (k ∷ ks) (r ∷ rs) (subst (λ w. IsLess w (ns ++ r ∷ rs)) is h))

from_child : (least k : ℕ) (ns ks rest z : List ℕ) → first_of least rest ≤ k → z ≡ ns ++ k ∷ ks →
    (IsLess z ((ns ++ k ∷ []) ++ rest_behind rest k) → ⊥) → IsLess z (ns ++ rest) → ⊥
from_child least k ns ks [] z first is not h = less_inside ns (k ∷ ks) [] (subst (λ w. IsLess w (ns ++ [])) is h)
from_child least k ns ks (r ∷ rs) z first is not h = from_child_if ns ks rs z k r (r == k) is refl (omega (arith, first)) not h

-- the first number is at least the least
pub first_least : (least : ℕ) (rest : List ℕ) (k : ℕ) → k ≡ first_of least rest → least ≤ k
first_least least [] k is = omega (arith, is)
first_least least (r ∷ rs) k is = omega (arith, is)

-- those behind a number, of which the next number is below a place
abbrev pub IsBelowFrom : Class → (List ℕ → List ℕ) → List ℕ → ℕ → List ℕ → ℕ → List ℕ → Type 0
IsBelowFrom class offers ns more rest k z = IsBehindBelow class offers ns more k z × (IsLess z (ns ++ rest) → ⊥)

child_is : (class : Class) (offers : List ℕ → List ℕ) (ns : List ℕ) (m k : ℕ) (z : List ℕ) → (h : IsBehind class offers (ns ++ k ∷ []) m z) →
    z ≡ ns ++ k ∷ h.rest
child_is class offers ns m k z h = h.all_is ∙ append_assoc ns (k ∷ []) h.rest

-- none is before the first place
none_first_if : (class : Class) (offers : List ℕ → List ℕ) (ns rs : List ℕ) (more k r : ℕ) (b : Bool) → ChooseAlike offers →
    nat_lt (last_from class.from ns) r ≡ b → k ≡ max (last_from class.from ns) r →
    (z : List ℕ) → IsBelowFrom class offers ns more (r ∷ rs) k z → ⊥
none_first_if class offers ns rs more k r true alike less is z h =
    let next = h.0.1.3 in
    let at : h.0.1.0 < r = grind (arith, nat_tests, next, is, less) in
    h.1 (subst (λ w. IsLess w (ns ++ r ∷ rs)) (sym h.0.1.2) (less_behind ns (h.0.1.0 ∷ h.0.1.1) (r ∷ rs) (inl at)))
none_first_if class offers ns rs more k r false alike less is z h =
    none_below class offers ns more k alike (grind (arith, nat_tests, is, less)) z h.0

none_first : (class : Class) (offers : List ℕ → List ℕ) (ns rest : List ℕ) (more k : ℕ) → ChooseAlike offers →
    k ≡ first_of (last_from class.from ns) rest → (z : List ℕ) → IsBelowFrom class offers ns more rest k z → ⊥
none_first class offers ns [] more k alike is z h = none_below class offers ns more k alike is z h.0
none_first class offers ns (r ∷ rs) more k alike is z h =
    none_first_if class offers ns rs more k r (nat_lt (last_from class.from ns) r) alike refl is z h

pub along_first : (class : Class) (offers : List ℕ → List ℕ) (right : List ℕ → Bool → Type 0) (ns rest : List ℕ) (more k : ℕ) (limit : Option ℕ) (s : Sums) →
    ChooseAlike offers → k ≡ first_of (last_from class.from ns) rest → AreMade (IsBelowFrom class offers ns more rest k) right limit s s
along_first class offers right ns rest more k limit s alike is =
    made_none (IsBelowFrom class offers ns more rest k) right limit s (none_first class offers ns rest more k alike is)

pub along_useless : (class : Class) (offers : List ℕ → List ℕ) (right : List ℕ → Bool → Type 0) (ns rest : List ℕ) (m k : ℕ) (limit : Option ℕ) (s t : Sums) →
    ChooseAlike offers → slice_index (offers ns) k ≤ times k ns + 1 →
    AreMade (IsBelowFrom class offers ns (suc m) rest k) right limit s t → AreMade (IsBelowFrom class offers ns (suc m) rest (k + 1)) right limit s t
along_useless class offers right ns rest m k limit s t alike few made =
    made_same (IsBelowFrom class offers ns (suc m) rest k) (IsBelowFrom class offers ns (suc m) rest (k + 1)) right limit s t
    (λ z h. (below_more class offers ns (suc m) k z h.0, h.1)) (λ z h. (below_less class offers ns m k alike few z h.0, h.1)) made

split_from : (class : Class) (offers : List ℕ → List ℕ) (ns rest : List ℕ) (m k : ℕ) (z : List ℕ) → (IsLess z (ns ++ rest) → ⊥) →
    IsBehindBelow class offers ns (suc m) k z ⊎ IsBehind class offers (ns ++ k ∷ []) m z →
    IsBelowFrom class offers ns (suc m) rest k z ⊎ IsBehindFrom class offers (ns ++ k ∷ []) m (rest_behind rest k) z
split_from class offers ns rest m k z not (inl below) = inl (below, not)
split_from class offers ns rest m k z not (inr child) =
    inr (child, to_child ns child.rest rest z k (child_is class offers ns m k z child) not)

pub along_useful : (class : Class) (offers : List ℕ → List ℕ) (right : List ℕ → Bool → Type 0) (ns rest : List ℕ) (m k least : ℕ) (limit : Option ℕ)
    (s t u : Sums) → first_of least rest ≤ k → AreMade (IsBelowFrom class offers ns (suc m) rest k) right limit s t →
    AreMade (IsBehindFrom class offers (ns ++ k ∷ []) m (rest_behind rest k)) right limit t u →
    AreMade (IsBelowFrom class offers ns (suc m) rest (k + 1)) right limit s u
along_useful class offers right ns rest m k least limit s t u first made child =
    made_more (IsBelowFrom class offers ns (suc m) rest k) (IsBehindFrom class offers (ns ++ k ∷ []) m (rest_behind rest k))
    (IsBelowFrom class offers ns (suc m) rest (k + 1)) right limit s t u
    (λ x y a b. in_order class offers ns m k x y a.0 b.0) (λ z h. (below_more class offers ns (suc m) k z h.0, h.1))
    (λ z h. (child_below class offers ns m k z h.0, from_child least k ns h.0.rest rest z first (child_is class offers ns m k z h.0) h.1))
    (λ z h. split_from class offers ns rest m k z h.1 (below_or_child class offers ns m k z h.0)) made child

pub along_last : (class : Class) (offers : List ℕ → List ℕ) (right : List ℕ → Bool → Type 0) (ns rest : List ℕ) (m to : ℕ) (limit : Option ℕ) (s t : Sums) →
    ChooseAlike offers → ((n : ℕ) → n < class.within → n < length (offers ns) → n < to) →
    AreMade (IsBelowFrom class offers ns (suc m) rest to) right limit s t → AreMade (IsBehindFrom class offers ns (suc m) rest) right limit s t
along_last class offers right ns rest m to limit s t alike bound made =
    made_same (IsBelowFrom class offers ns (suc m) rest to) (IsBehindFrom class offers ns (suc m) rest) right limit s t (λ z h. (h.0.0, h.1))
    (λ z h. (all_below class offers ns m to alike bound z h.0, h.1)) made

-- where the walk stops
split_stop : (class : Class) (offers : List ℕ → List ℕ) (ns rest : List ℕ) (m k : ℕ) (z d : List ℕ) → ComesBefore z d →
    IsBelowFrom class offers ns (suc m) rest k z ⊎ IsBehindFrom class offers (ns ++ k ∷ []) m (rest_behind rest k) z →
    IsBelowFrom class offers ns (suc m) rest k z ⊎ (IsBehindFrom class offers (ns ++ k ∷ []) m (rest_behind rest k) z × ComesBefore z d)
split_stop class offers ns rest m k z d order (inl below) = inl below
split_stop class offers ns rest m k z d order (inr child) = inr (child, order)

pub along_stop : {W : Type 0} (class : Class) (offers : List ℕ → List ℕ) (right : List ℕ → Bool → Type 0) (wrong : List ℕ → W → Type 0)
    (ns rest : List ℕ) (m k least : ℕ) (limit : Option ℕ) (s t u : Sums) (stop : SliceStop W) → first_of least rest ≤ k →
    AreMade (IsBelowFrom class offers ns (suc m) rest k) right limit s t →
    StopsSo (IsBehindFrom class offers (ns ++ k ∷ []) m (rest_behind rest k)) right wrong limit t u stop →
    StopsSo (IsBehindFrom class offers ns (suc m) rest) right wrong limit s u stop
along_stop class offers right wrong ns rest m k least limit s t u stop first made stops =
    let d = delays_of (stopped_at stop) in
    let child = stops.is_so.0 in
    let is = child_is class offers ns m k d child in
    let Child = IsBehindFrom class offers (ns ++ k ∷ []) m (rest_behind rest k) in
    record {
      is_so = ((child_below class offers ns m k d child).0, from_child least k ns child.rest rest d first is stops.is_so.1);
      may = stops.may;
      before =
          made_more (IsBelowFrom class offers ns (suc m) rest k) (λ z. Child z × ComesBefore z d)
          (λ z. IsBehindFrom class offers ns (suc m) rest z × ComesBefore z d) right limit s t u
          (λ x y a b. in_order class offers ns m k x y a.0 b.0.0)
          (λ z a. ((a.0.0, a.1), in_order class offers ns m k z d a.0 child))
          (λ z b. (((child_below class offers ns m k z b.0.0).0, from_child least k ns b.0.0.rest rest z first (child_is class offers ns m k z b.0.0) b.0.1), b.1))
          (λ z c.
          split_stop class offers ns rest m k z d c.1
          (split_from class offers ns rest m k z c.0.1
          (by_next class offers ns m k d z child.rest c.0.0.rest is child.long c.0.0 refl c.1)))
          made stops.before;
    }

-- no number more
itself_from : (class : Class) (offers : List ℕ → List ℕ) (ns rest : List ℕ) (more : ℕ) (z : List ℕ) → more ≡ 0 → IsUsefulOf class offers ns → z ≡ ns →
    IsBehindFrom class offers ns more rest z
itself_from class offers ns rest more z none useful same = (
  itself_behind class offers ns more z none useful same,
  λ less. not_less_itself ns rest (subst (λ w. IsLess w (ns ++ rest)) same less),
)

pub along_itself : {W : Type 0} (class : Class) (offers : List ℕ → List ℕ) (right : List ℕ → Bool → Type 0) (wrong : List ℕ → W → Type 0)
    (ns rest : List ℕ) (more : ℕ) (limit : Option ℕ) (s t : Sums) (o : Option (SliceStop W)) → more ≡ 0 → IsUsefulOf class offers ns →
    GoesAlong (λ z. z ≡ ns) right wrong limit s t o → GoesAlong (IsBehindFrom class offers ns more rest) right wrong limit s t o
along_itself class offers right wrong ns rest more limit s t None none useful h =
    made_same (λ z. z ≡ ns) (IsBehindFrom class offers ns more rest) right limit s t
    (λ z same. itself_from class offers ns rest more z none useful same)
    (λ z behind. none_behind class offers ns more z behind.0.rest none behind.0 refl) h
along_itself class offers right wrong ns rest more limit s t (Some stop) none useful h = record {
  is_so = itself_from class offers ns rest more (delays_of (stopped_at stop)) none useful h.is_so;
  may = h.may;
  before =
      made_same (λ z. (z ≡ ns) × ComesBefore z (delays_of (stopped_at stop)))
      (λ z. IsBehindFrom class offers ns more rest z × ComesBefore z (delays_of (stopped_at stop))) right limit s t
      (λ z same. (itself_from class offers ns rest more z none useful same.0, same.1))
      (λ z behind. (none_behind class offers ns more z behind.0.0.rest none behind.0.0 refl, behind.1)) h.before;
}
