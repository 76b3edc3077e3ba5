use Rattle.std.proofs.Common.{◌≡◌, ◌∙◌, refl, ap, sym, subst, ℕ, zero, suc, ◌+◌, ◌<◌, ◌≤◌, Bool, true, false, List, [], ◌∷◌, ◌++◌, length, arith, append_assoc, ◌⊎◌, inl, inr}
use Rattle.std.proofs.lemmas.Bool.Decides.{nat_tests}
use Rattle.std.proofs.lemmas.List.{append-nil, length-append}
use Rattle.std.specs.Prelude.{nat_lt, slice_index, IfOk, MatchOption, Option, None, Some, Result, Ok, Err}
use Rattle.m161_order.specs.declared.delays.Delays.{Delays}
use Rattle.m161_order.specs.Delays.{delays_of}
use Rattle.m161_delays.specs.declared.walk.Found.{Found}
use Rattle.m161_delays.specs.declared.walk.Sums.{Sums}
use Rattle.m161_delays.specs.declared.search.Class.{Class}
use Rattle.m161_delays.specs.Lists.{ComesBefore, IsLess, times}
use Rattle.m161_delays.specs.helpers.Last.{last_from}
use Rattle.m161_delays.specs.Runs.{ChooseAlike, IsUsefulOf}
use Rattle.m161_delays.specs.helpers.Walking.{AreCounted, IsBehind, IsBehindBelow, IsFirstSo, IsLonger, NextIsBelow, Walks}
use Rattle.m161_delays.proofs.Counting.{counted_more, counted_none, counted_right, counted_same}
use Rattle.m161_delays.proofs.Ordering.{less_behind, less_inside}
use Rattle.m161_delays.proofs.Useful.{Next, useful_front, useful_more}

-- The lists behind some numbers, by the place that is next.

next_of : (class : Class) (offers : List ℕ → List ℕ) (ns : List ℕ) (more n : ℕ) (rest z : List ℕ) → ChooseAlike offers →
    IsBehind class offers ns more z → z ≡ ns ++ n ∷ rest → Next class offers ns n
next_of class offers ns more n rest z alike h is = useful_front class offers ns rest n alike (subst (IsUsefulOf class offers) is h.is_useful)

rest_long : (class : Class) (offers : List ℕ → List ℕ) (ns : List ℕ) (m n : ℕ) (rest z : List ℕ) → IsBehind class offers ns (suc m) z →
    z ≡ ns ++ n ∷ rest → length rest ≡ m
rest_long class offers ns m n rest z h is =
    let whole = length-append ns h.rest in
    let again = length-append ns (n ∷ rest) in
    let same = ap length (sym h.all_is ∙ is) in
    let long = h.long in
    omega (arith, whole, again, same, long)

-- none has a next number below the least
pub none_below : (class : Class) (offers : List ℕ → List ℕ) (ns : List ℕ) (more k : ℕ) → ChooseAlike offers → k ≡ last_from class.from ns →
    (z : List ℕ) → IsBehindBelow class offers ns more k z → ⊥
none_below class offers ns more k alike is z h =
    let next = next_of class offers ns more h.1.0 h.1.1 z alike h.0 h.1.2 in
    let least = next.least in
    let less = h.1.3 in
    let bad : ⊥ = omega (arith, least, less, is) in bad

-- each has one below the bound of the class, at a place of the run
some_index : (xs : List ℕ) (i : ℕ) → 0 < slice_index xs i → i < length xs
some_index [] i h = absurd (let bad : ⊥ = omega (arith, h) in bad)
some_index (x ∷ xs) zero h = omega arith
some_index (x ∷ xs) (suc i) h = let rest = some_index xs i h in omega (arith, rest)

has_next : (class : Class) (offers : List ℕ → List ℕ) (ns : List ℕ) (m to : ℕ) (z rest : List ℕ) → ChooseAlike offers →
    ((n : ℕ) → n < class.within → n < length (offers ns) → n < to) → (h : IsBehind class offers ns (suc m) z) → h.rest ≡ rest →
    NextIsBelow ns to z
has_next class offers ns m to z [] alike bound h is =
    absurd (let long = h.long in let none = ap length is in let bad : ⊥ = omega (arith, long, none) in bad)
has_next class offers ns m to z (n ∷ rest) alike bound h is =
    let whole : z ≡ ns ++ n ∷ rest = h.all_is ∙ ap (λ xs. ns ++ xs) is in
    let next = next_of class offers ns (suc m) n rest z alike h whole in
    let some = next.some in
    (n, rest, whole, bound n next.within (some_index (offers ns) n (omega (arith, some))))

pub all_below : (class : Class) (offers : List ℕ → List ℕ) (ns : List ℕ) (m to : ℕ) → ChooseAlike offers →
    ((n : ℕ) → n < class.within → n < length (offers ns) → n < to) → (z : List ℕ) → IsBehind class offers ns (suc m) z →
    IsBehindBelow class offers ns (suc m) to z
all_below class offers ns m to alike bound z h = (h, has_next class offers ns m to z h.rest alike bound h refl)

-- one place further on
pub below_more : (class : Class) (offers : List ℕ → List ℕ) (ns : List ℕ) (more k : ℕ) (z : List ℕ) → IsBehindBelow class offers ns more k z →
    IsBehindBelow class offers ns more (k + 1) z
below_more class offers ns more k z h = let less = h.1.3 in (h.0, (h.1.0, h.1.1, h.1.2, omega (arith, less)))

pub child_below : (class : Class) (offers : List ℕ → List ℕ) (ns : List ℕ) (m k : ℕ) (z : List ℕ) → IsBehind class offers (ns ++ k ∷ []) m z →
    IsBehindBelow class offers ns (suc m) (k + 1) z
child_below class offers ns m k z h =
    let is : z ≡ ns ++ k ∷ h.rest = h.all_is ∙ append_assoc ns (k ∷ []) h.rest in (
      record { rest = k ∷ h.rest; all_is = is; long = ap suc h.long; is_useful = h.is_useful },
      (k, h.rest, is, omega arith),
    )

lt_of : (a b : ℕ) → nat_lt a b ≡ true → a < b
lt_of a b h = grind (arith, nat_tests)

not_lt : (a b : ℕ) → nat_lt a b ≡ false → a < b + 1 → a ≡ b
not_lt a b h within = grind (arith, nat_tests)

split_next : (class : Class) (offers : List ℕ → List ℕ) (ns : List ℕ) (m k n : ℕ) (rest z : List ℕ) → IsBehind class offers ns (suc m) z →
    z ≡ ns ++ n ∷ rest → n < k + 1 → (less : Bool) → nat_lt n k ≡ less →
    IsBehindBelow class offers ns (suc m) k z ⊎ IsBehind class offers (ns ++ k ∷ []) m z
split_next class offers ns m k n rest z h is within true less = inl (h, (n, rest, is, lt_of n k less))
split_next class offers ns m k n rest z h is within false less =
    let here : n ≡ k = not_lt n k less within in
    inr (record {
      rest = rest;
      all_is = is ∙ ap (λ j. ns ++ j ∷ rest) here ∙ sym (append_assoc ns (k ∷ []) rest);
      long = rest_long class offers ns m n rest z h is;
      is_useful = h.is_useful;
    })

pub below_or_child : (class : Class) (offers : List ℕ → List ℕ) (ns : List ℕ) (m k : ℕ) (z : List ℕ) →
    IsBehindBelow class offers ns (suc m) (k + 1) z →
    IsBehindBelow class offers ns (suc m) k z ⊎ IsBehind class offers (ns ++ k ∷ []) m z
below_or_child class offers ns m k z h =
    split_next class offers ns m k h.1.0 h.1.1 z h.0 h.1.2 h.1.3 (nat_lt h.1.0 k) refl

-- where no list goes on with a place
not_child : (class : Class) (offers : List ℕ → List ℕ) (ns : List ℕ) (m k : ℕ) → ChooseAlike offers →
    slice_index (offers ns) k ≤ times k ns + 1 → (z : List ℕ) →
    IsBehindBelow class offers ns (suc m) k z ⊎ IsBehind class offers (ns ++ k ∷ []) m z → IsBehindBelow class offers ns (suc m) k z
not_child class offers ns m k alike few z (inl below) = below
not_child class offers ns m k alike few z (inr child) =
    let is : z ≡ ns ++ k ∷ child.rest = child.all_is ∙ append_assoc ns (k ∷ []) child.rest in
    let next = useful_front class offers ns child.rest k alike (subst (IsUsefulOf class offers) is child.is_useful) in
    let some = next.some in
    absurd (let bad : ⊥ = omega (arith, some, few) in bad)

pub below_less : (class : Class) (offers : List ℕ → List ℕ) (ns : List ℕ) (m k : ℕ) → ChooseAlike offers →
    slice_index (offers ns) k ≤ times k ns + 1 → (z : List ℕ) → IsBehindBelow class offers ns (suc m) (k + 1) z →
    IsBehindBelow class offers ns (suc m) k z
below_less class offers ns m k alike few z h = not_child class offers ns m k alike few z (below_or_child class offers ns m k z h)

pub in_order : (class : Class) (offers : List ℕ → List ℕ) (ns : List ℕ) (m k : ℕ) (x y : List ℕ) → IsBehindBelow class offers ns (suc m) k x →
    IsBehind class offers (ns ++ k ∷ []) m y → ComesBefore x y
in_order class offers ns m k x y h child =
    let is : y ≡ ns ++ k ∷ child.rest = child.all_is ∙ append_assoc ns (k ∷ []) child.rest in
    let size_x = ap length h.0.all_is ∙ length-append ns h.0.rest in
    let long_x = h.0.long in
    let size_y = ap length is ∙ length-append ns (k ∷ child.rest) in
    let long_y = child.long in
    inr (
      omega (arith, size_x, long_x, size_y, long_y),
      subst (IsLess x) (sym is) (subst (λ w. IsLess w (ns ++ k ∷ child.rest)) (sym h.1.2) (less_behind ns (h.1.0 ∷ h.1.1) (k ∷ child.rest) (inl h.1.3))),
    )

-- the walk along the places
pub at_first : (class : Class) (offers : List ℕ → List ℕ) (right : List ℕ → Bool → Type 0) (ns : List ℕ) (more k : ℕ) (s : Sums) →
    ChooseAlike offers → k ≡ last_from class.from ns →
    AreCounted (IsBehindBelow class offers ns more k) right s s
at_first class offers right ns more k s alike is =
    counted_none (IsBehindBelow class offers ns more k) right s (none_below class offers ns more k alike is)

pub at_useless : (class : Class) (offers : List ℕ → List ℕ) (right : List ℕ → Bool → Type 0) (ns : List ℕ) (m k : ℕ) (s t : Sums) →
    ChooseAlike offers → slice_index (offers ns) k ≤ times k ns + 1 →
    AreCounted (IsBehindBelow class offers ns (suc m) k) right s t → AreCounted (IsBehindBelow class offers ns (suc m) (k + 1)) right s t
at_useless class offers right ns m k s t alike few counted =
    counted_same (IsBehindBelow class offers ns (suc m) k) (IsBehindBelow class offers ns (suc m) (k + 1)) right s t
    (below_more class offers ns (suc m) k) (below_less class offers ns m k alike few) counted

pub at_useful : (class : Class) (offers : List ℕ → List ℕ) (right : List ℕ → Bool → Type 0) (ns : List ℕ) (m k : ℕ) (s t u : Sums) →
    AreCounted (IsBehindBelow class offers ns (suc m) k) right s t → AreCounted (IsBehind class offers (ns ++ k ∷ []) m) right t u →
    AreCounted (IsBehindBelow class offers ns (suc m) (k + 1)) right s u
at_useful class offers right ns m k s t u counted child =
    counted_more (IsBehindBelow class offers ns (suc m) k) (IsBehind class offers (ns ++ k ∷ []) m) (IsBehindBelow class offers ns (suc m) (k + 1)) right s t u
    (in_order class offers ns m k) (below_more class offers ns (suc m) k) (child_below class offers ns m k) (below_or_child class offers ns m k) counted child

pub at_last : (class : Class) (offers : List ℕ → List ℕ) (right : List ℕ → Bool → Type 0) (ns : List ℕ) (m to : ℕ) (s t : Sums) →
    ChooseAlike offers → ((n : ℕ) → n < class.within → n < length (offers ns) → n < to) →
    AreCounted (IsBehindBelow class offers ns (suc m) to) right s t → AreCounted (IsBehind class offers ns (suc m)) right s t
at_last class offers right ns m to s t alike bound counted =
    counted_same (IsBehindBelow class offers ns (suc m) to) (IsBehind class offers ns (suc m)) right s t (λ z h. h.0)
    (all_below class offers ns m to alike bound) counted

-- the first that goes wrong
right_before : (class : Class) (offers : List ℕ → List ℕ) (right : List ℕ → Bool → Type 0) (ns : List ℕ) (m k : ℕ) (s t : Sums)
    (y z : List ℕ) → AreCounted (IsBehindBelow class offers ns (suc m) k) right s t → IsBehind class offers (ns ++ k ∷ []) m y →
    ((x : List ℕ) → IsBehind class offers (ns ++ k ∷ []) m x → ComesBefore x y → (is_cut : Bool) × right x is_cut) →
    ComesBefore z y → IsBehindBelow class offers ns (suc m) k z ⊎ IsBehind class offers (ns ++ k ∷ []) m z → (is_cut : Bool) × right z is_cut
right_before class offers right ns m k s t y z counted found before order (inl below) =
    counted_right (IsBehindBelow class offers ns (suc m) k) right s t z counted below
right_before class offers right ns m k s t y z counted found before order (inr child) = before z child order

first_within : (n k : ℕ) (zs ys : List ℕ) → IsLess (n ∷ zs) (k ∷ ys) → n < k + 1
first_within n k zs ys (inl less) = omega (arith, less)
first_within n k zs ys (inr rest) = let same = rest.0 in omega (arith, same)

next_within : (ns zs ys : List ℕ) (n k : ℕ) → ComesBefore (ns ++ n ∷ zs) (ns ++ k ∷ ys) → length zs ≡ length ys → n < k + 1
next_within ns zs ys n k (inl shorter) same =
    let a = length-append ns (n ∷ zs) in
    let b = length-append ns (k ∷ ys) in
    absurd (let bad : ⊥ = omega (arith, shorter, a, b, same) in bad)
next_within ns zs ys n k (inr long) same = first_within n k zs ys (less_inside ns (n ∷ zs) (k ∷ ys) long.1)

pub by_next : (class : Class) (offers : List ℕ → List ℕ) (ns : List ℕ) (m k : ℕ) (y z ys zs : List ℕ) → y ≡ ns ++ k ∷ ys → length ys ≡ m →
    (h : IsBehind class offers ns (suc m) z) → h.rest ≡ zs → ComesBefore z y →
    IsBehindBelow class offers ns (suc m) k z ⊎ IsBehind class offers (ns ++ k ∷ []) m z
by_next class offers ns m k y z ys [] is long h rest order =
    absurd (let some = h.long in let none = ap length rest in let bad : ⊥ = omega (arith, some, none) in bad)
by_next class offers ns m k y z ys (n ∷ zs) is long h rest order =
    let whole : z ≡ ns ++ n ∷ zs = h.all_is ∙ ap (λ xs. ns ++ xs) rest in
    let size = rest_long class offers ns m n zs z h whole in
    let within = next_within ns zs ys n k (subst (ComesBefore (ns ++ n ∷ zs)) is (subst (λ w. ComesBefore w y) whole order)) (size ∙ sym long) in
    split_next class offers ns m k n zs z h whole within (nat_lt n k) refl

pub found_child : {W : Type 0} (class : Class) (offers : List ℕ → List ℕ) (right : List ℕ → Bool → Type 0) (wrong : List ℕ → W → Type 0)
    (ns : List ℕ) (m k : ℕ) (s t : Sums) (found : Found W) → AreCounted (IsBehindBelow class offers ns (suc m) k) right s t →
    IsFirstSo (IsBehind class offers (ns ++ k ∷ []) m) right wrong found → IsFirstSo (IsBehind class offers ns (suc m)) right wrong found
found_child class offers right wrong ns m k s t found counted first =
    let child = first.is_so in
    let y = delays_of found.delays in
    let is : y ≡ ns ++ k ∷ child.rest = child.all_is ∙ append_assoc ns (k ∷ []) child.rest in
    record {
      is_so = (child_below class offers ns m k y child).0;
      is_wrong = first.is_wrong;
      before = λ z h order.
          right_before class offers right ns m k s t y z counted child first.before order
          (by_next class offers ns m k y z child.rest h.rest is child.long h refl order);
    }

-- no number more
pub none_behind : (class : Class) (offers : List ℕ → List ℕ) (ns : List ℕ) (more : ℕ) (z rest : List ℕ) → more ≡ 0 →
    (h : IsBehind class offers ns more z) → h.rest ≡ rest → z ≡ ns
none_behind class offers ns more z [] none h is = h.all_is ∙ ap (λ xs. ns ++ xs) is ∙ append-nil ns
none_behind class offers ns more z (n ∷ rest) none h is =
    let long = h.long in let some = ap length is in absurd (let bad : ⊥ = omega (arith, long, some, none) in bad)

pub itself_behind : (class : Class) (offers : List ℕ → List ℕ) (ns : List ℕ) (more : ℕ) (z : List ℕ) → more ≡ 0 → IsUsefulOf class offers ns →
    z ≡ ns → IsBehind class offers ns more z
itself_behind class offers ns more z none useful same = record {
  rest = [];
  all_is = same ∙ sym (append-nil ns);
  long = sym none;
  is_useful = subst (IsUsefulOf class offers) (sym same) useful;
}

pub walks_itself : {W : Type 0} (class : Class) (offers : List ℕ → List ℕ) (right : List ℕ → Bool → Type 0) (wrong : List ℕ → W → Type 0)
    (ns : List ℕ) (more : ℕ) (s t : Sums) (o : Option (Found W)) → more ≡ 0 → IsUsefulOf class offers ns →
    Walks (λ z. z ≡ ns) right wrong s t o → Walks (IsBehind class offers ns more) right wrong s t o
walks_itself class offers right wrong ns more s t None none useful h =
    counted_same (λ z. z ≡ ns) (IsBehind class offers ns more) right s t (λ z same. itself_behind class offers ns more z none useful same)
    (λ z behind. none_behind class offers ns more z behind.rest none behind refl) h
walks_itself class offers right wrong ns more s t (Some found) none useful h = record {
  is_so = itself_behind class offers ns more (delays_of found.delays) none useful h.is_so;
  is_wrong = h.is_wrong;
  before = λ z behind order. h.before z (none_behind class offers ns more z behind.rest none behind refl) order;
}

pub ok_map : {A E : Type 0} {P Q : A → Type 0} → (result : Result A E) → ((x : A) → P x → Q x) → IfOk result P → IfOk result Q
ok_map (Ok x) f h = f x h
ok_map (Err e) f h = tt

pub option_map_to : {A : Type 0} {N M : Type 0} {P Q : A → Type 0} (o : Option A) → (N → M) → ((x : A) → P x → Q x) → MatchOption o N P →
    MatchOption o M Q
option_map_to None n f h = n h
option_map_to (Some x) n f h = f x h

pub is_longer : (class : Class) (offers : List ℕ → List ℕ) (ns : List ℕ) (p ready : ℕ) (longer : Delays) → ChooseAlike offers →
    IsUsefulOf class offers ns → length ns < class.most → last_from class.from ns ≤ p → p < class.within → ready ≡ slice_index (offers ns) p →
    (delays_of longer ≡ ns ++ p ∷ []) × (times p ns + 1 < ready) → IsLonger class offers ns p longer
is_longer class offers ns p ready longer alike useful few least within count h = record {
  longer_is = h.0;
  long = ap length h.0 ∙ length-append ns (p ∷ []);
  is_useful =
      subst (IsUsefulOf class offers) (sym h.0)
      (useful_more class offers ns p alike useful few least within (let some = h.1 in omega (arith, some, count)));
}
