use Rattle.std.proofs.Common.{◌≡◌, refl, ap, subst, ℕ, ◌+◌, ◌<◌, ◌≤◌, ◌%◌, ◌^◌, Bool, true, false, List, [], ◌∷◌, ◌++◌, length, arith, ◌⊎◌, inl, inr}
use Rattle.std.proofs.lemmas.Bool.Decides.{nat_tests}
use Rattle.std.proofs.lemmas.List.{length-append}
use Rattle.std.specs.Prelude.{nat_lt, Option, None, Some}
use Rattle.m161_jobs.specs.Trials.{AreRight}
use Rattle.m161_jobs.proofs.Rights.{right_more}
use Rattle.m161_order.specs.Delays.{delays_of}
use Rattle.m161_delays.specs.declared.slice.Slice.{Slice}
use Rattle.m161_delays.specs.declared.slice.SliceStop.{SliceStop}
use Rattle.m161_delays.specs.declared.slice.SliceStop.TheVariants.{Next, Wrong}
use Rattle.m161_delays.specs.declared.search.Class.{Class}
use Rattle.m161_delays.specs.Lists.{ComesBefore, IsLess}
use Rattle.m161_delays.specs.Runs.{AreThose, IsUsefulOf}
use Rattle.m161_delays.specs.Slices.{AreJoined, ComesBeforeStop, FindsWhole, IsOfWhole, IsUsefulFrom, MayStop, StopsAt, stopped_at}
use Rattle.m161_delays.proofs.Counting.{right_among, those_more, those_same}
use Rattle.m161_delays.proofs.Slices.{not_before_none}

-- Slices that go on from each other.

lt_of : (a b : ℕ) → nat_lt a b ≡ true → a < b
lt_of a b h = grind (arith, nat_tests)

ge_of : (a b : ℕ) → nat_lt a b ≡ false → b ≤ a
ge_of a b h = grind (arith, nat_tests)

-- of lists as long, one is less than another, and one isn't: so it is less than that
less_to_if : (a b c : ℕ) (ps qs rs : List ℕ) (more : Bool) → nat_lt b c ≡ more → b ≤ c → (IsLess ps qs → (IsLess rs qs → ⊥) → IsLess ps rs) →
    (a < b) ⊎ ((a ≡ b) × IsLess ps qs) → ((c ≡ b) × IsLess rs qs → ⊥) → (a < c) ⊎ ((a ≡ c) × IsLess ps rs)
less_to_if a b c ps qs rs more is least rest (inl less) not = inl (omega (arith, less, least))
less_to_if a b c ps qs rs true is least rest (inr same) not = let first = same.0 in let less = lt_of b c is in inl (omega (arith, first, less))
less_to_if a b c ps qs rs false is least rest (inr same) not =
    let first = same.0 in
    let above = ge_of b c is in
    let equal : c ≡ b = omega (arith, least, above) in
    inr (omega (arith, first, equal), rest same.1 (λ less. not (equal, less)))

least_if : (b c : ℕ) (less : Bool) → nat_lt c b ≡ less → (c < b → ⊥) → b ≤ c
least_if b c true is not = absurd (not (lt_of c b is))
least_if b c false is not = ge_of c b is

less_to : (xs ds ys : List ℕ) → length ys ≡ length ds → IsLess xs ds → (IsLess ys ds → ⊥) → IsLess xs ys
less_to [] ds ys long less not = absurd less
less_to (a ∷ ps) [] ys long less not = absurd less
less_to (a ∷ ps) (b ∷ qs) [] long less not = absurd (let bad : ⊥ = omega (arith, long) in bad)
less_to (a ∷ ps) (b ∷ qs) (c ∷ rs) long less not =
    less_to_if a b c ps qs rs (nat_lt b c) refl (least_if b c (nat_lt c b) refl (λ smaller. not (inl smaller)))
    (less_to ps qs rs (omega (arith, long))) less (λ rest. not (inr rest))

to_if : (xs ds ys : List ℕ) (longer : Bool) → nat_lt (length ds) (length ys) ≡ longer → length ds ≤ length ys → ComesBefore xs ds →
    (ComesBefore ys ds → ⊥) → ComesBefore xs ys
to_if xs ds ys longer is least (inl shorter) not = inl (omega (arith, shorter, least))
to_if xs ds ys true is least (inr same) not = let size = same.0 in let more = lt_of (length ds) (length ys) is in inl (omega (arith, size, more))
to_if xs ds ys false is least (inr same) not =
    let size = same.0 in
    let above = ge_of (length ds) (length ys) is in
    let long : length ys ≡ length ds = omega (arith, least, above) in
    inr (omega (arith, size, long), less_to xs ds ys long same.1 (λ less. not (inr (long, less))))

before_to : (xs ds ys : List ℕ) → ComesBefore xs ds → (ComesBefore ys ds → ⊥) → ComesBefore xs ys
before_to xs ds ys order not =
    to_if xs ds ys (nat_lt (length ds) (length ys)) refl
    (least_if (length ds) (length ys) (nat_lt (length ys) (length ds)) refl (λ shorter. not (inl shorter))) order not

-- a list comes before another, or it doesn't
not_less_above : (a b : ℕ) (ps qs : List ℕ) → b < a → IsLess (a ∷ ps) (b ∷ qs) → ⊥
not_less_above a b ps qs more (inl less) = let bad : ⊥ = omega (arith, less, more) in bad
not_less_above a b ps qs more (inr rest) = let same = rest.0 in let bad : ⊥ = omega (arith, same, more) in bad

not_less_rest : (a b : ℕ) (ps qs : List ℕ) → b ≤ a → (IsLess ps qs → ⊥) → IsLess (a ∷ ps) (b ∷ qs) → ⊥
not_less_rest a b ps qs least not (inl less) = let bad : ⊥ = omega (arith, less, least) in bad
not_less_rest a b ps qs least not (inr rest) = not rest.1

not_before_longer : (xs ys : List ℕ) → length ys < length xs → ComesBefore xs ys → ⊥
not_before_longer xs ys more (inl shorter) = let bad : ⊥ = omega (arith, shorter, more) in bad
not_before_longer xs ys more (inr same) = let size = same.0 in let bad : ⊥ = omega (arith, size, more) in bad

not_before_as_long : (xs ys : List ℕ) → length ys ≤ length xs → (IsLess xs ys → ⊥) → ComesBefore xs ys → ⊥
not_before_as_long xs ys least not (inl shorter) = let bad : ⊥ = omega (arith, shorter, least) in bad
not_before_as_long xs ys least not (inr same) = not same.1

less_or_if : (a b : ℕ) (ps qs : List ℕ) (less more : Bool) → nat_lt a b ≡ less → nat_lt b a ≡ more → IsLess ps qs ⊎ (IsLess ps qs → ⊥) →
    IsLess (a ∷ ps) (b ∷ qs) ⊎ (IsLess (a ∷ ps) (b ∷ qs) → ⊥)
less_or_if a b ps qs true more is there rest = inl (inl (lt_of a b is))
less_or_if a b ps qs false true is there rest = inr (not_less_above a b ps qs (lt_of b a there))
less_or_if a b ps qs false false is there (inl less) =
    let above = ge_of a b is in let below = ge_of b a there in inl (inr (omega (arith, above, below), less))
less_or_if a b ps qs false false is there (inr not) = inr (not_less_rest a b ps qs (ge_of a b is) not)

less_or : (xs ys : List ℕ) → IsLess xs ys ⊎ (IsLess xs ys → ⊥)
less_or [] ys = inr (λ h. h)
less_or (a ∷ ps) [] = inr (λ h. h)
less_or (a ∷ ps) (b ∷ qs) = less_or_if a b ps qs (nat_lt a b) (nat_lt b a) refl refl (less_or ps qs)

before_or_if : (xs ys : List ℕ) (shorter longer : Bool) → nat_lt (length xs) (length ys) ≡ shorter → nat_lt (length ys) (length xs) ≡ longer →
    IsLess xs ys ⊎ (IsLess xs ys → ⊥) → ComesBefore xs ys ⊎ (ComesBefore xs ys → ⊥)
before_or_if xs ys true longer is there rest = inl (inl (lt_of (length xs) (length ys) is))
before_or_if xs ys false true is there rest = inr (not_before_longer xs ys (lt_of (length ys) (length xs) there))
before_or_if xs ys false false is there (inl less) =
    let above = ge_of (length xs) (length ys) is in let below = ge_of (length ys) (length xs) there in inl (inr (omega (arith, above, below), less))
before_or_if xs ys false false is there (inr not) = inr (not_before_as_long xs ys (ge_of (length xs) (length ys) is) not)

before_or : (xs ys : List ℕ) → ComesBefore xs ys ⊎ (ComesBefore xs ys → ⊥)
before_or xs ys = before_or_if xs ys (nat_lt (length xs) (length ys)) (nat_lt (length ys) (length xs)) refl refl (less_or xs ys)

-- lists from one on are lists from an earlier one on
on_from : (class : Class) (offers : List ℕ → List ℕ) (from ds z : List ℕ) → IsUsefulFrom class offers from ds → IsUsefulFrom class offers ds z →
    IsUsefulFrom class offers from z
on_from class offers from ds z d h = (h.0, λ earlier. h.1 (before_to z from ds earlier d.1))

-- one that comes before where the first slice stopped comes before where the second one does
before_stop : {W : Type 0} (class : Class) (offers : List ℕ → List ℕ) (wrong : List ℕ → W → Type 0) (ds z : List ℕ) (most runs : ℕ) (stop : Option (SliceStop W)) →
    StopsAt class offers wrong ds most runs stop → ComesBefore z ds → ComesBeforeStop stop z
before_stop class offers wrong ds z most runs None h order = tt
before_stop class offers wrong ds z most runs (Some stop) h order = before_to z ds (delays_of (stopped_at stop)) order h.0.1

split_at : {W : Type 0} (class : Class) (offers : List ℕ → List ℕ) (from ds z : List ℕ) (stop : Option (SliceStop W)) →
    IsUsefulFrom class offers from z × ComesBeforeStop stop z → ComesBefore z ds ⊎ (ComesBefore z ds → ⊥) →
    (IsUsefulFrom class offers from z × ComesBefore z ds) ⊎ (IsUsefulFrom class offers ds z × ComesBeforeStop stop z)
split_at class offers from ds z stop h (inl before) = inl (h.0, before)
split_at class offers from ds z stop h (inr not) = inr ((h.0.0, not), h.1)

may_more : {W : Type 0} (wrong : List ℕ → W → Type 0) (most more first second : ℕ) (stop : SliceStop W) → first ≡ most → MayStop wrong more second stop →
    MayStop wrong (most + more) (first + second) stop
may_more wrong most more first second (Wrong delays what) is h = (let less = h.0 in omega (arith, is, less), h.1)
may_more wrong most more first second (Next delays) is h = omega (arith, is, h)

stops_more : {W : Type 0} (class : Class) (offers : List ℕ → List ℕ) (wrong : List ℕ → W → Type 0) (from ds : List ℕ) (most more first second : ℕ)
    (stop : Option (SliceStop W)) → IsUsefulFrom class offers from ds → first ≡ most → StopsAt class offers wrong ds more second stop →
    StopsAt class offers wrong from (most + more) (first + second) stop
stops_more class offers wrong from ds most more first second None d is h = omega (arith, is, h)
stops_more class offers wrong from ds most more first second (Some stop) d is h = (
  on_from class offers from ds (delays_of (stopped_at stop)) d h.0,
  may_more wrong most more first second stop is h.1,
)

pub are_joined : {W : Type 0} (class : Class) (offers : List ℕ → List ℕ) (right : List ℕ → Bool → Type 0) (wrong : List ℕ → W → Type 0) (from : List ℕ)
    (most more : ℕ) (first second : Slice W) → AreJoined class offers right wrong from most more first second
are_joined {W} class offers right wrong from most more first second = λ delays stop h k.
    let ds = delays_of delays in
    let at : IsUsefulFrom class offers from ds × (first.runs ≡ most) = subst (StopsAt class offers wrong from most first.runs) stop h.stops in
    let those : AreThose (λ z. IsUsefulFrom class offers from z × ComesBefore z ds) h.lists =
    subst (λ (o : Option (SliceStop W)). AreThose (λ z. IsUsefulFrom class offers from z × ComesBeforeStop o z) h.lists) stop h.are_those in
    record {
      lists = h.lists ++ k.lists;
      are_those =
          those_more (λ z. IsUsefulFrom class offers from z × ComesBefore z ds) (λ z. IsUsefulFrom class offers ds z × ComesBeforeStop second.stop z)
          (λ z. IsUsefulFrom class offers from z × ComesBeforeStop second.stop z) h.lists k.lists
          (λ x y a b. before_to x ds y a.1 b.0.1)
          (λ z a. (a.0, before_stop class offers wrong ds z more second.runs second.stop k.stops a.1))
          (λ z b. (on_from class offers from ds z at.0 b.0, b.1))
          (λ z c. split_at class offers from ds z second.stop c (before_or z ds)) those k.are_those;
      are_right = right_more right h.lists k.lists first.cut second.cut h.are_right k.are_right;
      runs_is =
          let a = h.runs_is in let b = k.runs_is in let size = length-append h.lists k.lists in omega (arith, a, b, size);
      stops = stops_more class offers wrong from ds most more first.runs second.runs second.stop at.0 at.1 k.stops;
    }

-- from the empty list on
of_whole : {W : Type 0} (class : Class) (offers : List ℕ → List ℕ) (right : List ℕ → Bool → Type 0) (wrong : List ℕ → W → Type 0) (most runs cut : ℕ)
    (stop : Option (SliceStop W)) (lists : List (List ℕ)) → AreThose (λ z. IsUsefulFrom class offers [] z × ComesBeforeStop stop z) lists →
    AreRight right lists cut → runs ≡ length lists → StopsAt class offers wrong [] most runs stop → FindsWhole class offers right wrong runs cut stop
of_whole class offers right wrong most runs cut None lists those rights is stops = record {
  lists = lists;
  are_useful =
      those_same (λ z. IsUsefulFrom class offers [] z × Unit {0}) (IsUsefulOf class offers) lists (λ z h. h.0.0) (λ z h. ((h, not_before_none z), tt)) those;
  all_cut = cut;
  are_right = rights;
  runs_is = ap (λ n. n % 2 ^ 64) is;
  cut_is = refl;
}
of_whole class offers right wrong most runs cut (Some (Wrong delays what)) lists those rights is stops = record {
  is_useful = stops.0.0;
  is_wrong = stops.1.1;
  before = λ others useful order. right_among right lists cut others rights (those.all others ((useful, not_before_none others), order));
}
of_whole class offers right wrong most runs cut (Some (Next delays)) lists those rights is stops = tt

pub is_of_whole : {W : Type 0} (class : Class) (offers : List ℕ → List ℕ) (right : List ℕ → Bool → Type 0) (wrong : List ℕ → W → Type 0) (most : ℕ)
    (slice : Slice W) → IsOfWhole class offers right wrong most slice
is_of_whole class offers right wrong most slice = λ h.
    of_whole class offers right wrong most slice.runs slice.cut slice.stop h.lists h.are_those h.are_right h.runs_is h.stops
