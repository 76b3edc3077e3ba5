use Rattle.std.proofs.Common.{◌≡◌, ◌∙◌, refl, ap, ℕ, ◌+◌, ◌<◌, Bool, true, false, List, [], length, arith, ◌⊎◌, inl, inr}
use Rattle.std.proofs.lemmas.Bool.Decides.{nat_tests}
use Rattle.std.specs.Prelude.{nat_lt}
use Rattle.m161_order.specs.Delays.{delays_of}
use Rattle.m161_delays.specs.declared.search.Class.{Class}
use Rattle.m161_delays.specs.declared.walk.Found.{Found}
use Rattle.m161_delays.specs.declared.walk.Sums.{Sums}
use Rattle.m161_delays.specs.Lists.{ComesBefore}
use Rattle.m161_delays.specs.Runs.{IsUsefulOf}
use Rattle.m161_delays.specs.Search.{AreClean, IsFirst}
use Rattle.m161_delays.specs.helpers.Walking.{AreCounted, IsBehind, IsFirstSo}
use Rattle.m161_delays.proofs.Counting.{all_map, counted_more, counted_none, counted_right}

-- The lists of a class, by their lengths.

abbrev pub IsShorter : Class → (List ℕ → List ℕ) → ℕ → List ℕ → Type 0
IsShorter class offers n z = IsUsefulOf class offers z × (length z < n)

pub none_useful : (class : Class) (offers : List ℕ → List ℕ) → IsUsefulOf class offers []
none_useful class offers = (
  record { few = omega arith; ascending = tt; below = tt },
  λ j some. absurd (let bad : ⊥ = omega (arith, some) in bad),
)

pub long_of : (class : Class) (offers : List ℕ → List ℕ) (n : ℕ) (z : List ℕ) → IsBehind class offers [] n z → length z ≡ n
long_of class offers n z h = ap length h.all_is ∙ h.long

pub of_long : (class : Class) (offers : List ℕ → List ℕ) (n : ℕ) (z : List ℕ) → IsUsefulOf class offers z → length z ≡ n → IsBehind class offers [] n z
of_long class offers n z useful long = record { rest = z; all_is = refl; long = long; is_useful = useful }

pub lt_of : (a b : ℕ) → nat_lt a b ≡ true → a < b
lt_of a b h = grind (arith, nat_tests)

not_lt : (a b : ℕ) → nat_lt a b ≡ false → a < b + 1 → a ≡ b
not_lt a b h within = grind (arith, nat_tests)

pub by_length : (class : Class) (offers : List ℕ → List ℕ) (n : ℕ) (z : List ℕ) → IsUsefulOf class offers z → length z < n + 1 →
    (less : Bool) → nat_lt (length z) n ≡ less → IsShorter class offers n z ⊎ IsBehind class offers [] n z
by_length class offers n z useful within true less = inl (useful, lt_of (length z) n less)
by_length class offers n z useful within false less = inr (of_long class offers n z useful (not_lt (length z) n less within))

pub none_shorter : (class : Class) (offers : List ℕ → List ℕ) (right : List ℕ → Bool → Type 0) (s : Sums) →
    AreCounted (IsShorter class offers 0) right s s
none_shorter class offers right s =
    counted_none (IsShorter class offers 0) right s (λ z h. let less = h.1 in let bad : ⊥ = omega (arith, less) in bad)

pub one_longer : (class : Class) (offers : List ℕ → List ℕ) (right : List ℕ → Bool → Type 0) (n : ℕ) (s t u : Sums) →
    AreCounted (IsShorter class offers n) right s t → AreCounted (IsBehind class offers [] n) right t u →
    AreCounted (IsShorter class offers (n + 1)) right s u
one_longer class offers right n s t u counted longer =
    counted_more (IsShorter class offers n) (IsBehind class offers [] n) (IsShorter class offers (n + 1)) right s t u
    (λ x y a b. let less = a.1 in let long = long_of class offers n y b in inl (omega (arith, less, long)))
    (λ z h. let less = h.1 in (h.0, omega (arith, less)))
    (λ z h. let long = long_of class offers n z h in (h.is_useful, omega (arith, long)))
    (λ z h. by_length class offers n z h.0 h.1 (nat_lt (length z) n) refl) counted longer

pub all_clean : (class : Class) (offers : List ℕ → List ℕ) (right : List ℕ → Bool → Type 0) (n runs cut : ℕ) → class.most < n →
    AreCounted (IsShorter class offers n) right (record { runs = 0; cut = 0 }) (record { runs = runs; cut = cut }) →
    AreClean class offers right runs cut
all_clean class offers right n runs cut whole counted = record {
  lists = counted.lists;
  are_useful = record {
    each = all_map (IsShorter class offers n) (IsUsefulOf class offers) counted.lists (λ z h. h.0) counted.are_those.each;
    all = λ z useful. counted.are_those.all z (useful, (let few = useful.0.few in omega (arith, few, whole)));
    ordered = counted.are_those.ordered;
  };
  all_cut = counted.cut;
  are_right = counted.are_right;
  runs_is = let is = counted.runs_is in let small = (counted.fits (omega arith, omega arith)).0 in omega (arith, is, small);
  cut_is = let is = counted.cut_is in let small = (counted.fits (omega arith, omega arith)).1 in omega (arith, is, small);
}

right_before : {W : Type 0} (class : Class) (offers : List ℕ → List ℕ) (right : List ℕ → Bool → Type 0) (wrong : List ℕ → W → Type 0) (n : ℕ)
    (s t : Sums) (found : Found W) → AreCounted (IsShorter class offers n) right s t → IsFirstSo (IsBehind class offers [] n) right wrong found →
    (z : List ℕ) → IsUsefulOf class offers z → ComesBefore z (delays_of found.delays) → (is_cut : Bool) × right z is_cut
right_before class offers right wrong n s t found counted first z useful (inl shorter) =
    let long = long_of class offers n (delays_of found.delays) first.is_so in
    counted_right (IsShorter class offers n) right s t z counted (useful, omega (arith, shorter, long))
right_before class offers right wrong n s t found counted first z useful (inr same) =
    let long = long_of class offers n (delays_of found.delays) first.is_so in
    first.before z (of_long class offers n z useful (same.0 ∙ long)) (inr same)

pub first_of_all : {W : Type 0} (class : Class) (offers : List ℕ → List ℕ) (right : List ℕ → Bool → Type 0) (wrong : List ℕ → W → Type 0) (n : ℕ)
    (s t : Sums) (found : Found W) → AreCounted (IsShorter class offers n) right s t → IsFirstSo (IsBehind class offers [] n) right wrong found →
    IsFirst class offers right wrong (delays_of found.delays) found.wrong
first_of_all class offers right wrong n s t found counted first = record {
  is_useful = first.is_so.is_useful;
  is_wrong = first.is_wrong;
  before = right_before class offers right wrong n s t found counted first;
}
