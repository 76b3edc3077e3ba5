use Rattle.std.specs.Prelude.{◌≡◌, ℕ, ◌+◌, ◌≤◌, ◌<◌, ◌%◌, ◌^◌, Bool, List, [], ◌∷◌, ◌++◌, length, map, Option, None, Some}
use Rattle.m161_order.specs.declared.delays.Delays.{Delays}
use Rattle.m161_order.specs.Delays.{delays_of}
use Rattle.m161_delays.specs.declared.walk.Found.{Found}
use Rattle.m161_delays.specs.declared.walk.Sums.{Sums}
use Rattle.m161_delays.specs.declared.search.Class.{Class}
use Rattle.m161_delays.specs.Lists.{ComesBefore}
use Rattle.m161_delays.specs.helpers.Last.{last_from}
use Rattle.m161_delays.specs.Runs.{AreThose, IsUsefulOf}
use Rattle.m161_jobs.specs.Trials.{AreRight}
use Rattle.std.specs.List.{AllByRecursion}

-- a useful list that goes on behind these numbers with so many more, the first of them below a place
pub record IsBehind
    (class : Class) (offers : List ℕ → List ℕ) (numbers : List ℕ) (more : ℕ) (all : List ℕ) : Type 0 where
  pub rest : List ℕ
  pub all_is : all ≡ numbers ++ rest
  pub long : length rest ≡ more
  pub is_useful : IsUsefulOf class offers all

-- its next number is below a place
abbrev pub NextIsBelow : List ℕ → ℕ → List ℕ → Type 0
NextIsBelow numbers place all = (n : ℕ) × (rest : List ℕ) × (all ≡ numbers ++ n ∷ rest) × (n < place)

abbrev pub IsBehindBelow :
    Class → (List ℕ → List ℕ) → List ℕ → ℕ → ℕ → List ℕ → Type 0
IsBehindBelow class offers numbers more place all =
    IsBehind class offers numbers more all × NextIsBelow numbers place all

abbrev pub FitsWords : Sums → Type 0
FitsWords sums = (sums.runs < 2 ^ 64) × (sums.cut < 2 ^ 64)

-- all lists that are so have right runs, which are counted
pub record AreCounted
    (IsSo : List ℕ → Type 0) (right : List ℕ → Bool → Type 0) (old new : Sums) : Type 0 where
  pub lists : List (List ℕ)
  pub are_those : AreThose IsSo lists
  pub cut : ℕ
  pub are_right : AreRight right lists cut
  pub fits : FitsWords old → FitsWords new
  pub runs_is : new.runs % 2 ^ 64 ≡ (old.runs + length lists) % 2 ^ 64
  pub cut_is : new.cut % 2 ^ 64 ≡ (old.cut + cut) % 2 ^ 64

-- the first list that is so and has a wrong run; the others before it have right ones
pub record IsFirstSo
    {W : Type 0} (IsSo : List ℕ → Type 0) (right : List ℕ → Bool → Type 0) (wrong : List ℕ → W → Type 0) (found : Found W)
    : Type 0 where
  pub is_so : IsSo (delays_of found.delays)
  pub is_wrong : wrong (delays_of found.delays) found.wrong
  pub before : (others : List ℕ) → IsSo others → ComesBefore others (delays_of found.delays) →
      (is_cut : Bool) × right others is_cut

abbrev pub Walks :
    {W : Type 0} → (List ℕ → Type 0) → (List ℕ → Bool → Type 0) → (List ℕ → W → Type 0) → Sums → Sums → Option (Found W) → Type 0
Walks IsSo right wrong old new None = AreCounted IsSo right old new
Walks IsSo right wrong old new (Some found) = IsFirstSo IsSo right wrong found

-- a useful list with a number behind others
pub record IsLonger
    (class : Class) (offers : List ℕ → List ℕ) (numbers : List ℕ) (number : ℕ) (longer : Delays) : Type 0 where
  pub longer_is : delays_of longer ≡ numbers ++ number ∷ []
  pub long : length (delays_of longer) ≡ length numbers + 1
  pub is_useful : IsUsefulOf class offers (delays_of longer)

-- a list with a number more
abbrev pub with_number : List ℕ → ℕ → List ℕ
with_number numbers n = numbers ++ n ∷ []

-- these numbers make the useful lists that are one number longer than these
pub record AreNext
    (class : Class) (offers : List ℕ → List ℕ) (numbers : List ℕ) (next : List ℕ) : Type 0 where
  pub are_those : AreThose (IsBehind class offers numbers 1) (map (with_number numbers) next)
  pub least : AllByRecursion (λ n. last_from class.from numbers ≤ n) next
  pub few : length next < 2 ^ 32
