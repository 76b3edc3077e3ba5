use Rattle.std.specs.Prelude.{◌≡◌, ◌==◌, ◌+◌, ◌≤◌, ◌<◌, ℕ, Bool, if◌then◌else◌, List, [], ◌∷◌, ◌++◌, length, max, Option, None, Some}
use Rattle.m161_order.specs.Delays.{delays_of}
use Rattle.m161_delays.specs.declared.search.Class.{Class}
use Rattle.m161_delays.specs.declared.slice.SliceStop.{SliceStop}
use Rattle.m161_delays.specs.declared.slice.SliceStop.TheVariants.{Next, Wrong}
use Rattle.m161_delays.specs.declared.walk.Sums.{Sums}
use Rattle.m161_delays.specs.Lists.{ComesBefore, IsLess}
use Rattle.m161_delays.specs.Slices.{stopped_at}
use Rattle.m161_delays.specs.helpers.Walking.{AreCounted, IsBehind}

-- A walk from a list on, up to a number of runs, if one is given.

-- a useful list behind these numbers with so many more, that isn't less than they with the rest of another
abbrev pub IsBehindFrom : Class → (List ℕ → List ℕ) → List ℕ → ℕ → List ℕ → List ℕ → Type 0
IsBehindFrom class offers numbers more rest all =
    IsBehind class offers numbers more all × (IsLess all (numbers ++ rest) → ⊥)

-- the least number that goes on from one, and from the rest of a list
abbrev pub first_of : ℕ → List ℕ → ℕ
first_of least [] = least
first_of least (n ∷ rest) = max least n

-- what of the rest of a list is behind a number: nothing where it goes on with another
abbrev pub rest_behind : List ℕ → ℕ → List ℕ
rest_behind [] number = []
rest_behind (n ∷ rest) number = if n == number then rest else []

-- the numbers of a list, where lists of its length are looked at
abbrev pub rest_at : List ℕ → ℕ → List ℕ
rest_at numbers long = if length numbers == long then numbers else []

-- all lists that are so have right runs, which are counted; and no more than the limit
pub record AreMade
    (IsSo : List ℕ → Type 0) (right : List ℕ → Bool → Type 0) (limit : Option ℕ) (old new : Sums) : Type 0 where
  pub counted : AreCounted IsSo right old new
  pub within :
      (most : ℕ) → limit ≡ Some most → old.runs ≤ most
      → (new.runs ≡ old.runs + length counted.lists) × (new.runs ≤ most)

-- why a walk stops behind so many runs
abbrev pub MayStopIn : {W : Type 0} → (List ℕ → W → Type 0) → Option ℕ → ℕ → SliceStop W → Type 0
MayStopIn wrong limit runs (Wrong delays what) =
    ((most : ℕ) → limit ≡ Some most → runs ≤ most → runs < most) × wrong (delays_of delays) what
MayStopIn wrong limit runs (Next delays) = limit ≡ Some runs

-- it stops at a list that is so, and the runs of those before it are made
pub record StopsSo
    {W : Type 0} (IsSo : List ℕ → Type 0) (right : List ℕ → Bool → Type 0) (wrong : List ℕ → W → Type 0)
    (limit : Option ℕ) (old new : Sums) (stop : SliceStop W) : Type 0 where
  pub is_so : IsSo (delays_of (stopped_at stop))
  pub may : MayStopIn wrong limit new.runs stop
  pub before : AreMade (λ all. IsSo all × ComesBefore all (delays_of (stopped_at stop))) right limit old new

abbrev pub GoesAlong :
    {W : Type 0} → (List ℕ → Type 0) → (List ℕ → Bool → Type 0) → (List ℕ → W → Type 0) → Option ℕ →
    Sums → Sums → Option (SliceStop W) → Type 0
GoesAlong IsSo right wrong limit old new None = AreMade IsSo right limit old new
GoesAlong IsSo right wrong limit old new (Some stop) = StopsSo IsSo right wrong limit old new stop
