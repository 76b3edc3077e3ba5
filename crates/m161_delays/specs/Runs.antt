use Rattle.std.specs.Prelude.{◌≡◌, ◌⊎◌, ℕ, ◌+◌, List, [], ◌∷◌, take}
use Rattle.m161_delays.specs.declared.search.Class.{Class}
use Rattle.m161_delays.specs.Lists.{AgreeBelow, ComesBefore, IsOf, IsUseful}
use Rattle.std.specs.List.{AllByRecursion}

-- The useful lists of a class, and what their runs offer.

-- a useful list of a class; `offers` has the numbers of ready processors at the places of a list's run
abbrev pub IsUsefulOf : Class → (List ℕ → List ℕ) → List ℕ → Type 0
IsUsefulOf class offers numbers = IsOf class numbers × IsUseful (offers numbers) numbers

-- runs of lists that agree below a number are alike up to its place
abbrev pub ChooseAlike : (List ℕ → List ℕ) → Type 0
ChooseAlike offers =
    (j : ℕ) (a b : List ℕ) → AgreeBelow j a b → take (j + 1) (offers a) ≡ take (j + 1) (offers b)

-- a point is one of the run of each list that agrees with this one below a number
abbrev pub StandsAt : {P : Type 0} → (List ℕ → P → Type 0) → List ℕ → ℕ → P → Type 0
StandsAt IsOn numbers j point = (others : List ℕ) → AgreeBelow j numbers others → IsOn others point

-- each list comes before those behind it
abbrev pub AreInOrder : List (List ℕ) → Type 0
AreInOrder [] = Unit {0}
AreInOrder (x ∷ xs) = AllByRecursion (ComesBefore x) xs × AreInOrder xs

-- a list is one of these
abbrev pub IsAmong : List ℕ → List (List ℕ) → Type 0
IsAmong x [] = ⊥
IsAmong x (y ∷ ys) = (x ≡ y) ⊎ IsAmong x ys

-- these are all lists that are so, in their order
pub record AreThose (IsSo : List ℕ → Type 0) (lists : List (List ℕ)) : Type 0 where
  pub each : AllByRecursion IsSo lists
  pub all : (numbers : List ℕ) → IsSo numbers → IsAmong numbers lists
  pub ordered : AreInOrder lists
