use Rattle.std.specs.Prelude.{◌≡◌, ℕ, ◌≤◌, ◌<◌, ◌⊎◌, ◌==◌, List, [], ◌∷◌, length, count_by, slice_index}
use Rattle.std.specs.List.{AllByRecursion}
use Rattle.m161_delays.specs.declared.search.Class.{Class}

-- Lists of delays. A number of a list is a place of a run by turns, a choice among ready processors; at
-- each, as many ready processors are passed over as it stands in the list (delay-bounded scheduling;
-- Emmi, Qadeer and Rakamarić 2011).

-- how many times a number stands in a list
abbrev pub times : ℕ → List ℕ → ℕ
times j numbers = count_by (λ n. n == j) numbers

-- each number is at least this one and the one before it
abbrev pub IsAscendingFrom : ℕ → List ℕ → Type 0
IsAscendingFrom least [] = Unit {0}
IsAscendingFrom least (n ∷ ns) = (least ≤ n) × IsAscendingFrom n ns

-- two lists have the same numbers below this one
abbrev pub AgreeBelow : ℕ → List ℕ → List ℕ → Type 0
AgreeBelow j a b = (i : ℕ) → i < j → times i a ≡ times i b

-- a list is useful where at each place at which delays come, more processors are ready than delays
-- come; `offered` are the numbers of ready processors at the places of its run
abbrev pub IsUseful : List ℕ → List ℕ → Type 0
IsUseful offered numbers = (j : ℕ) → 1 ≤ times j numbers → times j numbers < slice_index offered j

-- a list is of a class: its numbers are in ascending order, so many at most, and within the bounds
pub record IsOf (class : Class) (numbers : List ℕ) : Type 0 where
  pub few : length numbers ≤ class.most
  pub ascending : IsAscendingFrom class.from numbers
  pub below : AllByRecursion (λ n. n < class.within) numbers

-- of two lists of one length, the one that is less where they first differ
abbrev pub IsLess : List ℕ → List ℕ → Type 0
IsLess [] ns = ⊥
IsLess (m ∷ ms) [] = ⊥
IsLess (m ∷ ms) (n ∷ ns) = (m < n) ⊎ ((m ≡ n) × IsLess ms ns)

-- the shorter list comes first
abbrev pub ComesBefore : List ℕ → List ℕ → Type 0
ComesBefore ms ns = (length ms < length ns) ⊎ ((length ms ≡ length ns) × IsLess ms ns)
