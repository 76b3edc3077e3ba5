use Rattle.std.specs.Prelude.{◌≡◌, ℕ, ◌+◌, ◌<◌, Bool, true, false, List, [], ◌∷◌, length, slice_index_or}
use Rattle.m161_explore.specs.Search.{link_at}

-- Which states lead to an end, by their links alone.

abbrev pub flag_at : List Bool → ℕ → Bool
flag_at flags j = slice_index_or flags j false

-- the links lead from a to b by these events
abbrev pub LinksLead : ℕ → List ℕ → ℕ → List ℕ → ℕ → Type 0
LinksLead width links a [] b = b ≡ a
LinksLead width links a (e ∷ es) b =
    (c : ℕ) × (e < width) × (link_at width links a e ≡ c + 1) × LinksLead width links c es b

-- the links lead from a to a state with a flag
abbrev pub CanReach : ℕ → List ℕ → List Bool → ℕ → Type 0
CanReach width links flags a = (es : List ℕ) × (b : ℕ) × LinksLead width links a es b × (flag_at flags b ≡ true)

-- where an event leads to a state with a flag, there is a flag
abbrev pub IsSettledAt : ℕ → List ℕ → List Bool → ℕ → Type 0
IsSettledAt width links flags a =
    (e c : ℕ) → e < width → link_at width links a e ≡ c + 1 → flag_at flags c ≡ true → flag_at flags a ≡ true

abbrev pub IsSettled : ℕ → List ℕ → List Bool → Type 0
IsSettled width links flags = (a : ℕ) → a < length flags → IsSettledAt width links flags a

-- the new flags are those from which an old one is reached, and maybe not all of them
pub record Spreads (width : ℕ) (links : List ℕ) (old new : List Bool) : Type 0 where
  pub size : length new ≡ length old
  pub kept : (j : ℕ) → flag_at old j ≡ true → flag_at new j ≡ true
  pub reached : (j : ℕ) → flag_at new j ≡ true → CanReach width links old j

-- how many have no flag
abbrev pub unset : List Bool → ℕ
unset [] = 0
unset (true ∷ flags) = unset flags
unset (false ∷ flags) = unset flags + 1
