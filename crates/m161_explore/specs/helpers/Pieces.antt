use Rattle.std.specs.Prelude.{◌≡◌, ℕ, ◌<◌, ◌^◌, List, [], ◌∷◌, ◌++◌, length, slice_index_or, take, drop}

-- Lists of words that are kept as the numbers of their pieces.

abbrev pub piece_at : List (List ℕ) → ℕ → List ℕ
piece_at pieces n = slice_index_or pieces n []

-- how many words a piece has, but for the last one of a list
abbrev pub piece_size : ℕ
piece_size = 64

-- the words of the pieces with these numbers, one behind the other
abbrev pub joined : List (List ℕ) → List ℕ → List ℕ
joined pieces [] = []
joined pieces (n ∷ ns) = piece_at pieces n ++ joined pieces ns

-- the words of each of these lists of numbers
abbrev pub joined_each : List (List ℕ) → List (List ℕ) → List (List ℕ)
joined_each pieces [] = []
joined_each pieces (ns ∷ lists) = joined pieces ns ∷ joined_each pieces lists

-- the words, cut behind each so many of them, are the pieces with these numbers
abbrev pub Spells : ℕ → List (List ℕ) → List ℕ → List ℕ → Type 0
Spells size pieces [] words = words ≡ []
Spells size pieces (n ∷ ns) words =
    (0 < length words) × (n < length pieces) × (piece_at pieces n ≡ take size words) × Spells size pieces ns (drop size words)

-- no two pieces are equal, and each has a number
pub record ArePieces (pieces : List (List ℕ)) : Type 0 where
  pub unequal : (j k : ℕ) → j < k → k < length pieces → piece_at pieces j ≡ piece_at pieces k → ⊥
  pub few : length pieces < 2 ^ 32

-- the old pieces have the numbers that they had
pub record AreKept (old new : List (List ℕ)) : Type 0 where
  pub within : (j : ℕ) → j < length old → j < length new
  pub same : (j : ℕ) → j < length old → piece_at new j ≡ piece_at old j

-- each list of numbers is the one that its words are kept as
abbrev pub AreSpelled : ℕ → List (List ℕ) → List (List ℕ) → Type 0
AreSpelled size pieces lists =
    (i : ℕ) → i < length lists → Spells size pieces (slice_index_or lists i []) (joined pieces (slice_index_or lists i []))
