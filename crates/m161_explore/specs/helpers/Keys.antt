use Rattle.std.specs.Prelude.{◌≡◌, ℕ, ◌+◌, ◌*◌, ◌/◌, ◌%◌, ◌^◌, ◌<◌, ◌≤◌, suc, zero, List, [], ◌∷◌, length, slice_index_or, slice_range}

-- Lists of words that stand one behind the other in one list, cut at ascending places; and the chains in
-- which they are found by a hash.

abbrev pub parts : List ℕ → List ℕ → List (List ℕ)
parts [] words = []
parts (a ∷ []) words = []
parts (a ∷ (b ∷ cuts)) words = slice_range words a b ∷ parts (b ∷ cuts) words

-- the places ascend to n
abbrev pub AreCuts : List ℕ → ℕ → Type 0
AreCuts [] n = ⊥
AreCuts (a ∷ []) n = a ≡ n
AreCuts (a ∷ (b ∷ cuts)) n = (a ≤ b) × AreCuts (b ∷ cuts) n

-- the hash behind one more number
abbrev pub mixed : ℕ → ℕ → ℕ
mixed hash number = ((hash + number) % 2 ^ 64 * 0x9e3779b97f4a7c15) % 2 ^ 64

-- two words as one number
abbrev pub pair : ℕ → ℕ → ℕ
pair low high = high * 2 ^ 32 + low

-- the hash of the first n pairs of words
abbrev pub hash_upto : List ℕ → ℕ → ℕ
hash_upto words zero = 0x243f6a8885a308d3
hash_upto words (suc n) =
    mixed (hash_upto words n) (pair (slice_index_or words (2 * n) 0) (slice_index_or words (2 * n + 1) 0))

-- the hash of all pairs, and of the word behind them, or of 0 where none is
abbrev pub hash_in : List ℕ → ℕ
hash_in words =
    mixed (hash_upto words (length words / 2)) (slice_index_or words (2 * (length words / 2)) 0)

-- the bucket of a list, of so many buckets
unfoldable pub bucket : ℕ → List ℕ → ℕ
bucket size words = hash_in words / 2 ^ 32 % size

abbrev pub bucket_at : ℕ → List (List ℕ) → ℕ → ℕ
bucket_at size lists j = bucket size (slice_index_or lists j [])

-- x is one more than the last number below n that is in bucket b, or 0 where none is
pub record IsLast (bucket_of : ℕ → ℕ) (b n x : ℕ) : Type 0 where
  pub within : x ≤ n
  pub here : (j : ℕ) → x ≡ j + 1 → bucket_of j ≡ b
  pub none : (j : ℕ) → x ≤ j → j < n → bucket_of j ≡ b → ⊥

-- the first k lists are chained: each bucket has its last list, and each list the one before it in its bucket
pub record AreLinked (heads before : List ℕ) (lists : List (List ℕ)) (k : ℕ) : Type 0 where
  pub last : (b : ℕ) → b < length heads → IsLast (bucket_at (length heads) lists) b k (slice_index_or heads b 0)
  pub earlier : (j : ℕ) → j < k → IsLast (bucket_at (length heads) lists) (bucket_at (length heads) lists j) j (slice_index_or before j 0)

-- all lists are chained
pub record AreChained (heads before : List ℕ) (lists : List (List ℕ)) : Type 0 where
  pub some : 0 < length heads
  pub sizes : length before ≡ length lists
  pub linked : AreLinked heads before lists (length lists)
