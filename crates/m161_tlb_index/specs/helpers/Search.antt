use Rattle.std.specs.Prelude.{◌≡◌, ℕ, ◌<◌, ◌≤◌, Bool, true, false, List, get_or}
use Rattle.m161_tlb.specs.declared.row.Row.{Row}
use Rattle.m161_tlb.specs.Row.{matches}
use Rattle.m161_tlb.specs.Rows.{blank_row}
use Rattle.m161_tlb_index.specs.Chains.{owner, start}

-- What the walks along the chains, and the one along the rows, give.

-- the place whose link leads to the first row of a bucket from row i on
pub record Precedes (bucket : ℕ → ℕ) (b i at : ℕ) : Type 0 where
  pub is_place : at < 192
  pub owned : owner bucket at ≡ b
  pub below : start at ≤ i
  pub none : (j : ℕ) → start at ≤ j → j < i → bucket j ≡ b → ⊥

-- row j translates a page of an address space
abbrev pub is_match : List Row → ℕ → ℕ → ℕ → Bool
is_match rows page id j = matches page id (get_or rows j blank_row)

-- the number of the first row of a bucket that passes a test, or 64 if none does
pub record IsFirstOf (bucket : ℕ → ℕ) (b : ℕ) (test : ℕ → Bool) (i : ℕ) : Type 0 where
  pub small : i ≤ 64
  pub here : i < 64 → bucket i ≡ b
  pub passes : i < 64 → test i ≡ true
  pub first : (j : ℕ) → j < i → bucket j ≡ b → test j ≡ false

-- row i is of a bucket, or 64, and no row of the bucket before it passes a test
pub record Reaches (bucket : ℕ → ℕ) (b : ℕ) (test : ℕ → Bool) (i : ℕ) : Type 0 where
  pub small : i ≤ 64
  pub here : i < 64 → bucket i ≡ b
  pub passed : (j : ℕ) → j < i → bucket j ≡ b → test j ≡ false

-- the number of the first row that passes a test, or 64 if none does
pub record IsFirst (test : ℕ → Bool) (i : ℕ) : Type 0 where
  pub small : i ≤ 64
  pub passes : i < 64 → test i ≡ true
  pub first : (j : ℕ) → j < i → test j ≡ false
