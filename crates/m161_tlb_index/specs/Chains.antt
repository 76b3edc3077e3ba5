use Rattle.std.specs.Prelude.{◌≡◌, ℕ, ◌+◌, ◌-◌, ◌%◌, ◌<◌, ◌≤◌, nat_lt, if◌then◌else◌, List, get_or}
use Rattle.m161_tlb.specs.declared.row.Row.{Row}
use Rattle.m161_tlb.specs.Rows.{blank_row}

-- The chains: each has the rows of one bucket, the lowest first. Rows are read here by a function
-- from a row's number to its bucket, and links by one from a place to the number there.
--
-- place 0 to 63      the link of that row, to the next row of its bucket
-- place 64 to 191    the link of bucket 0 to 127, to its first row
-- number 0 to 63     that row; 64 is none

-- the bucket of a private row with this page and identifier
abbrev pub private_bucket : ℕ → ℕ → ℕ
private_bucket page id = (page + id) % 64

-- the bucket of a row with this page and G
abbrev pub shared_bucket : ℕ → ℕ
shared_bucket page = 64 + page % 64

-- the bucket of a row
abbrev pub bucket_of : Row → ℕ
bucket_of row = if row.g then shared_bucket row.page else private_bucket row.page row.id

-- the bucket of row j
unfoldable pub home : List Row → ℕ → ℕ
home rows j = bucket_of (get_or rows j blank_row)

-- the bucket whose rows the link at a place leads to
abbrev pub owner : (ℕ → ℕ) → ℕ → ℕ
owner bucket at = if nat_lt at 64 then bucket at else at - 64

-- the lowest row that the link at a place may lead to
abbrev pub start : ℕ → ℕ
start at = if nat_lt at 64 then at + 1 else 0

-- the number of the first row of a bucket from row `from` on, or 64 if none is there
pub record IsNext (bucket : ℕ → ℕ) (b from i : ℕ) : Type 0 where
  pub above : from ≤ i
  pub small : i ≤ 64
  pub here : i < 64 → bucket i ≡ b
  pub first : (j : ℕ) → from ≤ j → j < i → bucket j ≡ b → ⊥

-- each link leads to the next row of its bucket
pub record IsLinked (bucket link : ℕ → ℕ) : Type 0 where
  pub next : (at : ℕ) → at < 192 → IsNext bucket (owner bucket at) (start at) (link at)
