use Rattle.std.proofs.Common.{◌≡◌, ◌≢◌, ℕ, ◌<◌, ◌==◌, if◌then◌else◌, List, length, get_or, slice_set, arith, ap, sym, ◌∙◌}
use Rattle.std.proofs.lemmas.List.{get_or-set_same, get_or-set_other, length-set}
use Rattle.std.proofs.lemmas.Bool.Decides.{nat_tests}
use Rattle.m161_tlb.specs.declared.row.Row.{Row}
use Rattle.m161_tlb.specs.Rows.{blank_row}
use Rattle.m161_tlb_index.specs.Chains.{bucket_of, home, IsLinked}
use Rattle.m161_tlb_index.specs.helpers.Search.{Precedes}
use Rattle.m161_tlb_index.proofs.Chains.{taken, put, not_before, same_owner}

-- each row's bucket is below 128
bucket_small : (row : Row) → bucket_of row < 128
bucket_small row = grind (arith, nat_tests)

-- and so is that of row j
home_small : (rows : List Row) (j : ℕ) → home rows j < 128
unfolding home
home_small rows j = bucket_small (get_or rows j blank_row)

-- the buckets of the rows but row i, which is in none
abbrev without : List Row → ℕ → ℕ → ℕ
without rows i j = if j == i then 128 else home rows j

-- row i is in none there
without_same : (rows : List Row) (i : ℕ) → without rows i i ≡ 128
without_same rows i = grind (arith, nat_tests)

-- each other row is in its own
without_other : (rows : List Row) (i j : ℕ) → j ≢ i → without rows i j ≡ home rows j
without_other rows i j other = grind (arith, nat_tests)

-- another row's bucket stays as it is
home_other : (rows : List Row) (row : Row) (i j : ℕ) → j ≢ i → home (slice_set rows i row) j ≡ home rows j
unfolding home
home_other rows row i j other = ap bucket_of (get_or-set_other rows i j row blank_row other)

-- the bucket of the row written
home_same : (rows : List Row) (row : Row) (i : ℕ) → i < length rows → home (slice_set rows i row) i ≡ bucket_of row
unfolding home
home_same rows row i here = ap bucket_of (get_or-set_same rows i row blank_row here)

-- the place that precedes row i does so too while row i is in no bucket
precedes_without : (rows : List Row) (b i before : ℕ) → i < 64 → Precedes (home rows) b i before → Precedes (without rows i) b i before
precedes_without rows b i before small p =
    let apart : before ≢ i = λ f. not_before i (rw f at p.below) small in
    record {
      is_place = p.is_place;
      owned = same_owner (home rows) (without rows i) i before apart (λ j other. without_other rows i j other) ∙ p.owned;
      below = p.below;
      none = λ j from under e. p.none j from under (sym (without_other rows i j (λ f. omega arith)) ∙ e);
    }

-- the place that precedes a row, of rows and a bucket that are these
pub precedes_of : (rows now : List Row) (b b' i at : ℕ) → rows ≡ now → b ≡ b' → Precedes (home now) b i at → Precedes (home rows) b' i at
precedes_of rows now b b' i at same of p = rw (same, ← of) p

-- the links after a write are those of the new rows
pub rewritten : (rows : List Row) (links : List ℕ) (row : Row) (i from to : ℕ) → length rows ≡ 64 → length links ≡ 192 → i < 64 → IsLinked (home rows) (λ (at : ℕ). get_or links at 0) → Precedes (home rows) (bucket_of (get_or rows i blank_row)) i from → Precedes (home rows) (bucket_of row) i to → IsLinked (home (slice_set rows i row)) (λ (at : ℕ). get_or (slice_set (slice_set (slice_set links from (get_or links i 0)) i (get_or (slice_set links from (get_or links i 0)) to 0)) to i) at 0)
unfolding home
rewritten rows links row i from to rows_long links_long small linked of_old of_new =
    let bridged = slice_set links from (get_or links i 0) in
    let bridged_long : length bridged ≡ 192 = length-set links from (get_or links i 0) ∙ links_long in
    let joined = slice_set bridged i (get_or bridged to 0) in
    let joined_long : length joined ≡ 192 = length-set bridged i (get_or bridged to 0) ∙ bridged_long in
    let apart : i ≢ to = λ f. not_before i (rw (← f) at of_new.below) small in
    let out = taken (home rows) (λ at. get_or links at 0) (without rows i) (λ at. get_or bridged at 0) i from small (home_small rows) linked of_old (without_same rows i) (without_other rows i)
    (get_or-set_same links from (get_or links i 0) 0 (omega (arith, of_old.is_place)))
    (λ at other. get_or-set_other links from at (get_or links i 0) 0 other) in
    put (without rows i) (λ at. get_or bridged at 0) (home (slice_set rows i row)) (λ at. get_or (slice_set joined to i) at 0) i (bucket_of row) to small (bucket_small row)
    (λ j other. rw (without_other rows i j other) (home_small rows j))
    out (precedes_without rows (bucket_of row) i to small of_new) (without_same rows i)
    (home_same rows row i (omega arith))
    (λ j other. home_other rows row i j other ∙ sym (without_other rows i j other))
    (get_or-set_same joined to i 0 (omega (arith, of_new.is_place)))
    (get_or-set_other joined to i i 0 apart ∙ get_or-set_same bridged i (get_or bridged to 0) 0 (omega arith))
    (λ at not_to not_i. get_or-set_other joined to at i 0 not_to ∙ get_or-set_other bridged i at (get_or bridged to 0) 0 not_i)
