use Rattle.std.proofs.Common.{◌≡◌, ◌⊎◌, ℕ, ◌+◌, ◌<◌, ◌≤◌, Bool, true, false, List, length, get_or, min, Some, None, arith, inl, inr, sym, ◌∙◌}
use Rattle.std.proofs.lemmas.Bool.{cases_eq, cases_lt, cases_Bool}
use Rattle.std.proofs.lemmas.Bool.Decides.{nat_tests}
use Rattle.m161_tlb.specs.declared.row.Row.{Row}
use Rattle.m161_tlb.specs.Row.{matches, overlaps}
use Rattle.m161_tlb.specs.Rows.{blank_row, find_overlap, find_row, is_overlap}
use Rattle.m161_tlb.proofs.Found.{found_at, none_at, overlap_at, no_overlap_at}
use Rattle.m161_tlb_index.specs.Chains.{bucket_of, private_bucket, shared_bucket, home, owner, start, IsLinked}
use Rattle.m161_tlb_index.specs.helpers.Search.{is_match, IsFirst, IsFirstOf, Reaches}

-- the first row of a bucket is reached at first
pub reaches_first : (bucket link : ℕ → ℕ) (b : ℕ) (test : ℕ → Bool) → b < 128 → IsLinked bucket link → Reaches bucket b test (link (64 + b))
reaches_first bucket link b test small linked =
    let next = linked.next (64 + b) (omega arith) in
    let owned : owner bucket (64 + b) ≡ b = grind (arith, nat_tests) in
    let from : start (64 + b) ≡ 0 = grind (arith, nat_tests) in
    record {
      small = next.small;
      here = λ h. next.here h ∙ owned;
      passed = λ j h e. absurd (next.first j (omega (arith, from)) h (e ∙ sym owned));
    }

-- past a row that doesn't pass, the next one is reached
pub reaches_next : (bucket link : ℕ → ℕ) (b : ℕ) (test : ℕ → Bool) (i : ℕ) → i < 64 → IsLinked bucket link → Reaches bucket b test i → test i ≡ false → Reaches bucket b test (link i)
reaches_next bucket link b test i small linked here miss =
    let next = linked.next i (omega arith) in
    let of : bucket i ≡ b = here.here small in
    let owned : owner bucket i ≡ b = grind (arith, nat_tests, of) in
    let from : start i ≡ i + 1 = grind (arith, nat_tests) in
    record {
      small = next.small;
      here = λ h. next.here h ∙ owned;
      passed = λ j h e. elim (cases_lt j i) [
        | inl before ↦ here.passed j before e
        | inr after ↦ elim (cases_eq j i) [
          | inl same ↦ rw same miss
          | inr other ↦ absurd (next.first j (omega (arith, from)) h (e ∙ sym owned))
        ]
      ];
    }

-- where each row that passes is in one of two buckets, the lower of both buckets' first is the first
lower_is_first : (bucket : ℕ → ℕ) (b b' : ℕ) (test : ℕ → Bool) (p s i : ℕ) → ((j : ℕ) → test j ≡ true → (bucket j ≡ b) ⊎ (bucket j ≡ b')) → IsFirstOf bucket b test p → IsFirstOf bucket b' test s → i ≡ min p s → IsFirst test i
lower_is_first bucket b b' test p s i in_one private shared lower =
    let under-p : i ≤ p = grind (arith, lower) in
    let under-s : i ≤ s = grind (arith, lower) in
    let which : (i ≡ p) ⊎ (i ≡ s) = grind (arith, lower) in
    record {
      small = omega (arith, private.small);
      passes = λ h. elim which [
        | inl e ↦ rw e (private.passes (omega arith))
        | inr e ↦ rw e (shared.passes (omega arith))
      ];
      first = λ j h. elim (cases_Bool (test j)) [
        | inl hit ↦ elim (in_one j hit) [
          | inl e ↦ private.first j (omega arith) e
          | inr e ↦ shared.first j (omega arith) e
        ]
        | inr miss ↦ miss
      ];
    }

-- a row that matches is in one of two buckets
in_a_bucket : (row : Row) (page id : ℕ) → matches page id row ≡ true → (bucket_of row ≡ private_bucket page id) ⊎ (bucket_of row ≡ shared_bucket page)
in_a_bucket row page id h = grind (arith, nat_tests)

-- a row that overlaps a private row is in one of two buckets
overlaps_in_a_bucket : (row other : Row) → row.g ≡ false → overlaps row other ≡ true → (bucket_of other ≡ private_bucket row.page row.id) ⊎ (bucket_of other ≡ shared_bucket row.page)
overlaps_in_a_bucket row other private h = grind (arith, nat_tests, private)

-- the lower of both buckets' first matches is the first match
pub lower_match : (rows : List Row) (page id p s i : ℕ) → IsFirstOf (home rows) (private_bucket page id) (is_match rows page id) p → IsFirstOf (home rows) (shared_bucket page) (is_match rows page id) s → i ≡ min p s → IsFirst (is_match rows page id) i
unfolding home
lower_match rows page id p s i private shared lower =
    lower_is_first (home rows) (private_bucket page id) (shared_bucket page) (is_match rows page id) p s i
    (λ j hit. in_a_bucket (get_or rows j blank_row) page id hit) private shared lower

-- the lower of both buckets' first overlaps of a private row is the first overlap
pub lower_overlap : (rows : List Row) (k : ℕ) (row : Row) (p s i : ℕ) → row.g ≡ false → IsFirstOf (home rows) (private_bucket row.page row.id) (is_overlap rows k row) p → IsFirstOf (home rows) (shared_bucket row.page) (is_overlap rows k row) s → i ≡ min p s → IsFirst (is_overlap rows k row) i
unfolding home
lower_overlap rows k row p s i is_private private shared lower =
    lower_is_first (home rows) (private_bucket row.page row.id) (shared_bucket row.page) (is_overlap rows k row) p s i
    (λ j hit. overlaps_in_a_bucket row (get_or rows j blank_row) is_private (grind (arith, nat_tests, hit))) private shared lower

-- the first match is the row found
pub first_is_found : (rows : List Row) (page id i : ℕ) → length rows ≡ 64 → IsFirst (is_match rows page id) i → i < 64 → find_row rows page id ≡ Some i
first_is_found rows page id i long first here =
    found_at rows page id i (omega (arith, long)) first.first (first.passes here)

-- where that is 64, no row is found
pub none_is_found : (rows : List Row) (page id i : ℕ) → length rows ≡ 64 → IsFirst (is_match rows page id) i → 64 ≤ i → find_row rows page id ≡ None
none_is_found rows page id i long first none =
    none_at rows page id (λ k here. first.first k (omega (arith, long)))

-- the first overlap is the row found
pub first_overlap_is_found : (rows : List Row) (k : ℕ) (row : Row) (i : ℕ) → length rows ≡ 64 → IsFirst (is_overlap rows k row) i → i < 64 → find_overlap rows k row ≡ Some i
first_overlap_is_found rows k row i long first here =
    overlap_at rows k row i (omega (arith, long)) first.first (first.passes here)

-- where that is 64, no row is found
pub no_overlap_is_found : (rows : List Row) (k : ℕ) (row : Row) (i : ℕ) → length rows ≡ 64 → IsFirst (is_overlap rows k row) i → 64 ≤ i → find_overlap rows k row ≡ None
no_overlap_is_found rows k row i long first none =
    no_overlap_at rows k row (λ j here. first.first j (omega (arith, long)))
