use Rattle.std.proofs.Common.{◌≡◌, ◌∙◌, ap, refl, ℕ, nat_lt, ◌+◌, ◌<◌, Bool, true, false, List, length, get_or, Some, None, arith}
use Rattle.std.specs.List.{position, position_or_len, range_with_len}
use Rattle.std.proofs.lemmas.List.FromFn.{get_or-range_with_len, length-range_with_len}
use Rattle.std.proofs.lemmas.List.Sums.{position_or_len_is}
use Rattle.std.proofs.lemmas.Bool.Decides.{nat_tests}
use Rattle.m161_tlb.specs.declared.row.Row.{Row}
use Rattle.m161_tlb.specs.Row.{matches}
use Rattle.m161_tlb.specs.Rows.{find_row, find_overlap, is_overlap, blank_row}

-- no row below a place matches
abbrev pub NoneBelow : List Row → ℕ → ℕ → ℕ → Type 0
NoneBelow rows page id i = (k : ℕ) → k < i → matches page id (get_or rows k blank_row) ≡ false

-- the first row that matches is the one found
pub found_at : (rows : List Row) (page id i : ℕ) → i < length rows → NoneBelow rows page id i → matches page id (get_or rows i blank_row) ≡ true → find_row rows page id ≡ Some i
unfolding find_row
found_at rows page id i here below match =
    let first : position_or_len (matches page id) rows ≡ i = position_or_len_is (matches page id) rows i blank_row (omega arith) below (λ h. match) in
    rw first (search (arith, here))

-- where no row matches, none is found
pub none_at : (rows : List Row) (page id : ℕ) → NoneBelow rows page id (length rows) → find_row rows page id ≡ None
unfolding find_row
none_at rows page id below =
    let first : position_or_len (matches page id) rows ≡ length rows = position_or_len_is (matches page id) rows (length rows) blank_row (omega arith) below (λ h. absurd (omega arith)) in
    rw first (search arith)

-- what a test says of number k, read from the numbers below n
at_number : (test : ℕ → Bool) (n k : ℕ) → k < n → test (get_or (range_with_len 0 n) k 0) ≡ test k
at_number test n k here =
    let same : 0 + k ≡ k = omega arith in
    ap test (get_or-range_with_len 0 n k 0 here ∙ same)

-- the first number that passes is the one found
number_at : (test : ℕ → Bool) (n j : ℕ) → j < n → ((k : ℕ) → k < j → test k ≡ false) → test j ≡ true → position test (range_with_len 0 n) ≡ Some j
number_at test n j here below hit =
    let long = length-range_with_len 0 n in
    let first : position_or_len test (range_with_len 0 n) ≡ j = position_or_len_is test (range_with_len 0 n) j 0 (omega (arith, long)) (λ k h. at_number test n k (omega arith) ∙ below k h) (λ h. at_number test n j here ∙ hit) in
    rw (first, long) (search (arith, here))

-- where no number passes, none is found
no_number_at : (test : ℕ → Bool) (n : ℕ) → ((k : ℕ) → k < n → test k ≡ false) → position test (range_with_len 0 n) ≡ None
no_number_at test n below =
    let long = length-range_with_len 0 n in
    let itself : nat_lt n n ≡ false = grind (arith, nat_tests) in
    let first : position_or_len test (range_with_len 0 n) ≡ n = position_or_len_is test (range_with_len 0 n) n 0 (omega (arith, long)) (λ k h. at_number test n k h ∙ below k h) (λ h. absurd (omega (arith, long))) in
    rw (first, long, itself) refl

-- no row below a place is another than row i that overlaps this one
abbrev pub NoOverlapBelow : List Row → ℕ → Row → ℕ → Type 0
NoOverlapBelow rows i row j = (k : ℕ) → k < j → is_overlap rows i row k ≡ false

-- the first other row that overlaps is the one found
pub overlap_at : (rows : List Row) (i : ℕ) (row : Row) (j : ℕ) → j < 64 → NoOverlapBelow rows i row j → is_overlap rows i row j ≡ true → find_overlap rows i row ≡ Some j
unfolding find_overlap
overlap_at rows i row j here below hit = number_at (is_overlap rows i row) 64 j here below hit

-- where no other row overlaps, none is found
pub no_overlap_at : (rows : List Row) (i : ℕ) (row : Row) → NoOverlapBelow rows i row 64 → find_overlap rows i row ≡ None
unfolding find_overlap
no_overlap_at rows i row below = no_number_at (is_overlap rows i row) 64 below
