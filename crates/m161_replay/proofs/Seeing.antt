use Rattle.std.proofs.Common.{◌≡◌, ◌∙◌, refl, sym, ap, ℕ, ◌+◌, ◌/◌, ◌%◌, ◌<◌, arith, Bool, true, false, List, get_or, nat_eq, nat_lt, None, Some, slice_get}
use Rattle.std.specs.List.{position, position_or_len, range_with_len}
use Rattle.std.specs.Prelude.{option_map}
use Rattle.std.proofs.lemmas.List.FromFn.{get_or-range_with_len, length-range_with_len}
use Rattle.std.proofs.lemmas.List.Sums.{position_or_len_is}
use Rattle.std.proofs.lemmas.Bool.Decides.{nat_tests}
use Rattle.std.proofs.lemmas.Option.{get_or_from_slice_get}
use Rattle.m161_tlb.specs.declared.row.Row.{Row}
use Rattle.m161_tlb.specs.Row.{matches}
use Rattle.m161_tlb.specs.Rows.{blank_row}
use Rattle.m161_cop0.specs.declared.register.Register.TheVariants as registers
use Rattle.m161_cop0.specs.Registers.{number_of_register}
use Rattle.m161_cop0.specs.Control.{Control, identifier_of, is_user, read_of}
use Rattle.m161_replay.specs.Views.{lowest_row}

-- What registers of coprocessor 0 say.

pub user_is : (lines w : ℕ) (c : Control) → w ≡ read_of (number_of_register registers.Status) lines c → nat_eq (w / 2 % 2) 1 ≡ is_user c
unfolding is_user read_of
user_is lines w c h = ap (λ n. nat_eq (n / 2 % 2) 1) h

pub identifier_is : (lines w : ℕ) (c : Control) → w ≡ read_of (number_of_register registers.EntryHi) lines c → w / 64 % 64 ≡ identifier_of c
unfolding read_of
identifier_is lines w c h = ap (λ n. n / 64 % 64) h

-- The lowest row that matches.

-- no row below a place does
abbrev pub NoneBelow : List Row → ℕ → ℕ → ℕ → Type 0
NoneBelow rows page id i = (k : ℕ) → k < i → matches page id (get_or rows k blank_row) ≡ false

at_number : (test : ℕ → Bool) (n k : ℕ) → k < n → test (get_or (range_with_len 0 n) k 0) ≡ test k
at_number test n k here =
    let same : 0 + k ≡ k = omega arith in
    ap test (get_or-range_with_len 0 n k 0 here ∙ same)

number_at : (test : ℕ → Bool) (n j : ℕ) → j < n → ((k : ℕ) → k < j → test k ≡ false) → test j ≡ true → position test (range_with_len 0 n) ≡ Some j
number_at test n j here below hit =
    let long = length-range_with_len 0 n in
    let first : position_or_len test (range_with_len 0 n) ≡ j = position_or_len_is test (range_with_len 0 n) j 0 (omega (arith, long)) (λ k h. at_number test n k (omega arith) ∙ below k h) (λ h. at_number test n j here ∙ hit) in
    rw (first, long) (search (arith, here))

no_number_at : (test : ℕ → Bool) (n : ℕ) → ((k : ℕ) → k < n → test k ≡ false) → position test (range_with_len 0 n) ≡ None
no_number_at test n below =
    let long = length-range_with_len 0 n in
    let itself : nat_lt n n ≡ false = grind (arith, nat_tests) in
    let first : position_or_len test (range_with_len 0 n) ≡ n = position_or_len_is test (range_with_len 0 n) n 0 (omega (arith, long)) (λ k h. at_number test n k h ∙ below k h) (λ h. absurd (omega (arith, long))) in
    rw (first, long, itself) refl

pub row_found : (rows : List Row) (page id i : ℕ) (row : Row) → i < 64 → NoneBelow rows page id i → slice_get rows i ≡ Some row → matches page id row ≡ true → Some row ≡ lowest_row rows page id
unfolding lowest_row
row_found rows page id i row here below at match =
    let same : get_or rows i blank_row ≡ row = get_or_from_slice_get rows i row blank_row at in
    let found : position (λ k. matches page id (get_or rows k blank_row)) (range_with_len 0 64) ≡ Some i =
    number_at (λ k. matches page id (get_or rows k blank_row)) 64 i here below (ap (matches page id) same ∙ match) in
    sym (ap (option_map (λ k. get_or rows k blank_row)) found ∙ ap (λ r. Some r) same)

pub no_row_found : (rows : List Row) (page id : ℕ) → NoneBelow rows page id 64 → None ≡ lowest_row rows page id
unfolding lowest_row
no_row_found rows page id below =
    sym (ap (option_map (λ k. get_or rows k blank_row)) (no_number_at (λ k. matches page id (get_or rows k blank_row)) 64 below))

below_more : (rows : List Row) (page id i k : ℕ) → NoneBelow rows page id i → matches page id (get_or rows i blank_row) ≡ false → k < i + 1 → Bool → matches page id (get_or rows k blank_row) ≡ false
below_more rows page id i k below here lt b = grind (arith, below, here)

pub row_passed : (rows : List Row) (page id i : ℕ) (row : Row) → NoneBelow rows page id i → slice_get rows i ≡ Some row → matches page id row ≡ false → NoneBelow rows page id (i + 1)
row_passed rows page id i row below at miss =
    let here : matches page id (get_or rows i blank_row) ≡ false = ap (matches page id) (get_or_from_slice_get rows i row blank_row at) ∙ miss in
    λ k lt. below_more rows page id i k below here lt true
