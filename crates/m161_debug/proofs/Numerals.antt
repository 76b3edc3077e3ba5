-- Decimal numbers of any size.
use Rattle.std.proofs.Common.{◌≡◌, ℕ, ◌+◌, ◌-◌, ◌<◌, ◌≤◌, ◌^◌, List, [], ◌∷◌, ◌++◌, length, take, get_or, arith, Ok, Err}
use Rattle.std.proofs.lemmas.List.{take_more}
use Rattle.std.specs.Str.Parse.{AllDigits, digits_value, ParsesUnsigned}
use Rattle.std.proofs.lemmas.Str.Parse.{IsNumeralModel, numerals_by_value, tells_digits, parse_plain, digit_at}
use Rattle.m161_debug.specs.Commands.{IsDecimal, count_of}

own : IsNumeralModel (AllDigits 10) (digits_value 10)
own = numerals_by_value (AllDigits 10) tells_digits

digits_push : (ds : List ℕ) (d : ℕ) → AllDigits 10 ds → 48 ≤ d → d ≤ 57 → AllDigits 10 (ds ++ d ∷ [])
digits_push [] d all low high = tells_digits.more d [] (low, high) tt
digits_push (c ∷ cs) d all low high = (all.0, digits_push cs d all.1 low high)

pub digits_more : (ds : List ℕ) (i : ℕ) → i < length ds → AllDigits 10 (take i ds) → 48 ≤ get_or ds i 0 → get_or ds i 0 ≤ 57 → AllDigits 10 (take (i + 1) ds)
digits_more ds i lt all low high = rw (take_more ds i 0 lt) (digits_push (take i ds) (get_or ds i 0) all low high)

pub digit_in : (ds : List ℕ) (i : ℕ) → AllDigits 10 ds → i < length ds → (48 ≤ get_or ds i 0) × (get_or ds i 0 ≤ 57)
digit_in ds i all lt = digit_at ds i all lt

-- what `parse` gives of one: its value, or that this is no number of 64 bits
pub count_read : (E : Type 0) (ds : List ℕ) (n : ℕ) → IsDecimal ds → ParsesUnsigned {E = E} 64 10 ds (Ok n) → n ≡ count_of ds
count_read E ds n is h =
    let first = digit_at ds 0 is.0.1 is.0.0 in
    let it : (AllDigits 10 ds × (0 < length ds) × (digits_value 10 ds < 2 ^ 64)) × (n ≡ digits_value 10 ds) = parse_plain own {E = E} 64 ds (Ok n) h (λ e. omega (arith, e, first.0)) in
    let small : digits_value 10 ds < 2 ^ 64 = it.0.2 in
    omega (arith, it.1, small)

pub count_large : (E : Type 0) (ds : List ℕ) (e : E) → IsDecimal ds → ParsesUnsigned {E = E} 64 10 ds (Err e) → 2 ^ 64 - 1 ≡ count_of ds
count_large E ds e is h =
    let first = digit_at ds 0 is.0.1 is.0.0 in
    let no : (AllDigits 10 ds × (0 < length ds) × (digits_value 10 ds < 2 ^ 64)) → ⊥ = parse_plain own {E = E} 64 ds (Err e) h (λ x. omega (arith, x, first.0)) in
    let large : digits_value 10 ds < 2 ^ 64 → ⊥ = λ small. no (is.0.1, is.0.0, small) in
    omega (arith, large)
