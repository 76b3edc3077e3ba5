use Rattle.std.proofs.Common.{◌≡◌, ℕ, zero, suc, ◌^◌, ◌<◌, ◌≤◌, ◌≢◌, List, length, get_or, None, Result, Ok, Err, decimal, sym, ap, ◌∙◌, arith}
use Rattle.std.specs.Str.Parse.{AllDigits, digits_value, ParsesUnsigned}
use Rattle.std.proofs.lemmas.Str.Parse.{IsNumeralModel, numerals_by_value, tells_digits, parse_plain}
use Rattle.std.proofs.lemmas.Fmt.{first_decimal, decimal_digit, decimal-digits_value, parse-decimal}
use Rattle.std.specs.Result.{result_ok}
use Rattle.m161_text.specs.Parts.{Reads}
use Rattle.m161_text.proofs.Decimal.{decimal_first}
use Rattle.m161_text.proofs.Reading.{nothing}
use Rattle.s161_debug.specs.Lines.{IsLong}

-- Decimal numbers of 64 bits.

own : IsNumeralModel (AllDigits 10) (digits_value 10)
own = numerals_by_value (AllDigits 10) tells_digits

-- a text that begins with `+` is no decimal
pub not_plus : (bs : List ℕ) → get_or bs 0 0 ≡ 43 → Reads IsLong decimal bs None
not_plus bs e = nothing (λ n small same. omega (arith, ap (λ ds. get_or ds 0 0) same, decimal_first n small))

zero_alone : (n : ℕ) → n < 2 ^ 64 → get_or (decimal n) 0 0 ≡ 48 → length (decimal n) ≤ 1
zero_alone zero small e = omega (arith, ap length (decimal_digit 0 (omega arith)))
zero_alone (suc n) small e = absurd (omega (arith, first_decimal (suc n) (omega arith) small))

-- nor is one that begins with a zero and goes on
pub not_zero_first : (bs : List ℕ) → 1 < length bs → get_or bs 0 0 ≡ 48 → Reads IsLong decimal bs None
not_zero_first bs long e = nothing (λ n small same.
    let first : get_or (decimal n) 0 0 ≡ 48 = sym (ap (λ ds. get_or ds 0 0) same) ∙ e in
    omega (arith, ap length same, zero_alone n small first))

-- `parse` reads any other text
pub plain : {E : Type 0} (bs : List ℕ) (r : Result ℕ E) → ParsesUnsigned 64 10 bs r → get_or bs 0 0 ≢ 43 → (get_or bs 0 0 ≡ 48 → length bs ≤ 1) → Reads IsLong decimal bs (result_ok r)
plain {E = E} bs (Ok x) h no_plus alone =
    let it : (AllDigits 10 bs × (0 < length bs) × (digits_value 10 bs < 2 ^ 64)) × (x ≡ digits_value 10 bs) = parse_plain own {E = E} 64 bs (Ok x) h no_plus in
    let value : x ≡ digits_value 10 bs = it.1 in
    let small : digits_value 10 bs < 2 ^ 64 = it.0.2 in
    record {
      found = rw value (small, sym (decimal-digits_value own bs it.0.0 it.0.1 (λ e. omega (arith, alone e, it.0.1)) small));
      only = λ n fits same. ap (λ (r : Result ℕ E). result_ok r) (parse-decimal {E = E} 64 n bs (Ok x) fits (omega arith) same h);
    }
plain {E = E} bs (Err e) h no_plus alone = nothing (λ n fits same. let wrong : ◌≡◌ {A = Result ℕ E} (Err e) (Ok n) = parse-decimal {E = E} 64 n bs (Err e) fits (omega arith) same h in absurd (cc))
