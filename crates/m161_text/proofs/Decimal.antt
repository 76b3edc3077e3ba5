-- Numbers in decimal, without leading zeros.
use Rattle.std.proofs.Common.{◌≡◌, ℕ, zero, suc, ◌+◌, ◌/◌, ◌%◌, ◌^◌, ◌<◌, ◌≤◌, ◌≢◌, List, [], ◌∷◌, ◌++◌, length, get_or, None, Result, Ok, Err, decimal, sym, ap, ◌∙◌, arith}
use Rattle.std.specs.Str.Parse.{AllDigits, digits_value, ParsesUnsigned}
use Rattle.std.proofs.lemmas.List.{append_assoc, length_push}
use Rattle.std.proofs.lemmas.Str.Parse.{IsNumeralModel, numerals_by_value, tells_digits, parse_plain, digit_at}
use Rattle.std.proofs.lemmas.Fmt.{decimal_is_IsNumeral, decimal_nonempty, first_decimal, decimal_digit, decimal_step, decimal-digits_value, length-decimal-le, parse-decimal}
use Rattle.std.specs.Result.{result_ok}
use Rattle.m161_text.specs.Parts.{Reads, Lacks, IsWord}
use Rattle.m161_text.proofs.Reading.{nothing}

own : IsNumeralModel (AllDigits 10) (digits_value 10)
own = numerals_by_value (AllDigits 10) tells_digits

pub decimal_first : (n : ℕ) → n < 2 ^ 64 → (48 ≤ get_or (decimal n) 0 0) × (get_or (decimal n) 0 0 ≤ 57)
decimal_first n small = digit_at (decimal n) 0 (decimal_is_IsNumeral n small).0.1 (decimal_nonempty n small)

-- a text that begins with `+` is no decimal
pub not_plus : (bs : List ℕ) → get_or bs 0 0 ≡ 43 → Reads IsWord decimal bs None
not_plus bs e = nothing (λ n small same. omega (arith, ap (λ ds. get_or ds 0 0) same, decimal_first n (omega arith)))

zero_alone : (n : ℕ) → n < 2 ^ 32 → get_or (decimal n) 0 0 ≡ 48 → length (decimal n) ≤ 1
zero_alone zero small e = omega (arith, ap length (decimal_digit 0 (omega arith)))
zero_alone (suc n) small e = absurd (omega (arith, first_decimal (suc n) (omega arith) (omega arith)))

-- nor is one that begins with a zero and goes on
pub not_zero_first : (bs : List ℕ) → 1 < length bs → get_or bs 0 0 ≡ 48 → Reads IsWord decimal bs None
not_zero_first bs long e = nothing (λ n small same.
    let first : get_or (decimal n) 0 0 ≡ 48 = sym (ap (λ ds. get_or ds 0 0) same) ∙ e in
    omega (arith, ap length same, zero_alone n small first))

-- `parse` reads any other text
pub plain : {E : Type 0} (bs : List ℕ) (r : Result ℕ E) → ParsesUnsigned 32 10 bs r → get_or bs 0 0 ≢ 43 → (get_or bs 0 0 ≡ 48 → length bs ≤ 1) → Reads IsWord decimal bs (result_ok r)
plain {E = E} bs (Ok x) h no_plus alone =
    let it : (AllDigits 10 bs × (0 < length bs) × (digits_value 10 bs < 2 ^ 32)) × (x ≡ digits_value 10 bs) = parse_plain own {E = E} 32 bs (Ok x) h no_plus in
    let value : x ≡ digits_value 10 bs = it.1 in
    let small : digits_value 10 bs < 2 ^ 32 = it.0.2 in
    record {
      found = rw value (small, sym (decimal-digits_value own bs it.0.0 it.0.1 (λ e. omega (arith, alone e, it.0.1)) (omega arith)));
      only = λ n fits same. ap (λ (r : Result ℕ E). result_ok r) (parse-decimal {E = E} 32 n bs (Ok x) fits (omega arith) same h);
    }
plain {E = E} bs (Err e) h no_plus alone = nothing (λ n fits same. let wrong : ◌≡◌ {A = Result ℕ E} (Err e) (Ok n) = parse-decimal {E = E} 32 n bs (Err e) fits (omega arith) same h in absurd (cc))

pub decimal_lacks : (c n : ℕ) → c < 48 → n < 2 ^ 64 → Lacks c (decimal n)
decimal_lacks c n low small i lt e = let digit = digit_at (decimal n) i (decimal_is_IsNumeral n small).0.1 lt in omega (arith, digit.0, e)

pub decimal_lacks_space : (n : ℕ) → n < 2 ^ 64 → Lacks 32 (decimal n)
decimal_lacks_space n small = decimal_lacks 32 n (omega arith) small

-- A number digit by digit.

pub one_long : (n : ℕ) → n < 10 → length (decimal n) ≡ 1
one_long n small = ap length (decimal_digit n small)

pub more_long : (n : ℕ) → 10 ≤ n → n < 2 ^ 64 → length (decimal n) ≡ length (decimal (n / 10)) + 1
more_long n large small = ap length (decimal_step n large small) ∙ length_push (decimal (n / 10)) (48 + n % 10)

-- a text with the digits of a number, from one with those before the last
pub last_digit : (text front whole : List ℕ) (n : ℕ) → 10 ≤ n → n < 2 ^ 64
    → front ≡ text ++ decimal (n / 10) → whole ≡ front ++ (48 + n % 10) ∷ [] → whole ≡ text ++ decimal n
last_digit text front whole n large small is last =
    last ∙ ap (λ bs. bs ++ (48 + n % 10) ∷ []) is ∙ append_assoc text (decimal (n / 10)) ((48 + n % 10) ∷ [])
    ∙ ap (λ bs. text ++ bs) (sym (decimal_step n large small))

pub only_digit : (text whole : List ℕ) (n : ℕ) → n < 10 → whole ≡ text ++ (48 + n) ∷ [] → whole ≡ text ++ decimal n
only_digit text whole n small last = last ∙ ap (λ bs. text ++ bs) (sym (decimal_digit n small))

-- a number of 64 bits has 20 digits at most
pub long_at_most : (n : ℕ) → n < 2 ^ 64 → length (decimal n) ≤ 20
long_at_most n small = length-decimal-le 20 n (omega arith) (omega arith) (omega arith)

-- and one of 32 bits 10
pub short_at_most : (n : ℕ) → n < 2 ^ 32 → length (decimal n) ≤ 10
short_at_most n small = length-decimal-le 10 n (omega arith) (omega arith) (omega arith)
