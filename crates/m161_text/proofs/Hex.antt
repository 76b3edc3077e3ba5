-- Numbers in hexadecimal digits.
use Rattle.std.proofs.Common.{◌≡◌, ℕ, zero, suc, ◌+◌, ◌*◌, ◌/◌, ◌%◌, ◌^◌, ◌<◌, ◌≤◌, List, [], ◌∷◌, ◌++◌, length, get_or, refl, sym, ap, ◌∙◌, arith, add-one, pow-suc, inl, inr, take, None, ◌-◌, Some, false}
use native.Mathlib.Nat.{pow-le-pow_right}
use Rattle.std.proofs.lemmas.Bool.{cases_lt}
use Rattle.std.proofs.lemmas.Bool.Decides.{nat_tests}
use Rattle.std.proofs.lemmas.List.{same_from_push, length_push, take_more, get_or_push, get_or_append_left}
use Rattle.std.proofs.lemmas.Fmt.{hex_byte}
use Rattle.std.specs.Fmt.{digits, digits_output, styled_digits_output, format_spec}
use Rattle.std.proofs.lemmas.Option.{none-some}
use Rattle.m161_text.specs.Parts.{Reads, Lacks, hex_digit, hex_text}

pub hex_digit_same : (m n : ℕ) → m < 16 → n < 16 → hex_digit m ≡ hex_digit n → m ≡ n
hex_digit_same m n hm hn e = grind (arith, nat_tests)

pub hex_digit_above : (n : ℕ) → 48 ≤ hex_digit n
hex_digit_above n = grind (arith, nat_tests)

pub length-hex_text : (k n : ℕ) → length (hex_text k n) ≡ k
length-hex_text zero n = refl
length-hex_text (suc k) n = length_push (hex_text k (n / 16)) (hex_digit (n % 16)) ∙ (let h : length (hex_text k (n / 16)) ≡ k = length-hex_text k (n / 16) in omega arith)

-- a digit more
pub hex_text_more : (k n d : ℕ) → d < 16 → hex_text (suc k) (n * 16 + d) ≡ hex_text k n ++ hex_digit d ∷ []
hex_text_more k n d small =
    let front : (n * 16 + d) / 16 ≡ n = omega arith in
    let last : (n * 16 + d) % 16 ≡ d = omega arith in
    rw (front, last) refl

hex_at : (k n i : ℕ) → i < suc k → (i < k → (d : ℕ) × (d < 16) × (get_or (hex_text k (n / 16)) i 0 ≡ hex_digit d))
    → (d : ℕ) × (d < 16) × (get_or (hex_text k (n / 16) ++ hex_digit (n % 16) ∷ []) i 0 ≡ hex_digit d)
hex_at k n i lt before = elim (cases_lt i k) [
  | inl h ↦
      let it = before h in
      (it.0, it.1, get_or_append_left (hex_text k (n / 16)) _ 0 i (rw length-hex_text h) ∙ it.2)
  | inr h ↦ (n % 16, omega arith, get_or_push (hex_text k (n / 16)) _ 0 i (length-hex_text k (n / 16) ∙ omega arith))
]

-- each place of a number has a digit
pub hex_text_at : (k n i : ℕ) → i < k → (d : ℕ) × (d < 16) × (get_or (hex_text k n) i 0 ≡ hex_digit d)
hex_text_at zero n i lt = absurd (omega arith)
hex_text_at (suc k) n i lt = hex_at k n i lt (hex_text_at k (n / 16) i)

-- numbers of k digits with the same text are the same
pub hex_text_same : (k m n : ℕ) → m < 16 ^ k → n < 16 ^ k → hex_text k m ≡ hex_text k n → m ≡ n
hex_text_same zero m n hm hn e = omega arith
hex_text_same (suc k) m n hm hn e =
    let parts = same_from_push (hex_text k (m / 16)) (hex_text k (n / 16)) (hex_digit (m % 16)) (hex_digit (n % 16)) e in
    let last : m % 16 ≡ n % 16 = hex_digit_same (m % 16) (n % 16) (omega arith) (omega arith) parts.1 in
    let front : m / 16 ≡ n / 16 = hex_text_same k (m / 16) (n / 16) (omega (arith, pow-suc 16 k)) (omega (arith, pow-suc 16 k)) parts.0 in
    omega arith

-- with a digit more, up to eight, it is a word
pub hex_room : (i n d : ℕ) → i < 8 → n < 16 ^ i → d < 16 → n * 16 + d < 2 ^ 32
hex_room i n d few small digit = let some : 0 < 16 = omega arith in let few_digits : i ≤ 7 = omega arith in let le : 16 ^ i ≤ 16 ^ 7 = pow-le-pow_right some few_digits in omega arith

pub hex_fits_more : (i n d : ℕ) → n < 16 ^ i → d < 16 → n * 16 + d < 16 ^ (i + 1)
hex_fits_more i n d small digit = rw (add-one, pow-suc) (omega arith)

-- a text with a byte that is no digit is no number
pub not_digit_at : (bs : List ℕ) (n i : ℕ) → i < length bs → bs ≡ hex_text (length bs) n → Reads (λ d. d < 16) hex_digit (get_or bs i 0) None → ⊥
not_digit_at bs n i lt same no_digit =
    let digit = hex_text_at (length bs) n i lt in
    let wrong = no_digit.only digit.0 digit.1 (ap (λ ds. get_or ds i 0) same ∙ digit.2) in
    none-some digit.0 wrong

-- the number read so far, with one byte more
pub hex_read_more : (bs : List ℕ) (i n d : ℕ) → i < length bs → take i bs ≡ hex_text i n → (d < 16) × (get_or bs i 0 ≡ hex_digit d) → take (i + 1) bs ≡ hex_text (i + 1) (n * 16 + d)
hex_read_more bs i n d lt so_far here = take_more bs i 0 lt ∙ rw (so_far, here.1, add-one) (sym (hex_text_more i n d here.0))

pub hex_lacks : (c k n : ℕ) → c < 48 → Lacks c (hex_text k n)
hex_lacks c k n low i lt e =
    let digit = hex_text_at k n i (omega (arith, length-hex_text k n)) in
    omega (arith, hex_digit_above digit.0, digit.2, e)

pub hex_lacks_space : (k n : ℕ) → Lacks 32 (hex_text k n)
hex_lacks_space k n = hex_lacks 32 k n (omega arith)

-- a word is four bytes
pub hex_text_bytes : (v : ℕ) → v < 2 ^ 32 → hex_text 2 (v / 16777216) ++ (hex_text 2 (v / 65536 % 256) ++ (hex_text 2 (v / 256 % 256) ++ hex_text 2 (v % 256))) ≡ hex_text 8 v
hex_text_bytes v small =
    let a : v / 16777216 / 16 % 16 ≡ v / 16 / 16 / 16 / 16 / 16 / 16 / 16 % 16 = omega arith in
    let b : v / 16777216 % 16 ≡ v / 16 / 16 / 16 / 16 / 16 / 16 % 16 = omega arith in
    let c : v / 65536 % 256 / 16 % 16 ≡ v / 16 / 16 / 16 / 16 / 16 % 16 = omega arith in
    let d : v / 65536 % 256 % 16 ≡ v / 16 / 16 / 16 / 16 % 16 = omega arith in
    let e : v / 256 % 256 / 16 % 16 ≡ v / 16 / 16 / 16 % 16 = omega arith in
    let f : v / 256 % 256 % 16 ≡ v / 16 / 16 % 16 = omega arith in
    let g : v % 256 / 16 % 16 ≡ v / 16 % 16 = omega arith in
    let h : v % 256 % 16 ≡ v % 16 = omega arith in
    rw (a, b, c, d, e, f, g, h) refl

-- what `{:02x}` writes of a byte
pub byte_shown : (d : _) (s : _) (b : ℕ) → b < 256 → s ≡ format_spec 32 0 4 2 (2 ^ 64 - 1) → digits_output d ≡ Some (digits 16 false b) → styled_digits_output d s ≡ Some (hex_text 2 b)
byte_shown d s b small is shown =
    let e : b / 16 ≡ b / 16 % 16 = omega arith in
    rw (is, shown) (ap (λ bs. Some bs) (hex_byte false b small ∙ ap (λ m. hex_digit m ∷ hex_digit (b % 16) ∷ []) e))
