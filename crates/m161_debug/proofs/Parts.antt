-- Parts of commands that are read.
use Rattle.std.proofs.Common.{◌≡◌, ◌≢◌, ◌∙◌, ◌↔◌, inl, inr, ℕ, zero, suc, ◌<◌, ◌≤◌, ◌^◌, List, ◌∷◌, ◌++◌, length, get_or, sym, ap, subst, arith, codes, decimal, Option, None, Some}
use Rattle.std.proofs.lemmas.Bool.Decides.{nat_tests}
use Rattle.std.proofs.lemmas.List.{append_cancel_left}
use Rattle.std.proofs.lemmas.Option.{none-some}
use Rattle.m161_text.specs.Parts.{◌␣◌, Lacks, IsByte, IsWord, Reads, hex_digit, hex_text}
use Rattle.m161_text.proofs.Decimal.{decimal_lacks_space}
use Rattle.m161_text.proofs.Hex.{hex_lacks_space, hex_text_at, length-hex_text}
use Rattle.m161_text.proofs.Parts.{cut_same, not_spaced}
use Rattle.m161_debug.specs.Commands.{AreParts, IsAddress, IsByteText, IsHex, IsNumber}
use Rattle.m161_debug.specs.helpers.Reading.{Finds}

-- a text that says nothing
pub says_nothing : {X : Type 0} {Says : X → List ℕ → Type 0} {text : List ℕ} → ((x : X) → Says x text → ⊥) → Finds Says text None
says_nothing none = record { found = tt; none = none }

pub number_found : (text : List ℕ) (r : Option ℕ) → Reads IsWord decimal text r → Finds IsNumber text r
number_found text None reads = says_nothing (λ n is. none-some n (reads.only n is.0 is.1))
number_found text (Some n) reads = record { found = reads.found; none = tt }

pub byte_found : (text : List ℕ) (r : Option ℕ) → Reads IsByte (hex_text 2) text r → Finds IsByteText text r
byte_found text None reads = says_nothing (λ n is. none-some n (reads.only n is.0 is.1))
byte_found text (Some n) reads = record { found = reads.found; none = tt }

-- a number and an address have no space

pub number_lacks : (n : ℕ) (text : List ℕ) → IsNumber n text → Lacks 32 text
number_lacks n text is = subst (Lacks 32) (sym is.1) (decimal_lacks_space n (omega (arith, is.0)))

two_more_lack : (a b : ℕ) (bs : List ℕ) → a ≢ 32 → b ≢ 32 → Lacks 32 bs → Lacks 32 (a ∷ b ∷ bs)
two_more_lack a b bs first second rest zero lt e = first e
two_more_lack a b bs first second rest (suc zero) lt e = second e
two_more_lack a b bs first second rest (suc (suc i)) lt e = rest i (omega arith) e

hex_lacks : (k n : ℕ) (text : List ℕ) → IsHex k n text → Lacks 32 text
hex_lacks k n text (inl is) = subst (Lacks 32) (sym is) (hex_lacks_space k n)
hex_lacks k n text (inr is) =
    subst (Lacks 32) (sym is) (two_more_lack 48 120 (hex_text k n) (λ e. omega (arith, e)) (λ e. omega (arith, e)) (hex_lacks_space k n))

pub address_lacks : (n : ℕ) (text : List ℕ) → IsAddress n text → Lacks 32 text
address_lacks n text is = hex_lacks is.0 n text is.4

-- two parts

pub no_cut : {X Y : Type 0} (S : X → List ℕ → Type 0) (T : Y → List ℕ → Type 0) (text : List ℕ) → Lacks 32 text → Finds (AreParts S T) text None
no_cut S T text lacks = says_nothing (λ v parts. not_spaced text parts.0 parts.1 lacks parts.4)

parts_of : {X Y : Type 0} (S : X → List ℕ → Type 0) (T : Y → List ℕ → Type 0) → ((x : X) (t : List ℕ) → S x t → Lacks 32 t)
    → (text a b : List ℕ) (v : X × Y) → Lacks 32 a × (text ≡ a ␣ b) → AreParts S T v text → S v.0 a × T v.1 b
parts_of S T lacks text a b v cut parts =
    let same = cut_same 32 parts.0 a parts.1 b (lacks v.0 parts.0 parts.2) cut.0 (sym parts.4 ∙ cut.1) in
    (subst (S v.0) same.0 parts.2, subst (T v.1) same.1 parts.3)

pub no_first : {X Y : Type 0} (S : X → List ℕ → Type 0) (T : Y → List ℕ → Type 0) → ((x : X) (t : List ℕ) → S x t → Lacks 32 t)
    → (text a b : List ℕ) → Lacks 32 a × (text ≡ a ␣ b) → Finds S a None → Finds (AreParts S T) text None
no_first S T lacks text a b cut finds = says_nothing (λ v parts. finds.none v.0 (parts_of S T lacks text a b v cut parts).0)

pub no_second : {X Y : Type 0} (S : X → List ℕ → Type 0) (T : Y → List ℕ → Type 0) → ((x : X) (t : List ℕ) → S x t → Lacks 32 t)
    → (text a b : List ℕ) → Lacks 32 a × (text ≡ a ␣ b) → Finds T b None → Finds (AreParts S T) text None
no_second S T lacks text a b cut finds = says_nothing (λ v parts. finds.none v.1 (parts_of S T lacks text a b v cut parts).1)

pub both : {X Y : Type 0} (S : X → List ℕ → Type 0) (T : Y → List ℕ → Type 0) (text a b : List ℕ) (x : X) (y : Y)
    → Lacks 32 a × (text ≡ a ␣ b) → Finds S a (Some x) → Finds T b (Some y) → Finds (AreParts S T) text (Some (x, y))
both S T text a b x y cut first second = record { found = (a, b, first.found, second.found, cut.1); none = tt }

-- addresses

pub x_is_no_digit : (k n : ℕ) (rest : List ℕ) → codes "0x" ++ rest ≡ hex_text k n → ⊥
x_is_no_digit k n rest same =
    let long : 2 ≤ k = omega (arith, ap length same, length-hex_text k n) in
    let digit = hex_text_at k n 1 (omega (arith, long)) in
    let is : 120 ≡ hex_digit digit.0 = ap (λ bs. get_or bs 1 0) same ∙ digit.2 in
    no_digit digit.0 digit.1 is
  where
    no_digit : (d : ℕ) → d < 16 → 120 ≡ hex_digit d → ⊥
    no_digit d small is = grind (arith, nat_tests)

-- with 0x before them
pub digits_behind : (text digits : List ℕ) (k n : ℕ) → text ≡ codes "0x" ++ digits → IsHex k n text ↔ (digits ≡ hex_text k n)
digits_behind text digits k n is = (there, λ same. inr (is ∙ ap (λ ds. codes "0x" ++ ds) same))
  where
    there : IsHex k n text → digits ≡ hex_text k n
    there (inl same) = absurd (x_is_no_digit k n digits (sym is ∙ same))
    there (inr same) = append_cancel_left (codes "0x") digits (hex_text k n) (sym is ∙ same)

-- and without
pub digits_alone : (text : List ℕ) (k n : ℕ) → ((rest : List ℕ) → text ≡ codes "0x" ++ rest → ⊥) → IsHex k n text ↔ (text ≡ hex_text k n)
digits_alone text k n none = (there, λ same. inl same)
  where
    there : IsHex k n text → text ≡ hex_text k n
    there (inl same) = same
    there (inr same) = absurd (none (hex_text k n) same)

-- the number of digits decides
pub address_read : (text digits : List ℕ) (r : Option ℕ) → ((k n : ℕ) → IsHex k n text ↔ (digits ≡ hex_text k n)) → 1 ≤ length digits → length digits ≤ 8
    → Reads (λ n. n < 16 ^ length digits) (hex_text (length digits)) digits r → Finds IsAddress text r
address_read text digits None is some few reads = says_nothing (λ n a.
    let same = (is a.0 n).0 a.4 in
    let long : a.0 ≡ length digits = sym (length-hex_text a.0 n) ∙ ap length (sym same) in
    let small : n < 16 ^ length digits = subst (λ k. n < 16 ^ k) long a.3 in
    none-some n (reads.only n small (same ∙ ap (λ k. hex_text k n) long)))
address_read text digits (Some n) is some few reads = record {
  found = (length digits, some, few, reads.found.0, (is (length digits) n).1 reads.found.1);
  none = tt;
}

pub no_address : (text digits : List ℕ) → ((k n : ℕ) → IsHex k n text ↔ (digits ≡ hex_text k n)) → (1 ≤ length digits → length digits ≤ 8 → ⊥) → Finds IsAddress text None
no_address text digits is other = says_nothing (λ n a.
    let same = (is a.0 n).0 a.4 in
    let long : a.0 ≡ length digits = sym (length-hex_text a.0 n) ∙ ap length (sym same) in
    other (omega (arith, long, a.1)) (omega (arith, long, a.2)))
