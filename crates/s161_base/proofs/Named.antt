use Rattle.std.proofs.Common.{◌≡◌, ◌∙◌, ℕ, suc, ◌<◌, ◌≤◌, false, List, [], ◌∷◌, ◌++◌, length, get_or, encode_utf8, inl, inr, refl, sym, ap, ap₂, arith, append-nil}
use Rattle.std.proofs.lemmas.Bool.{cases_lt, le-ltb, ne_eqb}
use Rattle.std.proofs.lemmas.Grind.{flat_map-append}
use Rattle.std.proofs.lemmas.Str.{encode_ascii, inside_one}
use Rattle.s161_base.specs.FaultLines.{is_marked, shown_byte, shown_name}
use Rattle.s161_base.specs.helpers.FaultLines.{shown_char}

-- The name of a file in a fault's line, character by character.

unmarked : (b : ℕ) → 128 ≤ b → is_marked b ≡ false
unmarked b high =
    rw (le-ltb b 32 (omega arith), ne_eqb b 127 (λ e. omega arith), ne_eqb b 40 (λ e. omega arith), ne_eqb b 92 (λ e. omega arith))

plain : (b : ℕ) → 128 ≤ b → shown_byte b ≡ b ∷ []
plain b high = rw (unmarked b high)

-- bytes of 128 and more stay as they are
all_plain : (bs : List ℕ) → ((k : ℕ) → k < length bs → 128 ≤ get_or bs k 0) → shown_name bs ≡ bs
all_plain [] high = refl
all_plain (b ∷ bs) high =
    ap₂ (λ (front rest : List ℕ). front ++ rest) (plain b (high 0 (omega arith))) (all_plain bs (λ k below. high (suc k) (omega arith)))

-- so has each byte of a character that isn't ASCII
one_shown : (c : ℕ) → shown_name (encode_utf8 c) ≡ shown_char c
one_shown c = elim (cases_lt c 128) [
  | inl small ↦ rw (encode_ascii c small, append-nil)
  | inr big ↦
      let high : (k : ℕ) → k < length (encode_utf8 c) → 128 ≤ get_or (encode_utf8 c) k 0 = λ k below. elim (cases_lt (get_or (encode_utf8 c) k 0) 128) [
        | inl low ↦ absurd (omega (arith, inside_one c [] (encode_utf8 c) k (sym (append-nil _)) below low))
        | inr h ↦ h
      ] in
      all_plain (encode_utf8 c) high ∙ sym (rw (unmarked c big))
]

-- a name's first character, and those after it
pub name_shown : (c : ℕ) (before rest : List ℕ) → before ≡ encode_utf8 c ++ rest → shown_name before ≡ shown_char c ++ shown_name rest
name_shown c before rest is =
    ap shown_name is ∙ flat_map-append shown_byte (encode_utf8 c) rest ∙ ap (λ l. l ++ shown_name rest) (one_shown c)
