use Rattle.std.specs.Prelude.{ℕ, ◌+◌, ◌-◌, ◌^◌, ◌<◌, ◌≤◌, Bool, true, false, ◌==◌, ◌&&◌, ◌||◌, nat_lt, List, [], ◌∷◌, ◌++◌, length, take, Some, codes, decimal, bytes_eq}
use Rattle.std.specs.Char.{is_ascii_digit}
use Rattle.std.specs.List.{list_all}
use Rattle.std.proofs.Common.{◌≡◌, suc, refl, ap, sym, subst, arith}
use Rattle.std.proofs.lemmas.Bool.Decides.{Decides-eqb, nat_tests}
use Rattle.m161_isa.specs.declared.table.Row.{Row}
use Rattle.m161_isa.specs.declared.table.Row.TheVariants as rows
use Rattle.m161_isa.specs.declared.operand.Operand.{Operand}
use Rattle.m161_isa.specs.declared.operand.Operand.TheVariants as operand
use Rattle.m161_isa.specs.Table.{table, width_of, number_of}
use Rattle.m161_isa.specs.Address.{branch_target, jump_target}
use Rattle.m161_asm.specs.Tokens.{Name, Number, lexeme, beginning, begins_name, AName, ANumber, Beginning, continues_name, number_from, number_of_literal, numeral}
use Rattle.m161_text.proofs.Decimal.{short_at_most}
use Rattle.m161_dis.proofs.Pieces.{Piece, IsPiece, Sound, text_of, starts_apart, run-word, words_clean, blank, comma_piece, open_piece, close_piece, minus_piece}
use Rattle.m161_dis.proofs.Numerals.{Decimal, decimal_is, below, register_piece, hex4_piece, hex8_piece}
use Rattle.m161_dis.proofs.Operands.{operand_pieces, signed_pieces}
use Rattle.m161_dis.proofs.Reading.{pieces_of, lead_pieces, number_small}
use Rattle.std.proofs.lemmas.Bool.{and_parts}

-- The pieces of an instruction are pieces.

word_if : (x d : Bool) → d ≡ true → (x || d) ≡ true
word_if true d e = refl
word_if false d e = e

all_words : (ds : List ℕ) → list_all is_ascii_digit ds ≡ true → list_all continues_name ds ≡ true
all_words [] h = refl
all_words (b ∷ bs) h =
    elim (is_ascii_digit b) as
    (λ d. is_ascii_digit b ≡ d → (d && list_all is_ascii_digit bs) ≡ true
    → list_all continues_name (b ∷ bs) ≡ true) [
      | true ↦ λ e f. rw (word_if (begins_name b) (is_ascii_digit b) e) (all_words bs f)
      | false ↦
          λ e f. cc
    ] refl h

not_x : (c : ℕ) → is_ascii_digit c ≡ true → (c == 120) ≡ false
not_x c d =
    elim (c == 120) as
    (λ x. (c == 120) ≡ x → x ≡ false) [
      | true ↦ λ e. let q : c ≡ 120 = (Decides-eqb c 120).0 e in
          let d' : is_ascii_digit 120 ≡ true = subst (λ x. is_ascii_digit x ≡ true) q d in
          cc
      | false ↦ λ e. refl
    ] refl

-- digits don't begin with `0x`
no_prefix : (ds : List ℕ) → list_all is_ascii_digit ds ≡ true
    → bytes_eq (take 2 ds) (codes "0x") ≡ false
no_prefix [] h = refl
no_prefix (b ∷ []) h = elim (b == 48) as (λ x. (x && false) ≡ false) [ true ↦ refl | false ↦ refl ]
no_prefix (b ∷ c ∷ cs) h =
    let d : is_ascii_digit c
    ≡ true = (and_parts (is_ascii_digit c) (list_all is_ascii_digit cs)
    (and_parts (is_ascii_digit b) (list_all is_ascii_digit (c ∷ cs)) h).1).0 in
    let e : (c == 120) ≡ false = not_x c d in
    rw e (elim (b == 48) as (λ x. (x && false) ≡ false) [ true ↦ refl | false ↦ refl ])

abbrev is_a_number : Beginning → Bool
is_a_number ANumber = true
is_a_number _ = false

a_number : (b : Beginning) → is_a_number b ≡ true → b ≡ ANumber
a_number ANumber e = refl
a_number _ e = cc

begins : (d : ℕ) → d < 10 → beginning (48 + d) ≡ ANumber
unfolding beginning
begins d h = a_number _ (below (λ d. is_a_number (beginning (48 + d))) 10 d refl h)

number_piece : (n first : ℕ) (others : List ℕ) → first < 10
    → list_all is_ascii_digit ((48 + first) ∷ others) ≡ true
    → number_from 10 0 ((48 + first) ∷ others) ≡ Some n → length ((48 + first) ∷ others) ≤ 10
    → IsPiece ((48 + first) ∷ others, Some (Number n))
unfolding lexeme number_of_literal numeral
number_piece n first others small all read few = (
  omega arith,
  words_clean ((48 + first) ∷ others) (all_words ((48 + first) ∷ others) all),
  λ rest f.
      let r = run-word others rest
      (all_words others
      (and_parts (is_ascii_digit (48 + first)) (list_all is_ascii_digit others) all).1) f in
      let p = no_prefix ((48 + first) ∷ others) all in
      let l : nat_lt 10 (suc (length others)) ≡ false = grind (arith, nat_tests) in
      let z : (suc (length others) == 0) ≡ false = grind (arith, nat_tests) in
      let w : 1 + length others ≡ suc (length others) = omega arith in
      rw (begins first small, r, p, z, l, read) (ap (λ x. (Some (Number n), x)) w),
)

decimal_by : (n : ℕ) (ds : List ℕ) → Decimal n ds → length ds ≤ 10 → IsPiece (ds, Some (Number n))
decimal_by n ds d l =
    let all : list_all is_ascii_digit ((48 + d.first) ∷ d.others)
    ≡ true = subst (λ x. list_all is_ascii_digit x ≡ true) d.whole d.digits_all in
    let read : number_from 10 0 ((48 + d.first) ∷ d.others)
    ≡ Some n = subst (λ x. number_from 10 0 x ≡ Some n) d.whole d.read in
    let few : length ((48 + d.first) ∷ d.others) ≤ 10 = subst (λ x. length x ≤ 10) d.whole l in
    let P : List ℕ → Type 0 = λ x. IsPiece (x, Some (Number n)) in
    subst P (sym d.whole) (number_piece n d.first d.others d.small all read few)

pub decimal_piece : (n : ℕ) → n < 2 ^ 32 → IsPiece (decimal n, Some (Number n))
decimal_piece n h = decimal_by n (decimal n) (decimal_is n h) (short_at_most n h)

-- the pieces of operands
signed_sound : (b : Bool) (n : ℕ) (more : List Piece) → nat_lt n 0x8000 ≡ b → n < 2 ^ 16
    → starts_apart (text_of more) ≡ true → Sound more → Sound (signed_pieces b n ++ more)
signed_sound true n more t h a s = (decimal_piece n (omega arith), a, s)
signed_sound false n more t h a s =
    (minus_piece, tt, (decimal_piece (0x10000 - n) (omega arith), a, s))

operand_sound : (o : Operand) (at n : ℕ) (more : List Piece) → n < 2 ^ width_of o
    → starts_apart (text_of more) ≡ true → Sound more → Sound (operand_pieces at o n ++ more)
operand_sound operand.Rd at n more h a s = (register_piece n h, a, s)
operand_sound operand.Rs at n more h a s = (register_piece n h, a, s)
operand_sound operand.Rt at n more h a s = (register_piece n h, a, s)
operand_sound operand.Cop0 at n more h a s = (register_piece n h, a, s)
operand_sound operand.Amount at n more h a s = (decimal_piece n (omega arith), a, s)
operand_sound operand.Signed at n more h a s = signed_sound (nat_lt n 0x8000) n more refl h a s
operand_sound operand.Offset at n more h a s = signed_sound (nat_lt n 0x8000) n more refl h a s
operand_sound operand.Unsigned at n more h a s = (hex4_piece n h, a, s)
operand_sound operand.Base at n more h a s =
    (open_piece, tt, (register_piece n h, refl, (close_piece, tt, s)))
operand_sound operand.Branch at n more h a s = (hex8_piece (branch_target at n) (omega arith), a, s)
operand_sound operand.Jump at n more h a s = (hex8_piece (jump_target at n) (omega arith), a, s)

lead_sound : (first : Bool) (o : Operand) (more : List Piece) → Sound more
    → Sound (lead_pieces first o ++ more)
lead_sound true operand.Base more s = s
lead_sound false operand.Base more s = s
lead_sound true _ more s = (blank, tt, s)
lead_sound false _ more s = (comma_piece, tt, (blank, tt, s))

pub apart : (os : List Operand) (first : Bool) (at word : ℕ)
    → starts_apart (text_of (pieces_of at word first os)) ≡ true
apart [] first at word = refl
apart (operand.Base ∷ os) first at word = refl
apart (operand.Rd ∷ os) true at word = refl
apart (_ ∷ os) true at word = refl
apart (_ ∷ os) false at word = refl

pub pieces_sound : (os : List Operand) (first : Bool) (at word : ℕ)
    → Sound (pieces_of at word first os)
pieces_sound [] first at word = tt
pieces_sound (o ∷ os) first at word =
    lead_sound first o _
    (operand_sound o at (number_of word o) (pieces_of at word false os) (number_small word o)
    (apart os false at word) (pieces_sound os false at word))

-- the names of rows
named : (b : ℕ) (bs : List ℕ) → beginning b ≡ AName → list_all continues_name (b ∷ bs) ≡ true
    → list_all continues_name bs ≡ true → IsPiece (b ∷ bs, Some (Name (b ∷ bs)))
unfolding lexeme
named b bs e g h = (
  omega arith,
  words_clean (b ∷ bs) g,
  λ rest f.
      let r = run-word bs rest h f in
      let w : 1 + length bs ≡ suc (length bs) = omega arith in
      rw (e, r) (ap (λ x. (Some (Name (b ∷ bs)), x)) w),
)

pub name_piece : (r : Row) → IsPiece ((table r).name, Some (Name (table r).name))
unfolding beginning
name_piece rows.Sll = named _ _ refl refl refl
name_piece _ = named _ _ refl refl refl
