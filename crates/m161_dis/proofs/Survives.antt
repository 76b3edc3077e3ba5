use Rattle.std.specs.Prelude.{ℕ, ◌+◌, ◌-◌, ◌*◌, ◌%◌, ◌^◌, ◌<◌, Bool, true, false, not, ◌==◌, ◌||◌, cond, nat_lt, List, [], ◌∷◌, ◌++◌, length, Option, None, Some, Result, Ok, Err, codes, bytes_eq}
use Rattle.std.proofs.Common.{◌≡◌, refl, ap, sym, ◌∙◌, subst, arith}
use Rattle.std.proofs.lemmas.Bool.Decides.{Decides-eqb, nat_tests}
use Rattle.m161_isa.specs.declared.table.Row.{Row}
use Rattle.m161_isa.specs.declared.table.Row.TheVariants as rows
use Rattle.m161_isa.specs.declared.operand.Operand.{Operand}
use Rattle.m161_isa.specs.declared.operand.Operand.TheVariants as operand
use Rattle.m161_isa.specs.Table.{table, row_that_fits, number_of, numbers_of, word_with}
use Rattle.m161_dis.specs.declared.naming.Naming.TheVariants.{Numbers}
use Rattle.m161_dis.specs.Canon.{canon_by, canonical_row, canonical_by, data_text, hex_number, instruction_text}
use Rattle.m161_asm.specs.Tokens.{Name, Directive, Number, Placed, tokens, tokens_from, lexeme, beginning, is_letter}
use Rattle.std.specs.Char.{is_ascii_digit}
use Rattle.std.specs.List.{prefix_len}
use Rattle.m161_asm.specs.Lines.{◌>>=◌, SourceFault, is_within, bits_of_whole, Part, Statement, Words, Code, label_of, sound, past_of, SourceLine, line_column, size_of, statement, directive_statement, values, operand_parts, row_named}
use Rattle.m161_asm.specs.Text.{line_of, line_in_place, is_filled, address_below, symbols_in, words_of_statement, word_of_value, number_by, field_of, each}
use Rattle.m161_dis.specs.Law.{origin, stands_for, SurvivesDisassembling}
use Rattle.m161_dis.proofs.Pieces.{Piece, IsPiece, Sound, starts_apart, laid, text_of, tokens-pieces, sound-laid, blank}
use Rattle.m161_dis.proofs.Numerals.{hex8_piece}
use Rattle.m161_dis.proofs.Operands.{signed_pieces}
use Rattle.m161_dis.proofs.Reading.{pieces_of, parts_read, operands_spelled, row_named-name}
use Rattle.m161_dis.proofs.Spelled.{pieces_sound, apart, name_piece}

-- A word's text stands for the word at its address.

-- a line of one word has its place behind the `.org`
placed_alone : (at : ℕ) (l : SourceLine) → size_of l.statement ≡ 1 → l.label ≡ None → at < 2 ^ 32
    → at % 4 ≡ 0 → line_in_place (origin at) l ≡ Ok l
unfolding line_in_place is_filled address_below
placed_alone at l e n h w =
    let t : nat_lt (2 ^ 32) (at + 4 * 1) ≡ false = grind (arith, nat_tests) in
    rw (e, n, t) refl

-- a line of one word, with no label
pub stands_by : (at : ℕ) (ts : List Placed) (s : Statement) → sound ts ≡ Ok tt
    → label_of ts ≡ (None, ts) → statement (past_of ts) ts ≡ Ok s → size_of s ≡ 1 → at < 2 ^ 32
    → at % 4 ≡ 0
    → (line_of (origin at) ts
    >>= λ l. words_of_statement (symbols_in (l ∷ origin at)) at l.statement)
    ≡ words_of_statement [] at s
unfolding line_of symbols_in
stands_by at ts s a b c e h w =
    let l : SourceLine = record { label = None; statement = s; column = line_column ts ts } in
    let p = placed_alone at l e refl h w in
    rw (a, b, c, p) refl

-- no label stands before an instruction
label_signed : (t : Bool) (x : List ℕ) (c e d n : ℕ) (more : List Piece)
    → label_of ((Name x, c, e) ∷ laid d (signed_pieces t n ++ more))
    ≡ (None, (Name x, c, e) ∷ laid d (signed_pieces t n ++ more))
label_signed true x c e d n more = refl
label_signed false x c e d n more = refl

no_label : (os : List Operand) (x : List ℕ) (c e d at word : ℕ)
    → label_of ((Name x, c, e) ∷ laid d (pieces_of at word true os))
    ≡ (None, (Name x, c, e) ∷ laid d (pieces_of at word true os))
no_label [] x c e d at word = refl
no_label (operand.Signed ∷ os) x c e d at word =
    label_signed (nat_lt (number_of word operand.Signed) 0x8000) x c e (d + 1)
    (number_of word operand.Signed) (pieces_of at word false os)
no_label (operand.Offset ∷ os) x c e d at word =
    label_signed (nat_lt (number_of word operand.Offset) 0x8000) x c e (d + 1)
    (number_of word operand.Offset) (pieces_of at word false os)
no_label (operand.Rd ∷ os) x c e d at word = refl
no_label (_ ∷ os) x c e d at word = refl

not_nop : (r : Row) → bytes_eq (table r).name (codes "nop") ≡ false
not_nop rows.Sll = refl
not_nop _ = refl

-- the operands that were read, as the word
coded : (r : Row) (at : ℕ) (ns : List ℕ) (read : Result (List Part) SourceFault)
    → (read >>= each (field_of [] at)) ≡ Ok ns
    → (xs : List Part) × (read ≡ Ok xs)
    × (words_of_statement [] at (Code r xs) ≡ Ok (word_with r ns ∷ []))
unfolding words_of_statement
coded r at ns (Ok xs) e = (xs, refl, rw e refl)
coded r at ns (Err x) e = cc

named_statement : (past : ℕ) (x : List ℕ) (c e : ℕ) (ts : List Placed) (r : Row) (xs : List Part)
    → bytes_eq x (codes "nop") ≡ false → row_named x ≡ Some r
    → operand_parts true (table r).operands past ts ≡ Ok xs
    → statement past ((Name x, c, e) ∷ ts) ≡ Ok (Code r xs)
unfolding statement
named_statement past x c e ts r xs a b d = rw (a, b, d) refl

row_text : (word at : ℕ) (r : Row)
    → stands_for at (instruction_text Numbers word at r)
    ≡ stands_for at
    (text_of (((table r).name, Some (Name (table r).name))
    ∷ pieces_of at word true (table r).operands))
row_text word at r =
    ap (λ x. stands_for at ((table r).name ++ x))
    (sym (operands_spelled (table r).operands true word at))

pub row_stands : (word at : ℕ) (r : Row) → at < 2 ^ 32 → at % 4 ≡ 0
    → stands_for at (instruction_text Numbers word at r) ≡ Ok (word_with r (numbers_of word (Some r)) ∷ [])
unfolding stands_for statement
row_stands word at r h w =
    let x = (table r).name in
    let ps = pieces_of at word true (table r).operands in
    let all : List Piece = (x, Some (Name x)) ∷ ps in
    let s : Sound all = (
      name_piece r,
      apart (table r).operands true at word,
      pieces_sound
          (table r).operands true at word,
    ) in
    let d = 1 + length x in
    let ts : List Placed = (Name x, 1, d) ∷ laid d ps in
    let past = past_of ts in
    let (xs, read, meant) = coded r at _ (operand_parts true (table r).operands past (laid d ps))
    (parts_read (table r).operands true word at past d h w) in
    let stmt : statement past ts
    ≡ Ok (Code r xs) = named_statement past x 1 d (laid d ps) r xs (not_nop r)
    (row_named-name r) read in
    row_text word at r
    ∙ ap (λ t. line_of (origin at) t
    >>= λ l. words_of_statement (symbols_in (l ∷ origin at)) at l.statement)
    (tokens-pieces all s)
    ∙ stands_by at ts (Code r xs) (sound-laid 1 all s)
    (no_label (table r).operands x 1 d d at word) stmt refl h w
    ∙ meant

-- `nop`
nop_stands : (at : ℕ) → at < 2 ^ 32 → at % 4 ≡ 0 → stands_for at (codes "nop") ≡ Ok (0 ∷ [])
unfolding stands_for statement tokens_from lexeme beginning words_of_statement word_of_value
    number_by
nop_stands at h w = stands_by at (tokens (codes "nop")) _ refl refl refl refl h w

-- `.word` and digits
letters_end : (rest : List ℕ) → starts_apart rest ≡ true → prefix_len is_letter rest ≡ 0
letters_end [] f = refl
letters_end (b ∷ bs) f =
    elim (is_letter b) as
    (λ x. not ((x || (b == 95)) || is_ascii_digit b) ≡ true
    → cond x (1 + prefix_len is_letter bs) 0 ≡ 0) [ true ↦ λ e. cc | false ↦ λ e. refl ] f

directive_piece : IsPiece (codes ".word", Some (Directive (codes "word")))
unfolding lexeme beginning
directive_piece = (omega arith, refl, λ rest f. rw (letters_end rest f) refl)

word_plain : (word c : ℕ) → word < 2 ^ 32
    → word_of_value [] (record { label = None; number = (word, 0); column = c }) ≡ Ok word
unfolding word_of_value number_by
word_plain word c k =
    let t : is_within (2 ^ 31) (2 ^ 32 - 1) (word, 0) ≡ true = grind (arith, nat_tests) in
    let b : bits_of_whole 32 (word, 0) ≡ word = omega arith in
    rw (t, b) refl

data_words : (word at : ℕ) → word < 2 ^ 32
    → words_of_statement [] at
    (Words (record { label = None; number = (word, 0); column = 7 } ∷ []))
    ≡ Ok (word ∷ [])
unfolding words_of_statement
data_words word at k = rw (word_plain word 7 k) refl

data_stands : (word at : ℕ) → word < 2 ^ 32 → at < 2 ^ 32 → at % 4 ≡ 0
    → stands_for at (data_text word) ≡ Ok (word ∷ [])
unfolding stands_for statement directive_statement values
data_stands word at k h w =
    let all : List Piece = (codes ".word", Some (Directive (codes "word"))) ∷ (codes " ", None)
    ∷ (hex_number 8 word, Some (Number word)) ∷ [] in
    let s : Sound all = (directive_piece, refl, (blank, tt, (hex8_piece word k, refl, tt))) in
    let ts : List Placed = (Directive (codes "word"), 1, 6) ∷ (Number word, 7, 17) ∷ [] in
    ap (λ t. line_of (origin at) t
    >>= λ l. words_of_statement (symbols_in (l ∷ origin at)) at l.statement)
    (tokens-pieces all s)
    ∙ stands_by at ts
    (Words (record { label = None; number = (word, 0); column = 7 } ∷ [])) refl refl refl refl h
    w
    ∙ data_words word at k

-- the row of a canonical word has the word
canonical_word_by : (word : ℕ) (r : Row) (o : Option Row) → canonical_by word o ≡ Some r
    → word_with r (numbers_of word (Some r)) ≡ word
canonical_word_by word r None e = cc
canonical_word_by word r (Some q) e =
    elim (word == word_with q (numbers_of word (Some q))) as
    (λ b. (word == word_with q (numbers_of word (Some q))) ≡ b → cond b (Some q) None ≡ Some r
    → word_with r (numbers_of word (Some r)) ≡ word) [
      | true ↦ λ t f. let d : q ≡ r = cc in
          let P : Row → Type 0 = λ x. word_with x (numbers_of word (Some x)) ≡ word in
          subst P d (sym ((Decides-eqb _ _).0 t))
      | false ↦ λ t f. cc
    ] refl e

canonical_word : (word : ℕ) (r : Row) → canonical_row word ≡ Some r
    → word_with r (numbers_of word (Some r)) ≡ word
unfolding canonical_row
canonical_word word r e = canonical_word_by word r (row_that_fits word) e

canon_stands : (word at : ℕ) (o : Option Row) → canonical_row word ≡ o → word < 2 ^ 32 → at < 2 ^ 32
    → at % 4 ≡ 0 → stands_for at (canon_by Numbers word at o) ≡ Ok (word ∷ [])
canon_stands word at None e k h w = data_stands word at k h w
canon_stands word at (Some r) e k h w =
    row_stands word at r h w ∙ ap (λ x. Ok (x ∷ [])) (canonical_word word r e)

pub survives : SurvivesDisassembling
survives word at k h w =
    elim (word == 0) as
    (λ b. (word == 0) ≡ b
    → stands_for at (cond b (codes "nop") (canon_by Numbers word at (canonical_row word)))
    ≡ Ok (word ∷ [])) [
      | true ↦ λ t. let z : word ≡ 0 = (Decides-eqb word 0).0 t in
          let P : ℕ → Type 0 = λ x. stands_for at (codes "nop") ≡ Ok (x ∷ []) in
          subst P (sym z) (nop_stands at h w)
      | false ↦ λ t. canon_stands word at
          (canonical_row word) refl k h w
    ] refl
