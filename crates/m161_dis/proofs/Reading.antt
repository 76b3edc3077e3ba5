use Rattle.std.specs.Prelude.{ℕ, ◌+◌, ◌-◌, ◌%◌, ◌^◌, ◌<◌, Bool, true, false, cond, nat_lt, List, [], ◌∷◌, ◌++◌, map, None, Some, Result, Ok, Err, codes, decimal}
use Rattle.std.proofs.Common.{◌≡◌, refl, ap, sym, ◌∙◌, arith}
use mathlib.Core.List.{append_assoc}
use Rattle.m161_isa.specs.declared.table.Row.{Row}
use Rattle.m161_isa.specs.declared.table.Row.TheVariants as rows
use Rattle.m161_isa.specs.declared.operand.Operand.{Operand}
use Rattle.m161_isa.specs.declared.operand.Operand.TheVariants as operand
use Rattle.m161_isa.specs.Table.{table, width_of, number_of}
use Rattle.m161_dis.specs.declared.naming.Naming.TheVariants.{Numbers}
use Rattle.m161_dis.specs.Canon.{lead_of, operand_text, operands_text}
use Rattle.m161_asm.specs.Tokens.{Mark}
use Rattle.m161_asm.specs.Lines.{◌>>=◌, SourceFault, Part, operand_parts, comma_and_part, row_named}
use Rattle.m161_asm.specs.Text.{field_of, each}
use Rattle.m161_dis.proofs.Pieces.{Piece, laid, text_of}
use Rattle.m161_dis.proofs.Operands.{IsRead, operand_pieces, signed_pieces, part_read}

-- The operands of a row, from text to fields.

abbrev pub lead_pieces : Bool → Operand → List Piece
lead_pieces first operand.Base = []
lead_pieces true _ = (codes " ", None) ∷ []
lead_pieces false _ = (codes ",", Some (Mark 44)) ∷ (codes " ", None) ∷ []

abbrev pub pieces_of : ℕ → ℕ → Bool → List Operand → List Piece
pieces_of at word first [] = []
pieces_of at word first (o ∷ os) =
    lead_pieces first o ++ (operand_pieces at o (number_of word o) ++ pieces_of at word false os)

separated_read : (first : Bool) (o : Operand) (at n past column : ℕ) (more : List Piece)
    → at < 2 ^ 32 → at % 4 ≡ 0 → n < 2 ^ width_of o
    → IsRead at n
    (comma_and_part first o past
    (laid column (lead_pieces first o ++ (operand_pieces at o n ++ more)))) more
separated_read true operand.Base at n past column more h w k =
    part_read operand.Base at n past column more h w k
separated_read false operand.Base at n past column more h w k =
    part_read operand.Base at n past column more h w k
separated_read true o at n past column more h w k = part_read o at n past (column + 1) more h w k
separated_read false o at n past column more h w k =
    part_read o at n past (column + 1 + 1) more h w k

pub number_small : (word : ℕ) (o : Operand) → number_of word o < 2 ^ width_of o
number_small word operand.Rd = omega arith
number_small word _ = omega arith

each_cons : (f : Part → Result ℕ SourceFault) (read : Result (List Part) SourceFault) (p : Part) (n : ℕ)
    (ns : List ℕ) → f p ≡ Ok n → (read >>= each f) ≡ Ok ns
    → ((read >>= λ xs. Ok (p ∷ xs)) >>= each f) ≡ Ok (n ∷ ns)
each_cons f (Ok xs) p n ns e d = rw (e, d) refl
each_cons f (Err x) p n ns e d = cc

pub parts_read : (os : List Operand) (first : Bool) (word at past column : ℕ) → at < 2 ^ 32
    → at % 4 ≡ 0
    → (operand_parts first os past (laid column (pieces_of at word first os)) >>= each (field_of [] at))
    ≡ Ok (map (number_of word) os)
unfolding operand_parts
parts_read [] first word at past column h w = refl
parts_read (o ∷ os) first word at past column h w =
    let r = separated_read first o at (number_of word o) past column
    (pieces_of at word false os) h w (number_small word o) in
    let more = parts_read os false word at past r.column h w in
    rw r.reads (each_cons (field_of [] at) _ r.part (number_of word o) _ r.field more)

-- the text of the pieces
signed_spelled : (b : Bool) (n : ℕ) (more : List Piece)
    → text_of (signed_pieces b n ++ more)
    ≡ (cond b (decimal n) (codes "-" ++ decimal (0x10000 - n))) ++ text_of more
signed_spelled true n more = refl
signed_spelled false n more = refl

operand_spelled : (o : Operand) (at n : ℕ) (more : List Piece)
    → text_of (operand_pieces at o n ++ more) ≡ operand_text Numbers at o n ++ text_of more
operand_spelled operand.Signed at n more = signed_spelled (nat_lt n 0x8000) n more
operand_spelled operand.Offset at n more = signed_spelled (nat_lt n 0x8000) n more
operand_spelled operand.Base at n more =
    ap (λ x. 40 ∷ 36 ∷ x) (sym (append_assoc (decimal n) (41 ∷ []) (text_of more)))
operand_spelled operand.Rd at n more = refl
operand_spelled _ at n more = refl

abbrev pub lead_text : Bool → List ℕ
lead_text true = codes " "
lead_text false = codes ", "

lead_spelled : (first : Bool) (o : Operand) (more : List Piece)
    → text_of (lead_pieces first o ++ more) ≡ lead_of o (lead_text first) ++ text_of more
lead_spelled true operand.Base more = refl
lead_spelled false operand.Base more = refl
lead_spelled true operand.Rd more = refl
lead_spelled true _ more = refl
lead_spelled false _ more = refl

pub operands_spelled : (os : List Operand) (first : Bool) (word at : ℕ)
    → text_of (pieces_of at word first os) ≡ operands_text Numbers word at (lead_text first) os
operands_spelled [] first word at = refl
operands_spelled (o ∷ os) first word at =
    lead_spelled first o (operand_pieces at o (number_of word o) ++ pieces_of at word false os)
    ∙ ap (λ x. lead_of o (lead_text first) ++ x)
    (operand_spelled o at (number_of word o) (pieces_of at word false os)
    ∙ ap (λ x. operand_text Numbers at o (number_of word o) ++ x) (operands_spelled os false word at))
    ∙ sym (append_assoc (lead_of o (lead_text first)) (operand_text Numbers at o (number_of word o)) _)

-- the names of the rows
pub row_named-name : (r : Row) → row_named (table r).name ≡ Some r
unfolding row_named
row_named-name rows.Sll = refl
row_named-name _ = refl
