use Rattle.std.specs.Prelude.{Option, None, Some}
use Rattle.std.proofs.Common.{◌≡◌, ℕ, ap, sym, ◌∙◌}
use Rattle.m161_isa.specs.declared.table.Row.{Row}
use Rattle.m161_isa.specs.declared.instr.Instr.{Instr}
use Rattle.m161_isa.specs.Table.{row_that_fits, numbers_of}
use Rattle.m161_isa.specs.Instr.{row_of_instr, numbers_of_instr, instr_by, instr_of}
use Rattle.m161_isa.proofs.OneRow.{row_that_fits-is, row_that_fits-None}
use Rattle.m161_isa.proofs.InstrBy.{row_of_instr-instr_by, numbers_of_instr-instr_by}
use Rattle.m161_decode.specs.helpers.Decoded.{IsInstrOf, IsInstrOfRow}

-- An instruction that stands for a word is the word's own.

meant_by : (word : ℕ) (i : Instr) (o : Option Row) → IsInstrOfRow word i o → i ≡ instr_of word
meant_by word i None (none, e) = e ∙ ap (instr_by word) (sym (row_that_fits-None word none))
meant_by word i (Some r) (h, e) = e ∙ ap (instr_by word) (sym (row_that_fits-is word r h))

pub meant : (word : ℕ) (i : Instr) → IsInstrOf word i → i ≡ instr_of word
meant word i h = meant_by word i (row_of_instr i) h

pub meant_row : (word : ℕ) (i : Instr) → IsInstrOf word i → row_of_instr i ≡ row_that_fits word
meant_row word i h =
    ap row_of_instr (meant word i h) ∙ row_of_instr-instr_by word (row_that_fits word)

pub meant_numbers : (word : ℕ) (i : Instr) → IsInstrOf word i
    → numbers_of_instr i ≡ numbers_of word (row_that_fits word)
meant_numbers word i h =
    ap numbers_of_instr (meant word i h) ∙ numbers_of_instr-instr_by word (row_that_fits word)
