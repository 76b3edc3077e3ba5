use Rattle.std.specs.Prelude.{◌≡◌, ℕ, ◌⊎◌, ◌↔◌, None, Some}
use Rattle.m161_isa.specs.declared.table.Row.{Row}
use Rattle.m161_isa.specs.declared.instr.Instr.TheVariants.{Reserved}
use Rattle.m161_isa.specs.Table.{Fits, FitsNone, row_that_fits, IsCanonical}
use Rattle.m161_isa.specs.Instr.{instr_of, word_of}

-- no word fits two rows
abbrev pub OneRow : Type 0
OneRow = (word : ℕ) (r s : Row) → Fits word r → Fits word s → r ≡ s

-- the row that is found for a word is the one that it fits; if none is found, it fits no row
abbrev pub FindsTheRow : Type 0
FindsTheRow =
    (word : ℕ) → ((r : Row) → (row_that_fits word ≡ Some r) ↔ Fits word r)
    × (row_that_fits word ≡ None → FitsNone word)

-- a canonical or a reserved word is the word of its instruction
abbrev pub ComesBack : Type 0
ComesBack =
    (word : ℕ) → IsCanonical word ⊎ (instr_of word ≡ Reserved word) → word_of (instr_of word) ≡ word

-- the word of a word's instruction decodes to that instruction again
abbrev pub DecodesAgain : Type 0
DecodesAgain = (word : ℕ) → instr_of (word_of (instr_of word)) ≡ instr_of word
