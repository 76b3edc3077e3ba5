use Rattle.std.specs.Prelude.{◌≡◌, ℕ, Option, None, Some}
use Rattle.m161_isa.specs.declared.table.Row.{Row}
use Rattle.m161_isa.specs.declared.instr.Instr.{Instr}
use Rattle.m161_isa.specs.Table.{Fits, FitsNone, absent_in}
use Rattle.m161_isa.specs.Instr.{row_of_instr, instr_by, misfit}

-- The instruction is that of the word, as a relation that each arm of the decoder satisfies by
-- itself.

-- the word fits the instruction's row and has its operands; or it fits no row, and the instruction
-- is the one for its opcode
abbrev pub IsInstrOfRow : ℕ → Instr → Option Row → Type 0
IsInstrOfRow word i (Some r) = Fits word r × (i ≡ instr_by word (Some r))
IsInstrOfRow word i None = FitsNone word × (i ≡ misfit word (absent_in word))

abbrev pub IsInstrOf : ℕ → Instr → Type 0
IsInstrOf word i = IsInstrOfRow word i (row_of_instr i)
