use Rattle.std.specs.Prelude.{◌≡◌, ◌%◌, false, ◌+◌, ◌*◌, ◌^◌, ◌≤◌, ◌<◌, List, [], ◌∷◌}
use Rattle.m161_isa.specs.declared.operand.Operand.{Operand}
use Rattle.m161_isa.specs.Table.{table, width_of}
use Rattle.m161_asm.specs.Lines.{Part, Field, BranchTo, JumpTo, Statement, Origin, Code, SourceLine, size_of}
use Rattle.m161_asm.specs.Text.{address_below, count_words, segments_in, is_filled}

-- Facts about lines that were read, which the second pass uses.

-- the number of a part fits the operand's field
abbrev pub IsPart : Operand → Part → Type 0
IsPart o (Field n) = n < 2 ^ width_of o
IsPart o (BranchTo v) = 2 ^ 16 ≤ 2 ^ width_of o
IsPart o (JumpTo v) = 2 ^ 26 ≤ 2 ^ width_of o

abbrev pub AreParts : List Operand → List Part → Type 0
AreParts [] [] = Unit {0}
AreParts (o ∷ os) (p ∷ ps) = IsPart o p × AreParts os ps
AreParts _ _ = ⊥

abbrev pub IsStatement : Statement → Type 0
IsStatement (Origin n) = n % 4 ≡ 0
IsStatement (Code r ps) = AreParts (table r).operands ps
IsStatement _ = Unit {0}

-- a line that may follow these: its parts fit their fields, and no limit is exceeded
pub record HasPlace (above : List SourceLine) (l : SourceLine) : Type 0 where
  pub statement : IsStatement l.statement
  pub within : address_below above + 4 * size_of l.statement ≤ 2 ^ 32
  pub words : count_words (l ∷ above) ≤ 4194304
  pub segments : segments_in (l ∷ above) ≤ 1024
  pub free : is_filled above (address_below above) (size_of l.statement) ≡ false

abbrev pub Lawful : List SourceLine → Type 0
Lawful [] = Unit {0}
Lawful (l ∷ above) = HasPlace above l × Lawful above
