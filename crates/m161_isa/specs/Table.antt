use Rattle.std.specs.Prelude.{◌≡◌, ℕ, ◌+◌, ◌*◌, ◌/◌, ◌%◌, ◌^◌, ◌<◌, Bool, true, ◌==◌, ◌&&◌, ◌||◌, if◌then◌else◌, List, [], ◌∷◌, map, find, Option, None, Some, codes}
use Rattle.m161_isa.specs.Bits.{bits_of}
use Rattle.m161_isa.specs.declared.table.Row.{Row}
use Rattle.m161_isa.specs.declared.table.Row.TheVariants as rows
use Rattle.m161_isa.specs.declared.operand.Operand.{Operand}
use Rattle.m161_isa.specs.declared.operand.Operand.TheVariants as operand
use Rattle.m161_isa.specs.declared.effect.Effect.{Effect}
use Rattle.m161_isa.specs.declared.effect.Effect.TheVariants as effect
use Rattle.m161_isa.specs.declared.instr.Coprocessor.{Coprocessor}
use Rattle.m161_isa.specs.declared.instr.Coprocessor.TheVariants as coprocessor

-- The instruction table. Kane, MIPS RISC Architecture, "Opcode bit encoding"; `sync`, `ll` and `sc`
-- are MIPS II's, `wait` is System/161's.

-- the value that the field from bit `position` on, `width` bits wide, must have in the words of a
-- row
pub record Field : Type 0 where
  pub position : ℕ
  pub width : ℕ
  pub value : ℕ

-- a row's line of the table: its name, the fields of its words, its operands as the assembly text
-- has them, and its effect
pub record Columns : Type 0 where
  pub name : List ℕ
  pub fields : List Field
  pub operands : List Operand
  pub effect : Effect

abbrev columns : List ℕ → List Field → List Operand → Effect → Columns
columns name fields operands what = record {
  name = name;
  fields = fields;
  operands = operands;
  effect = what;
}

abbrev pub field : ℕ → ℕ → ℕ → Field
field position width value = record { position = position; width = width; value = value }

-- a row by its opcode
abbrev pub opcode : ℕ → List Field
opcode n = field 26 6 n ∷ []

-- a row of opcode 0, by its funct
abbrev pub special : ℕ → List Field
special n = field 26 6 0 ∷ field 0 6 n ∷ []

-- a row of opcode 1, by its rt
abbrev pub regimm : ℕ → List Field
regimm n = field 26 6 1 ∷ field 16 5 n ∷ []

-- a row of opcode 16, by its rs
abbrev pub cop0 : ℕ → List Field
cop0 n = field 26 6 16 ∷ field 21 5 n ∷ []

-- a row of opcode 16 with bit 25 set, by its funct
abbrev pub cop0_function : ℕ → List Field
cop0_function n = field 26 6 16 ∷ field 25 1 1 ∷ field 0 6 n ∷ []

-- the table: a row has its one line here, and the code's line is proved to be the same; so this one
-- can be read without the code
abbrev pub table : Row → Columns
table rows.Sll = columns (codes "sll") (special 0) (operand.Rd ∷ operand.Rt ∷ operand.Amount ∷ []) effect.ShiftLeft
table rows.Srl = columns (codes "srl") (special 2) (operand.Rd ∷ operand.Rt ∷ operand.Amount ∷ []) effect.ShiftRight
table rows.Sra = columns (codes "sra") (special 3) (operand.Rd ∷ operand.Rt ∷ operand.Amount ∷ []) effect.ShiftRightArithmetic
table rows.Sllv = columns (codes "sllv") (special 4) (operand.Rd ∷ operand.Rt ∷ operand.Rs ∷ []) effect.ShiftLeft
table rows.Srlv = columns (codes "srlv") (special 6) (operand.Rd ∷ operand.Rt ∷ operand.Rs ∷ []) effect.ShiftRight
table rows.Srav = columns (codes "srav") (special 7) (operand.Rd ∷ operand.Rt ∷ operand.Rs ∷ []) effect.ShiftRightArithmetic
table rows.Jr = columns (codes "jr") (special 8) (operand.Rs ∷ []) effect.Jump
table rows.Jalr = columns (codes "jalr") (special 9) (operand.Rd ∷ operand.Rs ∷ []) effect.JumpAndLinkRegister
table rows.Syscall = columns (codes "syscall") (special 12) [] effect.SystemCall
table rows.Break = columns (codes "break") (special 13) [] effect.Breakpoint
table rows.Sync = columns (codes "sync") (special 15) [] effect.Synchronize
table rows.Mfhi = columns (codes "mfhi") (special 16) (operand.Rd ∷ []) effect.MoveFromHi
table rows.Mthi = columns (codes "mthi") (special 17) (operand.Rs ∷ []) effect.MoveToHi
table rows.Mflo = columns (codes "mflo") (special 18) (operand.Rd ∷ []) effect.MoveFromLo
table rows.Mtlo = columns (codes "mtlo") (special 19) (operand.Rs ∷ []) effect.MoveToLo
table rows.Mult = columns (codes "mult") (special 24) (operand.Rs ∷ operand.Rt ∷ []) effect.Multiply
table rows.Multu = columns (codes "multu") (special 25) (operand.Rs ∷ operand.Rt ∷ []) effect.MultiplyUnsigned
table rows.Div = columns (codes "div") (special 26) (operand.Rs ∷ operand.Rt ∷ []) effect.Divide
table rows.Divu = columns (codes "divu") (special 27) (operand.Rs ∷ operand.Rt ∷ []) effect.DivideUnsigned
table rows.Add = columns (codes "add") (special 32) (operand.Rd ∷ operand.Rs ∷ operand.Rt ∷ []) effect.Sum
table rows.Addu = columns (codes "addu") (special 33) (operand.Rd ∷ operand.Rs ∷ operand.Rt ∷ []) effect.SumModulo
table rows.Sub = columns (codes "sub") (special 34) (operand.Rd ∷ operand.Rs ∷ operand.Rt ∷ []) effect.Difference
table rows.Subu = columns (codes "subu") (special 35) (operand.Rd ∷ operand.Rs ∷ operand.Rt ∷ []) effect.DifferenceModulo
table rows.And = columns (codes "and") (special 36) (operand.Rd ∷ operand.Rs ∷ operand.Rt ∷ []) effect.And
table rows.Or = columns (codes "or") (special 37) (operand.Rd ∷ operand.Rs ∷ operand.Rt ∷ []) effect.Or
table rows.Xor = columns (codes "xor") (special 38) (operand.Rd ∷ operand.Rs ∷ operand.Rt ∷ []) effect.Xor
table rows.Nor = columns (codes "nor") (special 39) (operand.Rd ∷ operand.Rs ∷ operand.Rt ∷ []) effect.Nor
table rows.Slt = columns (codes "slt") (special 42) (operand.Rd ∷ operand.Rs ∷ operand.Rt ∷ []) effect.SetOnLess
table rows.Sltu = columns (codes "sltu") (special 43) (operand.Rd ∷ operand.Rs ∷ operand.Rt ∷ []) effect.SetOnLessUnsigned
table rows.Bltz = columns (codes "bltz") (regimm 0) (operand.Rs ∷ operand.Branch ∷ []) effect.BranchOnLess
table rows.Bgez = columns (codes "bgez") (regimm 1) (operand.Rs ∷ operand.Branch ∷ []) effect.BranchOnGreaterOrEqual
table rows.Bltzal = columns (codes "bltzal") (regimm 16) (operand.Rs ∷ operand.Branch ∷ []) effect.BranchOnLessAndLink
table rows.Bgezal = columns (codes "bgezal") (regimm 17) (operand.Rs ∷ operand.Branch ∷ []) effect.BranchOnGreaterOrEqualAndLink
table rows.J = columns (codes "j") (opcode 2) (operand.Jump ∷ []) effect.Jump
table rows.Jal = columns (codes "jal") (opcode 3) (operand.Jump ∷ []) effect.JumpAndLink
table rows.Beq = columns (codes "beq") (opcode 4) (operand.Rs ∷ operand.Rt ∷ operand.Branch ∷ []) effect.BranchOnEqual
table rows.Bne = columns (codes "bne") (opcode 5) (operand.Rs ∷ operand.Rt ∷ operand.Branch ∷ []) effect.BranchOnNotEqual
table rows.Blez = columns (codes "blez") (opcode 6) (operand.Rs ∷ operand.Branch ∷ []) effect.BranchOnLessOrEqual
table rows.Bgtz = columns (codes "bgtz") (opcode 7) (operand.Rs ∷ operand.Branch ∷ []) effect.BranchOnGreater
table rows.Addi = columns (codes "addi") (opcode 8) (operand.Rt ∷ operand.Rs ∷ operand.Signed ∷ []) effect.Sum
table rows.Addiu = columns (codes "addiu") (opcode 9) (operand.Rt ∷ operand.Rs ∷ operand.Signed ∷ []) effect.SumModulo
table rows.Slti = columns (codes "slti") (opcode 10) (operand.Rt ∷ operand.Rs ∷ operand.Signed ∷ []) effect.SetOnLess
table rows.Sltiu = columns (codes "sltiu") (opcode 11) (operand.Rt ∷ operand.Rs ∷ operand.Signed ∷ []) effect.SetOnLessUnsigned
table rows.Andi = columns (codes "andi") (opcode 12) (operand.Rt ∷ operand.Rs ∷ operand.Unsigned ∷ []) effect.And
table rows.Ori = columns (codes "ori") (opcode 13) (operand.Rt ∷ operand.Rs ∷ operand.Unsigned ∷ []) effect.Or
table rows.Xori = columns (codes "xori") (opcode 14) (operand.Rt ∷ operand.Rs ∷ operand.Unsigned ∷ []) effect.Xor
table rows.Lui = columns (codes "lui") (opcode 15) (operand.Rt ∷ operand.Unsigned ∷ []) effect.LoadUpper
table rows.Lb = columns (codes "lb") (opcode 32) (operand.Rt ∷ operand.Offset ∷ operand.Base ∷ []) effect.LoadByte
table rows.Lh = columns (codes "lh") (opcode 33) (operand.Rt ∷ operand.Offset ∷ operand.Base ∷ []) effect.LoadHalf
table rows.Lwl = columns (codes "lwl") (opcode 34) (operand.Rt ∷ operand.Offset ∷ operand.Base ∷ []) effect.LoadWordLeft
table rows.Lw = columns (codes "lw") (opcode 35) (operand.Rt ∷ operand.Offset ∷ operand.Base ∷ []) effect.LoadWord
table rows.Lbu = columns (codes "lbu") (opcode 36) (operand.Rt ∷ operand.Offset ∷ operand.Base ∷ []) effect.LoadByteUnsigned
table rows.Lhu = columns (codes "lhu") (opcode 37) (operand.Rt ∷ operand.Offset ∷ operand.Base ∷ []) effect.LoadHalfUnsigned
table rows.Lwr = columns (codes "lwr") (opcode 38) (operand.Rt ∷ operand.Offset ∷ operand.Base ∷ []) effect.LoadWordRight
table rows.Sb = columns (codes "sb") (opcode 40) (operand.Rt ∷ operand.Offset ∷ operand.Base ∷ []) effect.StoreByte
table rows.Sh = columns (codes "sh") (opcode 41) (operand.Rt ∷ operand.Offset ∷ operand.Base ∷ []) effect.StoreHalf
table rows.Swl = columns (codes "swl") (opcode 42) (operand.Rt ∷ operand.Offset ∷ operand.Base ∷ []) effect.StoreWordLeft
table rows.Sw = columns (codes "sw") (opcode 43) (operand.Rt ∷ operand.Offset ∷ operand.Base ∷ []) effect.StoreWord
table rows.Swr = columns (codes "swr") (opcode 46) (operand.Rt ∷ operand.Offset ∷ operand.Base ∷ []) effect.StoreWordRight
table rows.Ll = columns (codes "ll") (opcode 48) (operand.Rt ∷ operand.Offset ∷ operand.Base ∷ []) effect.LoadLinked
table rows.Sc = columns (codes "sc") (opcode 56) (operand.Rt ∷ operand.Offset ∷ operand.Base ∷ []) effect.StoreConditional
table rows.Mfc0 = columns (codes "mfc0") (cop0 0) (operand.Rt ∷ operand.Cop0 ∷ []) effect.MoveFromCop0
table rows.Mtc0 = columns (codes "mtc0") (cop0 4) (operand.Rt ∷ operand.Cop0 ∷ []) effect.MoveToCop0
table rows.Tlbr = columns (codes "tlbr") (cop0_function 1) [] effect.ReadTlb
table rows.Tlbwi = columns (codes "tlbwi") (cop0_function 2) [] effect.WriteTlbIndexed
table rows.Tlbwr = columns (codes "tlbwr") (cop0_function 6) [] effect.WriteTlbRandom
table rows.Tlbp = columns (codes "tlbp") (cop0_function 8) [] effect.ProbeTlb
table rows.Rfe = columns (codes "rfe") (cop0_function 16) [] effect.RestoreFromException
table rows.Wait = columns (codes "wait") (cop0_function 32) [] effect.WaitForInterrupt

-- the rows, in the table's order; a list of its own, since no definition can enumerate an enum's
-- variants
abbrev pub all_rows : List Row
all_rows =
    rows.Sll ∷ rows.Srl ∷ rows.Sra ∷ rows.Sllv ∷ rows.Srlv ∷ rows.Srav ∷ rows.Jr ∷ rows.Jalr ∷
    rows.Syscall ∷ rows.Break ∷ rows.Sync ∷ rows.Mfhi ∷ rows.Mthi ∷ rows.Mflo ∷ rows.Mtlo ∷
    rows.Mult ∷ rows.Multu ∷ rows.Div ∷ rows.Divu ∷ rows.Add ∷ rows.Addu ∷ rows.Sub ∷ rows.Subu ∷
    rows.And ∷ rows.Or ∷ rows.Xor ∷ rows.Nor ∷ rows.Slt ∷ rows.Sltu ∷ rows.Bltz ∷ rows.Bgez ∷
    rows.Bltzal ∷ rows.Bgezal ∷ rows.J ∷ rows.Jal ∷ rows.Beq ∷ rows.Bne ∷ rows.Blez ∷ rows.Bgtz ∷
    rows.Addi ∷ rows.Addiu ∷ rows.Slti ∷ rows.Sltiu ∷ rows.Andi ∷ rows.Ori ∷ rows.Xori ∷ rows.Lui ∷
    rows.Lb ∷ rows.Lh ∷ rows.Lwl ∷ rows.Lw ∷ rows.Lbu ∷ rows.Lhu ∷ rows.Lwr ∷ rows.Sb ∷ rows.Sh ∷
    rows.Swl ∷ rows.Sw ∷ rows.Swr ∷ rows.Ll ∷ rows.Sc ∷ rows.Mfc0 ∷ rows.Mtc0 ∷ rows.Tlbr ∷
    rows.Tlbwi ∷ rows.Tlbwr ∷ rows.Tlbp ∷ rows.Rfe ∷ rows.Wait ∷ []

-- the word has all of these fields
abbrev pub HasFields : ℕ → List Field → Type 0
HasFields word [] = Unit {0}
HasFields word (f ∷ fs) = (bits_of word f.position f.width ≡ f.value) × HasFields word fs

-- the word fits the row
abbrev pub Fits : ℕ → Row → Type 0
Fits word r = HasFields word (table r).fields

-- the same as a test
abbrev pub has_fields : ℕ → List Field → Bool
has_fields word [] = true
has_fields word (f ∷ fs) = (bits_of word f.position f.width == f.value) && has_fields word fs

abbrev pub fits : ℕ → Row → Bool
fits word r = has_fields word (table r).fields

-- the word fits no row
abbrev pub FitsNone : ℕ → Type 0
FitsNone word = (r : Row) → Fits word r → ⊥

-- the row that the word fits
abbrev pub row_that_fits : ℕ → Option Row
row_that_fits word = find (fits word) all_rows

-- the lowest bit of an operand's field
abbrev pub position_of : Operand → ℕ
position_of operand.Signed = 0
position_of operand.Unsigned = 0
position_of operand.Offset = 0
position_of operand.Branch = 0
position_of operand.Jump = 0
position_of operand.Amount = 6
position_of operand.Rd = 11
position_of operand.Cop0 = 11
position_of operand.Rt = 16
position_of operand.Rs = 21
position_of operand.Base = 21

-- the width of an operand's field
abbrev pub width_of : Operand → ℕ
width_of operand.Signed = 16
width_of operand.Unsigned = 16
width_of operand.Offset = 16
width_of operand.Branch = 16
width_of operand.Jump = 26
width_of _ = 5

-- the number in an operand's field
abbrev pub number_of : ℕ → Operand → ℕ
number_of word o = bits_of word (position_of o) (width_of o)

-- the numbers in the fields of a row's operands
abbrev pub numbers_of : ℕ → Option Row → List ℕ
numbers_of word None = []
numbers_of word (Some r) = map (number_of word) (table r).operands

-- the opcode is one of a coprocessor: its own, or one of its loads and stores
abbrev pub is_opcode_of : ℕ → ℕ → Bool
is_opcode_of n word =
    (bits_of word 26 6 == n) || (bits_of word 26 6 == n + 32) || (bits_of word 26 6 == n + 40)

-- the coprocessor, of 1 to 3, that the word is for
abbrev pub absent_in : ℕ → Option Coprocessor
absent_in word =
    if is_opcode_of 17 word then Some coprocessor.One
    else if is_opcode_of 18 word then Some coprocessor.Two
    else if is_opcode_of 19 word then Some coprocessor.Three
    else None

-- the fields of a row at their places
abbrev pub sum_of_fields : List Field → ℕ
sum_of_fields [] = 0
sum_of_fields (f ∷ fs) = f.value * 2 ^ f.position + sum_of_fields fs

-- the word with a row's fields, and zeros elsewhere
abbrev pub code_of : Row → ℕ
code_of r = sum_of_fields (table r).fields

-- the numbers of operands at their places
abbrev pub sum_of_operands : List Operand → List ℕ → ℕ
sum_of_operands (o ∷ os) (n ∷ ns) = n * 2 ^ position_of o + sum_of_operands os ns
sum_of_operands _ _ = 0

-- each operand has a number, which its field can hold
abbrev pub AreOperands : List Operand → List ℕ → Type 0
AreOperands [] [] = Unit {0}
AreOperands (o ∷ os) (n ∷ ns) = (n < 2 ^ width_of o) × AreOperands os ns
AreOperands _ _ = ⊥

-- the word of a row with these operands, all its other bits zero
abbrev pub word_with : Row → List ℕ → ℕ
word_with r numbers = code_of r + sum_of_operands (table r).operands numbers

-- the word fits a row, and its bits outside the row's fields and operands are zero
abbrev pub IsCanonical : ℕ → Type 0
IsCanonical word = (r : Row) × Fits word r × (word ≡ word_with r (numbers_of word (Some r)))
