use Rattle.std.specs.Prelude.{ℕ, ◌*◌, ◌^◌, List, [], ◌∷◌, Option, None, Some}
use Rattle.m161_isa.specs.declared.table.Row.{Row}
use Rattle.m161_isa.specs.declared.table.Row.TheVariants as rows
use Rattle.m161_isa.specs.declared.operand.Operand.TheVariants as operand
use Rattle.m161_isa.specs.declared.instr.Instr.{Instr}
use Rattle.m161_isa.specs.declared.instr.Instr.TheVariants.{Shift, ShiftVariable, JumpRegister, JumpAndLinkRegister, MoveFrom, MoveTo, Multiply, Arith, BranchZero, Jump, BranchEqual, Immediate, LoadUpper, Load, Store, MoveFromCop0, MoveToCop0, Plain, Absent, Reserved}
use Rattle.m161_isa.specs.declared.instr.ShiftOp.TheVariants as shift
use Rattle.m161_isa.specs.declared.instr.ArithOp.TheVariants as arith
use Rattle.m161_isa.specs.declared.instr.MultiplyOp.TheVariants as multiply
use Rattle.m161_isa.specs.declared.instr.HiLo.TheVariants as half
use Rattle.m161_isa.specs.declared.instr.ZeroTest.TheVariants as zero
use Rattle.m161_isa.specs.declared.instr.EqualTest.TheVariants as equal
use Rattle.m161_isa.specs.declared.instr.JumpOp.TheVariants as jump
use Rattle.m161_isa.specs.declared.instr.ImmediateOp.TheVariants as immediate
use Rattle.m161_isa.specs.declared.instr.LoadOp.TheVariants as load
use Rattle.m161_isa.specs.declared.instr.StoreOp.TheVariants as store
use Rattle.m161_isa.specs.declared.instr.PlainOp.TheVariants as plain
use Rattle.m161_isa.specs.declared.instr.Coprocessor.{Coprocessor}
use Rattle.m161_isa.specs.declared.instr.Coprocessor.TheVariants as coprocessor
use Rattle.m161_isa.specs.Table.{number_of, row_that_fits, absent_in, word_with}

-- How the code's instructions relate to the table: an instruction is a row and the numbers of its
-- operands.

-- the row that an instruction is of; a list of its own, since it ties the code's type to the rows
abbrev pub row_of_instr : Instr → Option Row
row_of_instr (Shift shift.Left _ _ _) = Some rows.Sll
row_of_instr (Shift shift.Right _ _ _) = Some rows.Srl
row_of_instr (Shift shift.RightArithmetic _ _ _) = Some rows.Sra
row_of_instr (ShiftVariable shift.Left _ _ _) = Some rows.Sllv
row_of_instr (ShiftVariable shift.Right _ _ _) = Some rows.Srlv
row_of_instr (ShiftVariable shift.RightArithmetic _ _ _) = Some rows.Srav
row_of_instr (JumpRegister _) = Some rows.Jr
row_of_instr (JumpAndLinkRegister _ _) = Some rows.Jalr
row_of_instr (Plain plain.Syscall) = Some rows.Syscall
row_of_instr (Plain plain.Break) = Some rows.Break
row_of_instr (Plain plain.Sync) = Some rows.Sync
row_of_instr (MoveFrom half.Hi _) = Some rows.Mfhi
row_of_instr (MoveTo half.Hi _) = Some rows.Mthi
row_of_instr (MoveFrom half.Lo _) = Some rows.Mflo
row_of_instr (MoveTo half.Lo _) = Some rows.Mtlo
row_of_instr (Multiply multiply.Mult _ _) = Some rows.Mult
row_of_instr (Multiply multiply.Multu _ _) = Some rows.Multu
row_of_instr (Multiply multiply.Div _ _) = Some rows.Div
row_of_instr (Multiply multiply.Divu _ _) = Some rows.Divu
row_of_instr (Arith arith.Add _ _ _) = Some rows.Add
row_of_instr (Arith arith.Addu _ _ _) = Some rows.Addu
row_of_instr (Arith arith.Sub _ _ _) = Some rows.Sub
row_of_instr (Arith arith.Subu _ _ _) = Some rows.Subu
row_of_instr (Arith arith.And _ _ _) = Some rows.And
row_of_instr (Arith arith.Or _ _ _) = Some rows.Or
row_of_instr (Arith arith.Xor _ _ _) = Some rows.Xor
row_of_instr (Arith arith.Nor _ _ _) = Some rows.Nor
row_of_instr (Arith arith.Slt _ _ _) = Some rows.Slt
row_of_instr (Arith arith.Sltu _ _ _) = Some rows.Sltu
row_of_instr (BranchZero zero.Less _ _) = Some rows.Bltz
row_of_instr (BranchZero zero.GreaterOrEqual _ _) = Some rows.Bgez
row_of_instr (BranchZero zero.LessAndLink _ _) = Some rows.Bltzal
row_of_instr (BranchZero zero.GreaterOrEqualAndLink _ _) = Some rows.Bgezal
row_of_instr (Jump jump.Jump _) = Some rows.J
row_of_instr (Jump jump.JumpAndLink _) = Some rows.Jal
row_of_instr (BranchEqual equal.Equal _ _ _) = Some rows.Beq
row_of_instr (BranchEqual equal.NotEqual _ _ _) = Some rows.Bne
row_of_instr (BranchZero zero.LessOrEqual _ _) = Some rows.Blez
row_of_instr (BranchZero zero.Greater _ _) = Some rows.Bgtz
row_of_instr (Immediate immediate.Addi _ _ _) = Some rows.Addi
row_of_instr (Immediate immediate.Addiu _ _ _) = Some rows.Addiu
row_of_instr (Immediate immediate.Slti _ _ _) = Some rows.Slti
row_of_instr (Immediate immediate.Sltiu _ _ _) = Some rows.Sltiu
row_of_instr (Immediate immediate.Andi _ _ _) = Some rows.Andi
row_of_instr (Immediate immediate.Ori _ _ _) = Some rows.Ori
row_of_instr (Immediate immediate.Xori _ _ _) = Some rows.Xori
row_of_instr (LoadUpper _ _) = Some rows.Lui
row_of_instr (Load load.Byte _ _ _) = Some rows.Lb
row_of_instr (Load load.Half _ _ _) = Some rows.Lh
row_of_instr (Load load.WordLeft _ _ _) = Some rows.Lwl
row_of_instr (Load load.Word _ _ _) = Some rows.Lw
row_of_instr (Load load.ByteUnsigned _ _ _) = Some rows.Lbu
row_of_instr (Load load.HalfUnsigned _ _ _) = Some rows.Lhu
row_of_instr (Load load.WordRight _ _ _) = Some rows.Lwr
row_of_instr (Store store.Byte _ _ _) = Some rows.Sb
row_of_instr (Store store.Half _ _ _) = Some rows.Sh
row_of_instr (Store store.WordLeft _ _ _) = Some rows.Swl
row_of_instr (Store store.Word _ _ _) = Some rows.Sw
row_of_instr (Store store.WordRight _ _ _) = Some rows.Swr
row_of_instr (Load load.Linked _ _ _) = Some rows.Ll
row_of_instr (Store store.Conditional _ _ _) = Some rows.Sc
row_of_instr (MoveFromCop0 _ _) = Some rows.Mfc0
row_of_instr (MoveToCop0 _ _) = Some rows.Mtc0
row_of_instr (Plain plain.Tlbr) = Some rows.Tlbr
row_of_instr (Plain plain.Tlbwi) = Some rows.Tlbwi
row_of_instr (Plain plain.Tlbwr) = Some rows.Tlbwr
row_of_instr (Plain plain.Tlbp) = Some rows.Tlbp
row_of_instr (Plain plain.Rfe) = Some rows.Rfe
row_of_instr (Plain plain.Wait) = Some rows.Wait
row_of_instr (Absent _) = None
row_of_instr (Reserved _) = None

-- the numbers of its operands, in the row's order
abbrev pub numbers_of_instr : Instr → List ℕ
numbers_of_instr (Shift _ rd rt amount) = rd ∷ rt ∷ amount ∷ []
numbers_of_instr (ShiftVariable _ rd rt rs) = rd ∷ rt ∷ rs ∷ []
numbers_of_instr (JumpRegister rs) = rs ∷ []
numbers_of_instr (JumpAndLinkRegister rd rs) = rd ∷ rs ∷ []
numbers_of_instr (Plain _) = []
numbers_of_instr (MoveFrom _ rd) = rd ∷ []
numbers_of_instr (MoveTo _ rs) = rs ∷ []
numbers_of_instr (Multiply _ rs rt) = rs ∷ rt ∷ []
numbers_of_instr (Arith _ rd rs rt) = rd ∷ rs ∷ rt ∷ []
numbers_of_instr (BranchZero _ rs offset) = rs ∷ offset ∷ []
numbers_of_instr (Jump _ target) = target ∷ []
numbers_of_instr (BranchEqual _ rs rt offset) = rs ∷ rt ∷ offset ∷ []
numbers_of_instr (Immediate _ rt rs number) = rt ∷ rs ∷ number ∷ []
numbers_of_instr (LoadUpper rt immediate) = rt ∷ immediate ∷ []
numbers_of_instr (Load _ rt offset base) = rt ∷ offset ∷ base ∷ []
numbers_of_instr (Store _ rt offset base) = rt ∷ offset ∷ base ∷ []
numbers_of_instr (MoveFromCop0 rt register) = rt ∷ register ∷ []
numbers_of_instr (MoveToCop0 rt register) = rt ∷ register ∷ []
numbers_of_instr (Absent _) = []
numbers_of_instr (Reserved _) = []

-- the operands of a word
abbrev pub rs_of : ℕ → ℕ
rs_of word = number_of word operand.Rs

abbrev pub rt_of : ℕ → ℕ
rt_of word = number_of word operand.Rt

abbrev pub rd_of : ℕ → ℕ
rd_of word = number_of word operand.Rd

abbrev pub amount_of : ℕ → ℕ
amount_of word = number_of word operand.Amount

abbrev pub immediate_of : ℕ → ℕ
immediate_of word = number_of word operand.Signed

abbrev pub target_of : ℕ → ℕ
target_of word = number_of word operand.Jump

-- a word that fits no row
abbrev pub misfit : ℕ → Option Coprocessor → Instr
misfit word None = Reserved word
misfit word (Some unit) = Absent unit

-- the instruction of a word, by the row that it fits; a list of its own, since it is the other
-- direction
abbrev pub instr_by : ℕ → Option Row → Instr
instr_by word None = misfit word (absent_in word)
instr_by word (Some rows.Sll) = Shift shift.Left (rd_of word) (rt_of word) (amount_of word)
instr_by word (Some rows.Srl) = Shift shift.Right (rd_of word) (rt_of word) (amount_of word)
instr_by word (Some rows.Sra) =
    Shift shift.RightArithmetic (rd_of word) (rt_of word) (amount_of word)
instr_by word (Some rows.Sllv) = ShiftVariable shift.Left (rd_of word) (rt_of word) (rs_of word)
instr_by word (Some rows.Srlv) = ShiftVariable shift.Right (rd_of word) (rt_of word) (rs_of word)
instr_by word (Some rows.Srav) =
    ShiftVariable shift.RightArithmetic (rd_of word) (rt_of word) (rs_of word)
instr_by word (Some rows.Jr) = JumpRegister (rs_of word)
instr_by word (Some rows.Jalr) = JumpAndLinkRegister (rd_of word) (rs_of word)
instr_by word (Some rows.Syscall) = Plain plain.Syscall
instr_by word (Some rows.Break) = Plain plain.Break
instr_by word (Some rows.Sync) = Plain plain.Sync
instr_by word (Some rows.Mfhi) = MoveFrom half.Hi (rd_of word)
instr_by word (Some rows.Mthi) = MoveTo half.Hi (rs_of word)
instr_by word (Some rows.Mflo) = MoveFrom half.Lo (rd_of word)
instr_by word (Some rows.Mtlo) = MoveTo half.Lo (rs_of word)
instr_by word (Some rows.Mult) = Multiply multiply.Mult (rs_of word) (rt_of word)
instr_by word (Some rows.Multu) = Multiply multiply.Multu (rs_of word) (rt_of word)
instr_by word (Some rows.Div) = Multiply multiply.Div (rs_of word) (rt_of word)
instr_by word (Some rows.Divu) = Multiply multiply.Divu (rs_of word) (rt_of word)
instr_by word (Some rows.Add) = Arith arith.Add (rd_of word) (rs_of word) (rt_of word)
instr_by word (Some rows.Addu) = Arith arith.Addu (rd_of word) (rs_of word) (rt_of word)
instr_by word (Some rows.Sub) = Arith arith.Sub (rd_of word) (rs_of word) (rt_of word)
instr_by word (Some rows.Subu) = Arith arith.Subu (rd_of word) (rs_of word) (rt_of word)
instr_by word (Some rows.And) = Arith arith.And (rd_of word) (rs_of word) (rt_of word)
instr_by word (Some rows.Or) = Arith arith.Or (rd_of word) (rs_of word) (rt_of word)
instr_by word (Some rows.Xor) = Arith arith.Xor (rd_of word) (rs_of word) (rt_of word)
instr_by word (Some rows.Nor) = Arith arith.Nor (rd_of word) (rs_of word) (rt_of word)
instr_by word (Some rows.Slt) = Arith arith.Slt (rd_of word) (rs_of word) (rt_of word)
instr_by word (Some rows.Sltu) = Arith arith.Sltu (rd_of word) (rs_of word) (rt_of word)
instr_by word (Some rows.Bltz) = BranchZero zero.Less (rs_of word) (immediate_of word)
instr_by word (Some rows.Bgez) = BranchZero zero.GreaterOrEqual (rs_of word) (immediate_of word)
instr_by word (Some rows.Bltzal) = BranchZero zero.LessAndLink (rs_of word) (immediate_of word)
instr_by word (Some rows.Bgezal) =
    BranchZero zero.GreaterOrEqualAndLink (rs_of word) (immediate_of word)
instr_by word (Some rows.J) = Jump jump.Jump (target_of word)
instr_by word (Some rows.Jal) = Jump jump.JumpAndLink (target_of word)
instr_by word (Some rows.Beq) =
    BranchEqual equal.Equal (rs_of word) (rt_of word) (immediate_of word)
instr_by word (Some rows.Bne) =
    BranchEqual equal.NotEqual (rs_of word) (rt_of word) (immediate_of word)
instr_by word (Some rows.Blez) = BranchZero zero.LessOrEqual (rs_of word) (immediate_of word)
instr_by word (Some rows.Bgtz) = BranchZero zero.Greater (rs_of word) (immediate_of word)
instr_by word (Some rows.Addi) =
    Immediate immediate.Addi (rt_of word) (rs_of word) (immediate_of word)
instr_by word (Some rows.Addiu) =
    Immediate immediate.Addiu (rt_of word) (rs_of word) (immediate_of word)
instr_by word (Some rows.Slti) =
    Immediate immediate.Slti (rt_of word) (rs_of word) (immediate_of word)
instr_by word (Some rows.Sltiu) =
    Immediate immediate.Sltiu (rt_of word) (rs_of word) (immediate_of word)
instr_by word (Some rows.Andi) =
    Immediate immediate.Andi (rt_of word) (rs_of word) (immediate_of word)
instr_by word (Some rows.Ori) =
    Immediate immediate.Ori (rt_of word) (rs_of word) (immediate_of word)
instr_by word (Some rows.Xori) =
    Immediate immediate.Xori (rt_of word) (rs_of word) (immediate_of word)
instr_by word (Some rows.Lui) = LoadUpper (rt_of word) (immediate_of word)
instr_by word (Some rows.Lb) = Load load.Byte (rt_of word) (immediate_of word) (rs_of word)
instr_by word (Some rows.Lh) = Load load.Half (rt_of word) (immediate_of word) (rs_of word)
instr_by word (Some rows.Lwl) = Load load.WordLeft (rt_of word) (immediate_of word) (rs_of word)
instr_by word (Some rows.Lw) = Load load.Word (rt_of word) (immediate_of word) (rs_of word)
instr_by word (Some rows.Lbu) = Load load.ByteUnsigned (rt_of word) (immediate_of word) (rs_of word)
instr_by word (Some rows.Lhu) = Load load.HalfUnsigned (rt_of word) (immediate_of word) (rs_of word)
instr_by word (Some rows.Lwr) = Load load.WordRight (rt_of word) (immediate_of word) (rs_of word)
instr_by word (Some rows.Sb) = Store store.Byte (rt_of word) (immediate_of word) (rs_of word)
instr_by word (Some rows.Sh) = Store store.Half (rt_of word) (immediate_of word) (rs_of word)
instr_by word (Some rows.Swl) = Store store.WordLeft (rt_of word) (immediate_of word) (rs_of word)
instr_by word (Some rows.Sw) = Store store.Word (rt_of word) (immediate_of word) (rs_of word)
instr_by word (Some rows.Swr) = Store store.WordRight (rt_of word) (immediate_of word) (rs_of word)
instr_by word (Some rows.Ll) = Load load.Linked (rt_of word) (immediate_of word) (rs_of word)
instr_by word (Some rows.Sc) = Store store.Conditional (rt_of word) (immediate_of word) (rs_of word)
instr_by word (Some rows.Mfc0) = MoveFromCop0 (rt_of word) (rd_of word)
instr_by word (Some rows.Mtc0) = MoveToCop0 (rt_of word) (rd_of word)
instr_by word (Some rows.Tlbr) = Plain plain.Tlbr
instr_by word (Some rows.Tlbwi) = Plain plain.Tlbwi
instr_by word (Some rows.Tlbwr) = Plain plain.Tlbwr
instr_by word (Some rows.Tlbp) = Plain plain.Tlbp
instr_by word (Some rows.Rfe) = Plain plain.Rfe
instr_by word (Some rows.Wait) = Plain plain.Wait

-- the instruction of a word
abbrev pub instr_of : ℕ → Instr
instr_of word = instr_by word (row_that_fits word)

-- the word of an instruction: its row's fields and its operands, all other bits zero. That of an
-- absent coprocessor is the opcode alone
abbrev pub word_by : Option Row → Instr → ℕ
word_by (Some r) i = word_with r (numbers_of_instr i)
word_by None (Absent coprocessor.One) = 17 * 2 ^ 26
word_by None (Absent coprocessor.Two) = 18 * 2 ^ 26
word_by None (Absent coprocessor.Three) = 19 * 2 ^ 26
word_by None (Reserved word) = word
word_by None _ = 0

abbrev pub word_of : Instr → ℕ
word_of i = word_by (row_of_instr i) i
