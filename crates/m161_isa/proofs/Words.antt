use Rattle.std.specs.Prelude.{Option, None, Some}
use Rattle.std.proofs.Common.{◌≡◌, ℕ, ◌+◌, ◌-◌, ◌*◌, ◌^◌, ◌<◌, ◌≤◌, List, [], ◌∷◌, ap, subst, ◌∙◌, lit<, arith}
use Rattle.m161_isa.specs.declared.table.Row.{Row}
use Rattle.m161_isa.specs.declared.table.Row.TheVariants as rows
use Rattle.m161_isa.specs.declared.operand.Operand.{Operand}
use Rattle.m161_isa.specs.declared.operand.Operand.TheVariants as operand
use Rattle.m161_isa.specs.declared.instr.Instr.{Instr}
use Rattle.m161_isa.specs.declared.instr.Instr.TheVariants.{Shift, ShiftVariable, JumpRegister, JumpAndLinkRegister, MoveFrom, MoveTo, Multiply, Arith, BranchZero, Jump, BranchEqual, Immediate, LoadUpper, Load, Store, MoveFromCop0, MoveToCop0, Plain, Absent, Reserved}
use Rattle.m161_isa.specs.declared.instr.ShiftOp.TheVariants as shift
use Rattle.m161_isa.specs.declared.instr.ArithOp.TheVariants as arith_op
use Rattle.m161_isa.specs.declared.instr.MultiplyOp.TheVariants as multiply
use Rattle.m161_isa.specs.declared.instr.HiLo.TheVariants as half
use Rattle.m161_isa.specs.declared.instr.ZeroTest.TheVariants as zero_test
use Rattle.m161_isa.specs.declared.instr.EqualTest.TheVariants as equal
use Rattle.m161_isa.specs.declared.instr.JumpOp.TheVariants as jump
use Rattle.m161_isa.specs.declared.instr.ImmediateOp.TheVariants as immediate
use Rattle.m161_isa.specs.declared.instr.LoadOp.TheVariants as load
use Rattle.m161_isa.specs.declared.instr.StoreOp.TheVariants as store
use Rattle.m161_isa.specs.declared.instr.PlainOp.TheVariants as plain
use Rattle.m161_isa.specs.Table.{table, position_of, width_of, code_of, sum_of_operands, AreOperands, word_with}
use Rattle.m161_isa.specs.Instr.{row_of_instr, numbers_of_instr, word_by, word_of}

-- A row's word is below 2^32, and an instruction's numbers are those of its row's operands.

-- the greatest sum of numbers in operands' fields
abbrev most : List Operand → ℕ
most [] = 0
most (o ∷ os) = (2 ^ width_of o - 1) * 2 ^ position_of o + most os

-- a number in its field
in_field : (o : Operand) (n : ℕ) → n < 2 ^ width_of o
    → n * 2 ^ position_of o ≤ (2 ^ width_of o - 1) * 2 ^ position_of o
in_field operand.Rd n h = omega arith
in_field _ n h = omega arith

sum-most : (os : List Operand) (ns : List ℕ) → AreOperands os ns → sum_of_operands os ns ≤ most os
sum-most [] [] h = omega arith
sum-most [] (n ∷ ns) h = absurd h
sum-most (o ∷ os) [] h = absurd h
sum-most (o ∷ os) (n ∷ ns) (h, hs) =
    let a = in_field o n h in let b = sum-most os ns hs in omega arith

-- the last equation is checked at each of the 68 other rows
most_fits : (r : Row) → code_of r + most (table r).operands < 2 ^ 32
most_fits rows.Sll = lit< tt
most_fits _ = lit< tt

pub word_fits : (r : Row) (ns : List ℕ) → AreOperands (table r).operands ns
    → code_of r + sum_of_operands (table r).operands ns < 2 ^ 32
word_fits r ns h = let a = sum-most (table r).operands ns h in let b = most_fits r in omega arith

pub operands_fit : (r : Row) (ns : List ℕ) → AreOperands (table r).operands ns
    → sum_of_operands (table r).operands ns < 2 ^ 32
operands_fit r ns h = let a = word_fits r ns h in omega arith

-- each number of an instruction is below its type's bound
abbrev pub IsBounded : Instr → Type 0
IsBounded (Shift _ rd rt amount) = (rd < 32) × (rt < 32) × (amount < 32)
IsBounded (ShiftVariable _ rd rt rs) = (rd < 32) × (rt < 32) × (rs < 32)
IsBounded (JumpRegister rs) = rs < 32
IsBounded (JumpAndLinkRegister rd rs) = (rd < 32) × (rs < 32)
IsBounded (Plain _) = Unit {0}
IsBounded (MoveFrom _ rd) = rd < 32
IsBounded (MoveTo _ rs) = rs < 32
IsBounded (Multiply _ rs rt) = (rs < 32) × (rt < 32)
IsBounded (Arith _ rd rs rt) = (rd < 32) × (rs < 32) × (rt < 32)
IsBounded (BranchZero _ rs offset) = (rs < 32) × (offset < 2 ^ 16)
IsBounded (Jump _ target) = target < 2 ^ 26
IsBounded (BranchEqual _ rs rt offset) = (rs < 32) × (rt < 32) × (offset < 2 ^ 16)
IsBounded (Immediate _ rt rs number) = (rt < 32) × (rs < 32) × (number < 2 ^ 16)
IsBounded (LoadUpper rt number) = (rt < 32) × (number < 2 ^ 16)
IsBounded (Load _ rt offset base) = (rt < 32) × (offset < 2 ^ 16) × (base < 32)
IsBounded (Store _ rt offset base) = (rt < 32) × (offset < 2 ^ 16) × (base < 32)
IsBounded (MoveFromCop0 rt register) = (rt < 32) × (register < 32)
IsBounded (MoveToCop0 rt register) = (rt < 32) × (register < 32)
IsBounded (Absent _) = Unit {0}
IsBounded (Reserved _) = Unit {0}

abbrev AreOperandsOf : Option Row → List ℕ → Type 0
AreOperandsOf None ns = Unit {0}
AreOperandsOf (Some r) ns = AreOperands (table r).operands ns

-- the last equation of each form is checked at each other operation
bounded : (i : Instr) → IsBounded i → AreOperandsOf (row_of_instr i) (numbers_of_instr i)
bounded (Shift shift.Left _ _ _) h = (h.0, (h.1, (h.2, tt)))
bounded (Shift _ _ _ _) h = (h.0, (h.1, (h.2, tt)))
bounded (ShiftVariable shift.Left _ _ _) h = (h.0, (h.1, (h.2, tt)))
bounded (ShiftVariable _ _ _ _) h = (h.0, (h.1, (h.2, tt)))
bounded (JumpRegister _) h = (h, tt)
bounded (JumpAndLinkRegister _ _) h = (h.0, (h.1, tt))
bounded (Plain plain.Sync) h = tt
bounded (Plain _) h = tt
bounded (MoveFrom half.Hi _) h = (h, tt)
bounded (MoveFrom _ _) h = (h, tt)
bounded (MoveTo half.Hi _) h = (h, tt)
bounded (MoveTo _ _) h = (h, tt)
bounded (Multiply multiply.Mult _ _) h = (h.0, (h.1, tt))
bounded (Multiply _ _ _) h = (h.0, (h.1, tt))
bounded (Arith arith_op.Add _ _ _) h = (h.0, (h.1, (h.2, tt)))
bounded (Arith _ _ _ _) h = (h.0, (h.1, (h.2, tt)))
bounded (BranchZero zero_test.Less _ _) h = (h.0, (h.1, tt))
bounded (BranchZero _ _ _) h = (h.0, (h.1, tt))
bounded (Jump jump.Jump _) h = (h, tt)
bounded (Jump _ _) h = (h, tt)
bounded (BranchEqual equal.Equal _ _ _) h = (h.0, (h.1, (h.2, tt)))
bounded (BranchEqual _ _ _ _) h = (h.0, (h.1, (h.2, tt)))
bounded (Immediate immediate.Addi _ _ _) h = (h.0, (h.1, (h.2, tt)))
bounded (Immediate _ _ _ _) h = (h.0, (h.1, (h.2, tt)))
bounded (LoadUpper _ _) h = (h.0, (h.1, tt))
bounded (Load load.Byte _ _ _) h = (h.0, (h.1, (h.2, tt)))
bounded (Load _ _ _ _) h = (h.0, (h.1, (h.2, tt)))
bounded (Store store.Byte _ _ _) h = (h.0, (h.1, (h.2, tt)))
bounded (Store _ _ _ _) h = (h.0, (h.1, (h.2, tt)))
bounded (MoveFromCop0 _ _) h = (h.0, (h.1, tt))
bounded (MoveToCop0 _ _) h = (h.0, (h.1, tt))
bounded (Absent _) h = tt
bounded (Reserved _) h = tt

pub are_operands : (i : Instr) (r : Row) (ns : List ℕ) → row_of_instr i ≡ Some r
    → numbers_of_instr i ≡ ns → IsBounded i → AreOperands (table r).operands ns
are_operands i r ns e d h =
    subst (λ o. AreOperandsOf o ns) e
    (subst (λ x. AreOperandsOf (row_of_instr i) x) d (bounded i h))

pub word_of_row : (i : Instr) (r : Row) (ns : List ℕ) → row_of_instr i ≡ Some r
    → numbers_of_instr i ≡ ns → word_of i ≡ word_with r ns
word_of_row i r ns e d = ap (λ o. word_by o i) e ∙ ap (word_with r) d
