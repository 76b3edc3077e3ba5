use Rattle.std.proofs.Common.{◌≡◌, ◌∙◌, refl, ap, ℕ, Option, None, Some, Err}
use Rattle.m161_isa.specs.declared.table.Row.{Row}
use Rattle.m161_isa.specs.declared.instr.Coprocessor.{Coprocessor}
use Rattle.m161_isa.specs.declared.instr.Instr.{Instr}
use Rattle.m161_isa.specs.declared.instr.Instr.TheVariants.{Absent, Reserved}
use Rattle.m161_cpu.specs.declared.fault.FaultKind.TheVariants.{ReservedInstruction}
use Rattle.m161_isa.specs.Table.{row_that_fits, numbers_of, absent_in}
use Rattle.m161_isa.specs.Instr.{row_of_instr, numbers_of_instr, instr_by, instr_of, misfit}
use Rattle.m161_cpu.specs.Scene.{Scene}
use Rattle.m161_cpu.specs.Fault.{fault}
use Rattle.m161_cpu.specs.Step.{change_of_row, change_by_row, misfit_kind}
use Rattle.m161_cpu.specs.helpers.Execute.{change_by, change_by_some, unit_in}

-- The instruction of a word does what the word's row does.

unit_in_misfit : (word : ℕ) (o : Option Coprocessor) → unit_in (misfit word o) ≡ o
unit_in_misfit word None = refl
unit_in_misfit word (Some unit) = refl

by_some : (s : Scene) (word : ℕ) (i : Instr) (o : Option Row) → i ≡ instr_by word o
    → numbers_of_instr i ≡ numbers_of word o →
    change_by_some s i o ≡ change_by_row s word o
by_some s word i (Some r) i_is numbers = ap (change_of_row s r) numbers
by_some s word i None i_is numbers =
    ap (λ u. Err (fault (misfit_kind u))) (ap unit_in i_is ∙ unit_in_misfit word (absent_in word))

pub decoded : (s : Scene) (word : ℕ) (i : Instr) →
    row_of_instr i ≡ row_that_fits word → numbers_of_instr i ≡ numbers_of word (row_that_fits word)
    → i ≡ instr_of word →
    change_by s i ≡ change_by_row s word (row_that_fits word)
unfolding change_by
decoded s word i row numbers value =
    ap (change_by_some s i) row ∙ by_some s word i (row_that_fits word) value numbers

-- an instruction of no row

pub absent : (s : Scene) (unit : Coprocessor)
    → change_by s (Absent unit) ≡ Err (fault (misfit_kind (Some unit)))
unfolding change_by
absent s unit = refl

pub reserved : (s : Scene) (word : ℕ)
    → change_by s (Reserved word) ≡ Err (fault ReservedInstruction)
unfolding change_by
reserved s word = refl

pub ruleset misfits = (absent, reserved)
