use Rattle.std.specs.Prelude.{[], Option, None, Some}
use Rattle.std.proofs.Common.{◌≡◌, ℕ, refl}
use Rattle.m161_isa.specs.declared.table.Row.{Row}
use Rattle.m161_isa.specs.declared.table.Row.TheVariants as rows
use Rattle.m161_isa.specs.declared.instr.Coprocessor.{Coprocessor}
use Rattle.m161_isa.specs.Table.{absent_in, numbers_of}
use Rattle.m161_isa.specs.Instr.{row_of_instr, numbers_of_instr, misfit, instr_by}

-- What the instruction of a word is made of. In a lemma by rows the last equation stands for the 68
-- other rows, and is checked at each.

row_of_instr-misfit : (word : ℕ) (c : Option Coprocessor) → row_of_instr (misfit word c) ≡ None
row_of_instr-misfit word None = refl
row_of_instr-misfit word (Some unit) = refl

numbers_of_instr-misfit : (word : ℕ) (c : Option Coprocessor)
    → numbers_of_instr (misfit word c) ≡ []
numbers_of_instr-misfit word None = refl
numbers_of_instr-misfit word (Some unit) = refl

pub row_of_instr-instr_by : (word : ℕ) (o : Option Row) → row_of_instr (instr_by word o) ≡ o
row_of_instr-instr_by word None = row_of_instr-misfit word (absent_in word)
row_of_instr-instr_by word (Some rows.Sll) = refl
row_of_instr-instr_by word (Some _) = refl

pub numbers_of_instr-instr_by : (word : ℕ) (o : Option Row)
    → numbers_of_instr (instr_by word o) ≡ numbers_of word o
numbers_of_instr-instr_by word None = numbers_of_instr-misfit word (absent_in word)
numbers_of_instr-instr_by word (Some rows.Sll) = refl
numbers_of_instr-instr_by word (Some _) = refl

-- words with the same numbers in a row's operands have the same instruction by it
pub instr_by-same : (u word : ℕ) (r : Row) → numbers_of u (Some r) ≡ numbers_of word (Some r)
    → instr_by u (Some r) ≡ instr_by word (Some r)
instr_by-same u word rows.Sll e = cc
instr_by-same u word _ e = cc
