use Rattle.std.specs.Prelude.{ℕ, Result}
use Rattle.m161_asm.specs.declared.statement.Reach.{Reach}
use Rattle.m161_asm.specs.declared.statement.Reach.TheVariants as reach
use Rattle.m161_asm.specs.Lines.{SourceFault}
use Rattle.m161_asm.specs.Text.{branch_field, jump_field}

-- the field of a branch or a jump at an address
abbrev pub target_field : Reach → ℕ → ℕ → ℕ → Result ℕ SourceFault
target_field reach.Branch at column target = branch_field at column target
target_field reach.Jump at column target = jump_field at column target
