use Rattle.std.specs.Prelude.{Bool, true, false}
use Rattle.m161_isa.specs.declared.instr.Instr.{Instr}
use Rattle.m161_isa.specs.declared.instr.Instr.TheVariants.{Absent, Reserved}

-- the instruction has no row
abbrev pub is_misfit : Instr → Bool
is_misfit (Absent _) = true
is_misfit (Reserved _) = true
is_misfit _ = false
