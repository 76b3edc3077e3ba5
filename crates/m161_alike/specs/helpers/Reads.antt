use Rattle.std.specs.Prelude.{true, false}
use Rattle.m161_isa.specs.declared.instr.Instr.{Instr}
use Rattle.m161_isa.specs.declared.instr.Instr.TheVariants.{MoveFromCop0, Plain}
use Rattle.m161_isa.specs.declared.instr.PlainOp.TheVariants as plain
use Rattle.m161_cop0.specs.Registers.{register_with}
use Rattle.m161_alike.specs.declared.reads.Reads.{Reads}
use Rattle.m161_alike.specs.Reads.{no_reads, reads, reads_of_register}

-- what an instruction reads of time
abbrev pub reads_of_instr : Instr → Reads
reads_of_instr (MoveFromCop0 rt register) = reads_of_register (register_with register)
reads_of_instr (Plain plain.Tlbwr) = reads true false
reads_of_instr _ = no_reads
