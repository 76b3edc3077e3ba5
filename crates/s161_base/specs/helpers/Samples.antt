use Rattle.std.specs.Prelude.{◌≡◌, Result, Ok, Err}
use Rattle.m161_asm.specs.declared.error.AsmError.{AsmError}
use Rattle.m161_asm.specs.declared.error.ErrorKind.TheVariants.{NoMemory}
use Rattle.m161_asm.specs.declared.program.Program.{Program}
use Rattle.m161_asm.specs.Seen.{symbols_seen}
use Rattle.m161_asm.specs.Segments.{segments_seen}
use Rattle.s161_base.specs.Samples.{sample_entry, sample_labels, sample_segments}

-- the sample is assembled, or memory was refused
abbrev pub IsSample : Result Program AsmError → Type 0
IsSample (Ok p) =
    (p.entry ≡ sample_entry) × (segments_seen p.segments.items ≡ sample_segments)
    × (symbols_seen p.symbols ≡ sample_labels)
IsSample (Err e) = e.kind ≡ NoMemory
