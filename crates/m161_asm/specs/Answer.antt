use Rattle.std.specs.Prelude.{◌≡◌, ◌⊎◌, ℕ, ◌≤◌, Result, Ok, Err}
use Rattle.m161_asm.specs.declared.error.AsmError.{AsmError}
use Rattle.m161_asm.specs.declared.error.ErrorKind.TheVariants as faults
use Rattle.m161_asm.specs.declared.program.Program.{Program as CodeProgram}
use Rattle.m161_asm.specs.Lines.{SourceFault}
use Rattle.m161_asm.specs.Text.{Program}
use Rattle.m161_asm.specs.Seen.{symbols_seen}
use Rattle.m161_asm.specs.Segments.{segments_seen}

-- The result that a caller gets.

-- the code's program
abbrev pub program_seen : CodeProgram → Program
program_seen p = record {
  segments = segments_seen p.segments.items;
  symbols = symbols_seen p.symbols;
  entry = p.entry;
}

-- a result, seen by `view`, is the defined one; an error is that memory was refused, or the defined
-- fault
abbrev pub Tells : {X Y : Type 0} → (X → Y) → Result X AsmError → Result Y (ℕ × SourceFault) → Type 0
Tells view (Ok x) defined = defined ≡ Ok (view x)
Tells view (Err e) defined =
    ((e.kind ≡ faults.NoMemory) × (e.column ≡ 1)) ⊎ (defined ≡ Err (e.line, (e.kind, e.column)))

-- an error's line is from 1 to this number of lines
abbrev pub IsWithinLines : ℕ → AsmError → Type 0
IsWithinLines count e = (1 ≤ e.line) × (e.line ≤ count)
