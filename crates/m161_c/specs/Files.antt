use Rattle.std.specs.Prelude.{◌≡◌, ◌⊎◌, ℕ, ◌+◌, Bool, if◌then◌else◌, List, Some, Result, Ok, Err}
use Rattle.std.specs.Str.{IsUtf8}
use Rattle.m161_isa.specs.declared.link.LinkUnit.TheVariants.{Line, Word}
use Rattle.m161_asm.specs.declared.error.AsmError.{AsmError}
use Rattle.m161_asm.specs.declared.error.ErrorKind.TheVariants as faults
use Rattle.m161_asm.specs.Kinds.{number_of_kind}
use Rattle.m161_asm.specs.Lines.{SourceFault}
use Rattle.m161_asm.specs.Text.{Program, text}
use Rattle.m161_elf.specs.LoadError.{number_of_fault}
use Rattle.m161_elf_writer.specs.Written.{elf_bytes}
use Rattle.m161_elf_writer.specs.Labels.{file_with_symbols}
use Rattle.m161_machine.specs.declared.conf.Conf.{Conf}
use Rattle.m161_machine.specs.declared.conf.BootError.{BootError}
use Rattle.m161_machine.specs.declared.conf.BootError.TheVariants.{BadConf, Load, NoMemory}
use Rattle.m161_machine.specs.History.{History, Boots, boot_fault}
use Rattle.m161_c.specs.declared.answer.FaultPlace.{FaultPlace}
use Rattle.m161_c.specs.declared.answer.Size.{Size}
use Rattle.m161_c.specs.declared.session.Session.{Session}

-- Texts that are assembled, and files that are booted.

-- the file of a program, with its labels or without
abbrev pub file_of : Bool → Program → List ℕ
file_of symbols p =
    if symbols then file_with_symbols p.entry p.segments p.symbols else elf_bytes p.entry p.segments

-- the file of a text, or the error: that memory was refused, or the text's fault
abbrev pub TellsFile : Bool → Result (List ℕ) AsmError → Result Program (ℕ × SourceFault) → Type 0
TellsFile symbols (Ok file) defined = (p : Program) × (defined ≡ Ok p) × (file ≡ file_of symbols p)
TellsFile symbols (Err e) defined =
    ((e.kind ≡ faults.NoMemory) × (e.column ≡ 1)) ⊎ (defined ≡ Err (e.line, (e.kind, e.column)))

-- the file becomes the session's bytes; or nothing is changed, and the fault is told
abbrev pub KeepsFile : Result (List ℕ) AsmError → ℕ → FaultPlace → FaultPlace → Session → Session → Type 0
KeepsFile (Ok file) answer before after s t =
    (answer ≡ 0) × (after ≡ before) × (t.machine ≡ s.machine) × (t.bytes.items ≡ file)
KeepsFile (Err e) answer before after s t =
    (answer ≡ number_of_kind e.kind) × (after ≡ record { line = e.line; column = e.column })
    × (t ≡ s)

abbrev pub Assembles : List ℕ → Bool → ℕ → FaultPlace → FaultPlace → Session → Session → Type 0
Assembles source symbols answer before after s t =
    (result : Result (List ℕ) AsmError) × TellsFile symbols result (text source)
    × KeepsFile result answer before after s t

-- a text that isn't UTF-8 is not assembled
abbrev pub AssemblesAs : List ℕ → Bool → ℕ → FaultPlace → FaultPlace → Session → Session → Type 0
AssemblesAs source symbols answer before after s t =
    IsUtf8 source × Assembles source symbols answer before after s t
    ⊎ (IsUtf8 source → ⊥) × (answer ≡ 253) × (after ≡ before) × (t ≡ s)

-- Boots.

-- the machine of this size
abbrev pub conf_in : Size → Conf
conf_in size = record {
  ram = size.ram;
  processors = size.processors;
  log = size.log;
  link = if size.line then Line else Word;
  strict = size.strict;
}

-- 0; or the number of the error: its place in their order, but for refused memory
abbrev pub number_of_boot : Result History BootError → ℕ
number_of_boot (Ok m) = 0
number_of_boot (Err BadConf) = 1
number_of_boot (Err (Load fault)) = 1 + number_of_fault fault
number_of_boot (Err NoMemory) = 254

-- the machine is the session's from now on; or nothing is changed
abbrev pub KeepsMachine : Result History BootError → Session → Session → Type 0
KeepsMachine (Ok m) s t = (t.machine ≡ Some m) × (t.bytes ≡ s.bytes)
KeepsMachine (Err e) s t = t ≡ s

abbrev pub BootsAs : List ℕ → Conf → ℕ → Session → Session → Type 0
BootsAs file conf answer s t =
    (result : Result History BootError) × Boots file conf (boot_fault file conf) result
    × (answer ≡ number_of_boot result) × KeepsMachine result s t
