use Rattle.std.specs.Prelude.{◌≡◌, ◌≢◌, ℕ, false, List, None, Some, Ok}
use Rattle.std.specs.Option.{option_map_or}
use Rattle.m161_asm.specs.declared.error.AsmError.{AsmError}
use Rattle.m161_asm.specs.declared.error.ErrorKind.{ErrorKind}
use Rattle.m161_asm.specs.declared.error.ErrorKind.TheVariants as asm
use Rattle.m161_elf.specs.declared.image.LoadError.{LoadError}
use Rattle.m161_elf.specs.declared.image.LoadError.TheVariants as fault
use Rattle.m161_machine.specs.Conf.{is_within_limits}
use Rattle.m161_machine.specs.declared.conf.Conf.{Conf as Size}
use Rattle.m161_machine.specs.declared.conf.BootError.{BootError}
use Rattle.m161_machine.specs.declared.conf.BootError.TheVariants as boot
use Rattle.m161_machine.specs.declared.event.Refusal.{Refusal}
use Rattle.m161_machine.specs.declared.event.Refusal.TheVariants as refusal
use Rattle.m161_steplog.specs.declared.fault.TextFault.{TextFault}
use Rattle.m161_steplog.specs.declared.fault.TextFault.TheVariants as text
use Rattle.m161_machine.specs.History.{History, Boots, IsBootState, boot_fault}
use Rattle.m161_machine.specs.State.{State}
use Rattle.m161_elf.specs.Outside.{first_outside_ram}
use Rattle.s161_base.specs.declared.excerpt.SourceError.{SourceError}
use Rattle.s161_base.specs.declared.fault.Fault.{Fault}
use Rattle.s161_base.specs.declared.fault.Fault.TheVariants.{After, Conf, Image, Log, Memory, Schedule, Source, Watches}
use Rattle.s161_base.specs.declared.fault.Unloaded.{Unloaded}
use Rattle.s161_base.specs.declared.fault.Unloaded.TheVariants.{Load, Segment}
use Rattle.s161_base.specs.Excerpts.{IsWordAt, characters_of}

-- How a command boots a file, and why it ends early.

-- there is no reason not to boot this file, and booted is the machine
abbrev pub BootsTo : List ℕ → Size → History → Type 0
BootsTo file conf booted = Boots file conf (boot_fault file conf) (Ok booted)

-- the same where only the state is wanted, with no log
abbrev pub BootsIn : List ℕ → Size → State → Type 0
BootsIn file conf booted = (boot_fault file conf ≡ None) × IsBootState file conf booted

-- the fault of a file that isn't loaded
abbrev pub error_of : Unloaded → LoadError
error_of (Load e) = e
error_of (Segment s) = fault.SegmentOutsideRam

-- why this file isn't loaded in `ram` bytes of RAM, by its fault: of a segment that isn't in RAM it has
-- the first such segment
abbrev pub unloaded_in : List ℕ → ℕ → LoadError → Unloaded
unloaded_in file ram fault.SegmentOutsideRam =
    option_map_or Segment (first_outside_ram file ram) (Load fault.SegmentOutsideRam)
unloaded_in file ram e = Load e

-- why a machine isn't booted from this file in `ram` bytes of RAM, as a fault of the command
abbrev pub fault_of_boot : List ℕ → ℕ → BootError → Fault
fault_of_boot file ram boot.BadConf = Conf
fault_of_boot file ram (boot.Load e) = Image (unloaded_in file ram e)
fault_of_boot file ram boot.NoMemory = Memory

-- this is why a file isn't loaded in a machine: its first fault, which is no segment outside RAM; or
-- that, and of such segments the first
abbrev pub IsUnloaded : List ℕ → Size → Unloaded → Type 0
IsUnloaded file conf (Load e) =
    (boot_fault file conf ≡ Some (boot.Load e)) × (e ≢ fault.SegmentOutsideRam)
IsUnloaded file conf (Segment s) =
    (boot_fault file conf ≡ Some (boot.Load fault.SegmentOutsideRam))
    × (first_outside_ram file conf.ram ≡ Some s)

-- why a file isn't booted in a machine, unless memory was refused
abbrev pub IsBootFault : List ℕ → Size → Fault → Type 0
IsBootFault file conf Conf = is_within_limits conf ≡ false
IsBootFault file conf (Image why) = IsUnloaded file conf why
IsBootFault file conf Memory = Unit {0}
IsBootFault file conf _ = ⊥

-- why a schedule can't be read, as a fault of the command
abbrev pub fault_of_schedule : TextFault → Fault
fault_of_schedule (text.Line n) = Schedule n
fault_of_schedule text.NoMemory = Memory

-- why a log can't be read
abbrev pub fault_of_log : TextFault → Fault
fault_of_log (text.Line n) = Log n
fault_of_log text.NoMemory = Memory

-- why watches can't be read
abbrev pub fault_of_watches : TextFault → Fault
fault_of_watches (text.Line n) = Watches n
fault_of_watches text.NoMemory = Memory

-- why the machine refused event k, from 0, of the file of `--after`, as a fault of the command
abbrev pub fault_of_first : ℕ → Refusal → Fault
fault_of_first k refusal.NoMemory = Memory
fault_of_first k why = After k why

-- why a file isn't loaded, as a fault of the command
abbrev pub fault_of_load : LoadError → Fault
fault_of_load fault.NoMemory = Memory
fault_of_load e = Image (Load e)

-- a text of this kind of error, as a fault of the command: with what stands at its place
abbrev pub IsErrorOf : AsmError → List ℕ → Fault → Type 0
IsErrorOf e source fault =
    (at : SourceError) × (fault ≡ Source at) × (at.error ≡ e)
    × IsWordAt source e.line e.column (characters_of at.word)

-- why a text isn't assembled, as a fault of the command
abbrev pub IsFaultOfSource : ErrorKind → AsmError → List ℕ → Fault → Type 0
IsFaultOfSource asm.NoMemory e source fault = fault ≡ Memory
IsFaultOfSource _ e source fault = IsErrorOf e source fault
