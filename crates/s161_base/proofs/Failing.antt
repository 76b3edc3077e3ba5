use Rattle.std.specs.Prelude.{IsSome}
use Rattle.std.specs.Option.{option_map_or}
use Rattle.std.proofs.Common.{◌≡◌, ◌⊎◌, ℕ, List, Bool, true, false, if◌then◌else◌, Option, None, Some, Ok, Err, ap, inl, inr, refl, sym}
use Rattle.m161_elf.specs.declared.image.LoadError.{LoadError}
use Rattle.m161_elf.specs.declared.image.LoadError.TheVariants as elf
use Rattle.m161_elf.specs.Image.{first_fault}
use Rattle.m161_machine.specs.declared.conf.BootError.{BootError}
use Rattle.m161_machine.specs.declared.conf.Conf.{Conf as MachineConf}
use Rattle.m161_machine.specs.Conf.{is_within_limits}
use Rattle.m161_machine.specs.History.{Boots, BootsState, IsBootState, boot_fault, load_fault}
use Rattle.m161_machine.specs.State.{CoreValue}
use Rattle.m161_elf.proofs.FoundOutside.{found}
use Rattle.m161_elf.specs.declared.outside.OutsideRam.{OutsideRam}
use Rattle.m161_elf.specs.Outside.{first_outside_ram}
use Rattle.m161_text.specs.Lines.{FirstBad}
use Rattle.m161_steplog.specs.Comments.{IsFirstBadOfLog}
use Rattle.m161_steplog.specs.Schedule.{AreScheduleLines}
use Rattle.s161_base.specs.Faults.{fault_of_boot, unloaded_in, IsBootFault, IsUnloaded}
use Rattle.s161_base.specs.Texts.{IsLogFault, IsScheduleFault}
use Rattle.s161_base.specs.declared.fault.Fault.{Fault}
use Rattle.s161_base.specs.declared.fault.Fault.TheVariants.{After, Conf, File, Image, Input, Log, LogImage, LogMachine, Memory, Never, Output, Schedule, Source, Threads, Touches, Watch, Watches, Word}
use Rattle.s161_base.specs.declared.fault.Unloaded.{Unloaded}
use Rattle.s161_base.specs.declared.fault.Unloaded.TheVariants.{Load, Segment}

-- Why a command ends early: `P` is what is said of its fault.

-- a schedule's fault
pub schedule_failed : (P : Fault → Type 0) (text : List ℕ) (fault : Fault) → ((n : ℕ) → FirstBad AreScheduleLines text n → P (Schedule n)) → P Memory →
    IsScheduleFault text fault → P fault
schedule_failed P text (Schedule n) line memory h = line n h
schedule_failed P text Memory line memory h = memory
schedule_failed P text (File name why) line memory h = absurd h
schedule_failed P text (Log n) line memory h = absurd h
schedule_failed P text (Watches n) line memory h = absurd h
schedule_failed P text (Watch k) line memory h = absurd h
schedule_failed P text (Never word) line memory h = absurd h
schedule_failed P text (Touches word) line memory h = absurd h
schedule_failed P text (Threads cause) line memory h = absurd h
schedule_failed P text (After k why) line memory h = absurd h
schedule_failed P text Conf line memory h = absurd h
schedule_failed P text (Image e) line memory h = absurd h
schedule_failed P text (Input why) line memory h = absurd h
schedule_failed P text Word line memory h = absurd h
schedule_failed P text LogMachine line memory h = absurd h
schedule_failed P text LogImage line memory h = absurd h
schedule_failed P text Output line memory h = absurd h
schedule_failed P text (Source e) line memory h = absurd h

-- a log's fault
pub log_failed : (P : Fault → Type 0) (text : List ℕ) (fault : Fault) → ((n : ℕ) → IsFirstBadOfLog text n → P (Log n)) → P Memory →
    IsLogFault text fault → P fault
log_failed P text (Log n) line memory h = line n h
log_failed P text Memory line memory h = memory
log_failed P text (File name why) line memory h = absurd h
log_failed P text (Schedule n) line memory h = absurd h
log_failed P text (Watches n) line memory h = absurd h
log_failed P text (Watch k) line memory h = absurd h
log_failed P text (Never word) line memory h = absurd h
log_failed P text (Touches word) line memory h = absurd h
log_failed P text (Threads cause) line memory h = absurd h
log_failed P text (After k why) line memory h = absurd h
log_failed P text Conf line memory h = absurd h
log_failed P text (Image e) line memory h = absurd h
log_failed P text (Input why) line memory h = absurd h
log_failed P text Word line memory h = absurd h
log_failed P text LogMachine line memory h = absurd h
log_failed P text LogImage line memory h = absurd h
log_failed P text Output line memory h = absurd h
log_failed P text (Source e) line memory h = absurd h

-- a file's fault is none of the configuration
not_conf : (fault : Option LoadError) → load_fault fault ≡ Some BootError.BadConf → ⊥
not_conf None h = let bad : ◌≡◌ {A = Option BootError} None (Some BootError.BadConf) = h in cc
not_conf (Some e) h = let bad : ◌≡◌ {A = Option BootError} (Some (BootError.Load e)) (Some BootError.BadConf) = h in cc

outside : (b : Bool) (file : List ℕ) (conf : MachineConf) → is_within_limits conf ≡ b → boot_fault file conf ≡ Some BootError.BadConf → is_within_limits conf ≡ false
outside false file conf is h = is
outside true file conf is h = absurd (not_conf (first_fault file conf.ram) (rw is at h))

why_not : (file : List ℕ) (conf : MachineConf) (fault : Option BootError) (e : BootError) → Boots file conf fault (Err e) → (fault ≡ Some e) ⊎ (e ≡ BootError.NoMemory)
why_not file conf (Some first) e h = inl (ap (λ x. Some x) (sym h))
why_not file conf None e h = inr h

-- a boot's fault of the file is the file's
file_fault : (within : Bool) (first : Option LoadError) (e : LoadError) →
    (if within then load_fault first else Some BootError.BadConf) ≡ Some (BootError.Load e) → first ≡ Some e
file_fault true None e h = absurd (cc)
file_fault true (Some first) e h = cc
file_fault false first e h = absurd (cc)

-- the first segment that isn't in RAM is found, and the fault has it
with_segment : (file : List ℕ) (conf : MachineConf) → boot_fault file conf ≡ Some (BootError.Load elf.SegmentOutsideRam) → (first : Option OutsideRam) →
    first_outside_ram file conf.ram ≡ first → IsSome first → IsUnloaded file conf (option_map_or Segment first (Load elf.SegmentOutsideRam))
with_segment file conf h (Some s) is some = (h, is)
with_segment file conf h None is some = absurd (cc)

pub unloaded : (file : List ℕ) (conf : MachineConf) (e : LoadError) → boot_fault file conf ≡ Some (BootError.Load e) →
    IsUnloaded file conf (unloaded_in file conf.ram e)
unloaded file conf elf.Truncated h = (h, λ x. (cc))
unloaded file conf elf.NotElf32Big h = (h, λ x. (cc))
unloaded file conf elf.NotExecutable h = (h, λ x. (cc))
unloaded file conf elf.NotMips h = (h, λ x. (cc))
unloaded file conf elf.BadHeaderTable h = (h, λ x. (cc))
unloaded file conf elf.SegmentOutsideFile h = (h, λ x. (cc))
unloaded file conf elf.SegmentOutsideRam h =
    let first = file_fault (is_within_limits conf) (first_fault file conf.ram) elf.SegmentOutsideRam h in
    with_segment file conf h (first_outside_ram file conf.ram) refl (found file conf.ram first)
unloaded file conf elf.FileLargerThanMemory h = (h, λ x. (cc))
unloaded file conf elf.BadEntry h = (h, λ x. (cc))
unloaded file conf elf.NoMemory h = (h, λ x. (cc))

-- so is a boot's answer
pub refused : (file : List ℕ) (conf : MachineConf) (e : BootError) → (boot_fault file conf ≡ Some e) ⊎ (e ≡ BootError.NoMemory) →
    IsBootFault file conf (fault_of_boot file conf.ram e)
refused file conf BootError.BadConf (inl h) = outside (is_within_limits conf) file conf refl h
refused file conf BootError.BadConf (inr h) = absurd (cc)
refused file conf (BootError.Load e) (inl h) = unloaded file conf e h
refused file conf (BootError.Load e) (inr h) = absurd (cc)
refused file conf BootError.NoMemory h = tt

pub boot_refused : (file : List ℕ) (conf : MachineConf) (e : BootError) → Boots file conf (boot_fault file conf) (Err e) →
    IsBootFault file conf (fault_of_boot file conf.ram e)
boot_refused file conf e h = refused file conf e (why_not file conf (boot_fault file conf) e h)

-- that of a boot that gives the state alone
why_no_state : (file : List ℕ) (conf : MachineConf) (fault : Option BootError) (e : BootError) → BootsState file conf fault (Err e) →
    (fault ≡ Some e) ⊎ (e ≡ BootError.NoMemory)
why_no_state file conf (Some first) e h = inl (ap (λ x. Some x) (sym h))
why_no_state file conf None e h = inr h

pub state_refused : (file : List ℕ) (conf : MachineConf) (e : BootError) → BootsState file conf (boot_fault file conf) (Err e) →
    IsBootFault file conf (fault_of_boot file conf.ram e)
state_refused file conf e h = refused file conf e (why_no_state file conf (boot_fault file conf) e h)

-- and the state, where there is one
pub state_booted : (file : List ℕ) (conf : MachineConf) (fault : Option BootError) (core : CoreValue) → BootsState file conf fault (Ok core) →
    (fault ≡ None) × IsBootState file conf core.state
state_booted file conf (Some first) core h = absurd h
state_booted file conf None core h = (refl, h)

-- a boot's fault
pub boot_failed : (P : Fault → Type 0) (file : List ℕ) (conf : MachineConf) (fault : Fault) → (is_within_limits conf ≡ false → P Conf) →
    ((why : Unloaded) → IsUnloaded file conf why → P (Image why)) → P Memory → IsBootFault file conf fault → P fault
boot_failed P file conf Conf limits image memory h = limits h
boot_failed P file conf (Image why) limits image memory h = image why h
boot_failed P file conf Memory limits image memory h = memory
boot_failed P file conf (File name why) limits image memory h = absurd h
boot_failed P file conf (Schedule n) limits image memory h = absurd h
boot_failed P file conf (Log n) limits image memory h = absurd h
boot_failed P file conf (Watches n) limits image memory h = absurd h
boot_failed P file conf (Watch k) limits image memory h = absurd h
boot_failed P file conf (Never word) limits image memory h = absurd h
boot_failed P file conf (Touches word) limits image memory h = absurd h
boot_failed P file conf (Threads cause) limits image memory h = absurd h
boot_failed P file conf (After k why) limits image memory h = absurd h
boot_failed P file conf (Input why) limits image memory h = absurd h
boot_failed P file conf Word limits image memory h = absurd h
boot_failed P file conf LogMachine limits image memory h = absurd h
boot_failed P file conf LogImage limits image memory h = absurd h
boot_failed P file conf Output limits image memory h = absurd h
boot_failed P file conf (Source e) limits image memory h = absurd h
