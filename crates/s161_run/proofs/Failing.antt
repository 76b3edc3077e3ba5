use Rattle.std.proofs.Common.{◌≡◌, ◌⊎◌, ◌∙◌, ℕ, List, Bool, true, false, if◌then◌else◌, Option, None, Some, Err, ap, inl, inr, refl, sym}
use Rattle.m161_elf.specs.declared.image.LoadError.{LoadError}
use Rattle.m161_elf.specs.Image.{first_fault}
use Rattle.m161_machine.specs.declared.conf.BootError.{BootError}
use Rattle.m161_machine.specs.declared.conf.Conf.{Conf as MachineConf}
use Rattle.m161_machine.specs.declared.event.Entry.{Entry}
use Rattle.m161_machine.specs.Conf.{is_within_limits}
use Rattle.m161_machine.specs.History.{boot_fault, load_fault}
use Rattle.m161_steplog.specs.Verdict.{Verifies}
use Rattle.s161_base.proofs.Failing.{boot_failed, refused}
use Rattle.s161_base.specs.Faults.{fault_of_boot, IsBootFault, IsUnloaded}
use Rattle.s161_base.specs.declared.fault.Fault.{Fault}
use Rattle.s161_base.specs.declared.fault.Fault.TheVariants.{Memory}
use Rattle.s161_base.specs.declared.fault.Unloaded.{Unloaded}
use Rattle.s161_base.specs.declared.fault.Unloaded.TheVariants.{Load, Segment}

-- Why a log isn't replayed.

why_unverified : (file : List ℕ) (conf : MachineConf) (fault : Option BootError) (log : List Entry) (e : BootError) → Verifies file conf fault log (Err e) →
    (fault ≡ Some e) ⊎ (e ≡ BootError.NoMemory)
why_unverified file conf (Some first) log e h = inl (ap (λ x. Some x) (sym h))
why_unverified file conf None log e h = inr h

-- the boot's answer, which comes first
pub verify_refused : (file : List ℕ) (conf : MachineConf) (log : List Entry) (e : BootError) → Verifies file conf (boot_fault file conf) log (Err e) →
    IsBootFault file conf (fault_of_boot file conf.ram e)
verify_refused file conf log e h = refused file conf e (why_unverified file conf (boot_fault file conf) log e h)

-- where nothing is at fault, a boot fails only for want of memory: `P` is what is said of it

within : (limits : Bool) (first : Option BootError) → (if limits then first else Some BootError.BadConf) ≡ None → limits ≡ false → ⊥
within true first none outside = cc
within false first none outside = cc

sound : (file : List ℕ) (conf : MachineConf) (why : Unloaded) → boot_fault file conf ≡ None → IsUnloaded file conf why → ⊥
sound file conf (Load e) none h = let no : ◌≡◌ {A = Option BootError} None (Some (BootError.Load e)) = sym none ∙ h.0 in cc
sound file conf (Segment s) none h =
    let no : ◌≡◌ {A = Option BootError} None (Some (BootError.Load LoadError.SegmentOutsideRam)) = sym none ∙ h.0 in cc

pub only_memory : (file : List ℕ) (conf : MachineConf) (fault : Fault) → boot_fault file conf ≡ None → IsBootFault file conf fault → fault ≡ Memory
only_memory file conf fault none h =
    boot_failed (λ f. f ≡ Memory) file conf fault
    (λ outside. absurd (within (is_within_limits conf) (load_fault (first_fault file conf.ram)) none outside))
    (λ why has. absurd (sound file conf why none has)) refl h
