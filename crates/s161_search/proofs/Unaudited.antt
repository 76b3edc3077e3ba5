use Rattle.std.proofs.Common.{◌≡◌, ◌⊎◌, ◌∙◌, ℕ, List, false, Option, None, Some, Err, ap, inl, inr, refl}
use Rattle.m161_machine.specs.declared.conf.BootError.{BootError}
use Rattle.m161_machine.specs.declared.conf.Conf.{Conf as MachineConf}
use Rattle.m161_machine.specs.declared.event.Event.{Event}
use Rattle.m161_machine.specs.Conf.{is_within_limits}
use Rattle.m161_machine.specs.History.{boot_fault}
use Rattle.m161_audit.specs.declared.finding.AuditError.{AuditError}
use Rattle.m161_audit.specs.declared.finding.AuditError.TheVariants as audit
use Rattle.m161_audit.specs.declared.watch.Watch.{Watch as Watched}
use Rattle.m161_audit.specs.Audit.{Audits}
use Rattle.m161_audit.specs.Watch.{AreGood, IsBad}
use Rattle.m161_audit.specs.WatchText.{AreWatchLines}
use Rattle.m161_text.specs.Lines.{FirstBad}
use Rattle.s161_base.proofs.Failing.{boot_failed, refused}
use Rattle.s161_base.specs.declared.fault.Fault.{Fault}
use Rattle.s161_base.specs.declared.fault.Fault.TheVariants.{After, Conf, File, Image, Input, Log, LogImage, LogMachine, Memory, Never, Output, Schedule, Source, Threads, Touches, Watch, Watches, Word}
use Rattle.s161_base.specs.declared.fault.Unloaded.{Unloaded}
use Rattle.s161_base.specs.Faults.{fault_of_boot, IsUnloaded}
use Rattle.s161_search.specs.Audits.{fault_of_audit, IsWatchesFault}

-- Why an audit ends early: `P` is what is said of its fault.

-- the fault of a text of watches
pub watches_failed : (P : Fault → Type 0) (text : List ℕ) (fault : Fault) → ((n : ℕ) → FirstBad AreWatchLines text n → P (Watches n)) → P Memory →
    IsWatchesFault text fault → P fault
watches_failed P text (Watches n) line memory h = line n h
watches_failed P text Memory line memory h = memory
watches_failed P text (File name why) line memory h = absurd h
watches_failed P text (Schedule n) line memory h = absurd h
watches_failed P text (Log n) line memory h = absurd h
watches_failed P text (Watch k) line memory h = absurd h
watches_failed P text (Never word) line memory h = absurd h
watches_failed P text (Touches word) line memory h = absurd h
watches_failed P text (After k why) line memory h = absurd h
watches_failed P text (Threads cause) line memory h = absurd h
watches_failed P text Conf line memory h = absurd h
watches_failed P text (Image e) line memory h = absurd h
watches_failed P text (Input why) line memory h = absurd h
watches_failed P text Word line memory h = absurd h
watches_failed P text LogMachine line memory h = absurd h
watches_failed P text LogImage line memory h = absurd h
watches_failed P text Output line memory h = absurd h
watches_failed P text (Source e) line memory h = absurd h

module _ (P : Fault → Type 0) (conf : MachineConf) (file : List ℕ) (events : List Event) (watched : List Watched)
    (limits : is_within_limits conf ≡ false → P Conf) (image : (why : Unloaded) → IsUnloaded file conf why → P (Image why)) (memory : P Memory)
    (watch : (k : ℕ) → boot_fault file conf ≡ None → IsBad conf.ram watched k × AreGood conf.ram watched k → P (Watch k)) where
  boot_fails : (x : BootError) → (boot_fault file conf ≡ Some x) ⊎ (x ≡ BootError.NoMemory) → P (fault_of_boot file conf.ram x)
  boot_fails x h = boot_failed P file conf (fault_of_boot file conf.ram x) limits image memory (refused file conf x h)

  audit_fails : (e : AuditError) (fault : Option BootError) → boot_fault file conf ≡ fault → Audits file conf fault events watched (Err e) →
      P (fault_of_audit file conf.ram e)
  audit_fails (audit.Boot x) (Some first) has h = boot_fails x (inl (has ∙ ap (λ e. Some e) (let same : first ≡ x = cc in same)))
  audit_fails (audit.BadWatch k) (Some first) has h = absurd (cc)
  audit_fails (audit.Boot x) None has h = boot_fails x (inr h)
  audit_fails (audit.BadWatch k) None has h = watch k has h

  -- an audit's, which boots first
  pub audit_failed : (e : AuditError) → Audits file conf (boot_fault file conf) events watched (Err e) → P (fault_of_audit file conf.ram e)
  audit_failed e h = audit_fails e (boot_fault file conf) refl h
