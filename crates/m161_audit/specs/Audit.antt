use Rattle.std.specs.Prelude.{◌≡◌, ℕ, List, Option, None, Some, Result, Ok, Err}
use Rattle.m161_machine.specs.declared.conf.Conf.{Conf}
use Rattle.m161_machine.specs.declared.conf.BootError.{BootError}
use Rattle.m161_machine.specs.declared.conf.BootError.TheVariants.{NoMemory}
use Rattle.m161_machine.specs.declared.event.Event.{Event}
use Rattle.m161_machine.specs.History.{History, IsBooted, boot_state}
use Rattle.m161_machine.specs.State.{State}
use Rattle.m161_machine.specs.StoreHistory.{without_stores}
use Rattle.m161_audit.specs.declared.finding.AuditError.{AuditError}
use Rattle.m161_audit.specs.declared.finding.AuditError.TheVariants.{Boot, BadWatch}
use Rattle.m161_audit.specs.declared.finding.Finding.{Finding}
use Rattle.m161_audit.specs.declared.watch.Watch.{Watch}
use Rattle.m161_audit.specs.Watch.{AreGood, IsBad}
use Rattle.m161_audit.specs.Stale.{IsFinding}

-- The result of an audit.

-- without a reason not to boot: if no watch is bad, the finding of the run from the state at boot,
-- in which nothing was stored; or the first bad watch; or memory was refused
abbrev pub AuditsBooted :
    List ℕ → Conf → List Event → List Watch → Result Finding AuditError → Type 0
AuditsBooted file conf events watches (Ok finding) =
    ((k : ℕ) → AreGood conf.ram watches k)
    × ((m : History) × IsBooted file conf m
    × IsFinding (without_stores (boot_state m.start)) events watches finding)
AuditsBooted file conf events watches (Err (Boot e)) = e ≡ NoMemory
AuditsBooted file conf events watches (Err (BadWatch k)) =
    IsBad conf.ram watches k × AreGood conf.ram watches k

-- by the first reason not to boot
abbrev pub Audits :
    List ℕ → Conf → Option BootError → List Event → List Watch → Result Finding AuditError → Type 0
Audits file conf (Some first) events watches result = result ≡ Err (Boot first)
Audits file conf None events watches result = AuditsBooted file conf events watches result

-- the same of a run from any state, before which nothing counts as stored
abbrev pub AuditsState : State → List Event → List Watch → Result Finding AuditError → Type 0
AuditsState s events watches (Ok finding) =
    ((k : ℕ) → AreGood s.conf.ram watches k)
    × IsFinding (without_stores s) events watches finding
AuditsState s events watches (Err (Boot e)) = e ≡ NoMemory
AuditsState s events watches (Err (BadWatch k)) =
    IsBad s.conf.ram watches k × AreGood s.conf.ram watches k
