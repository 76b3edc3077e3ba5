use Rattle.std.specs.Prelude.{◌≡◌, ℕ, List, Option, None, Some, Result, Ok, Err}
use Rattle.std.proofs.Common.{Bor}
use Rattle.m161_machine.specs.declared.conf.Conf.{Conf}
use Rattle.m161_machine.specs.declared.conf.BootError.{BootError}
use Rattle.m161_machine.specs.declared.conf.BootError.TheVariants.{NoMemory}
use Rattle.m161_machine.specs.declared.event.Event.{Event}
use Rattle.m161_machine.specs.History.{IsBootState}
use Rattle.m161_machine.specs.State.{State}
use Rattle.m161_audit.specs.declared.finding.AuditError.{AuditError}
use Rattle.m161_audit.specs.declared.finding.AuditError.TheVariants.{Boot, BadWatch}
use Rattle.m161_audit.specs.declared.watch.Watch.{Watch}
use Rattle.m161_audit.specs.Watch.{AreGood, IsBad}
use Rattle.m161_judge.specs.declared.verdict.Judged.{Judged}
use Rattle.m161_judge.specs.Verdict.{Criteria, IsJudged}

-- The result of judging a list of events.

-- the bytes of an output that is asked for
abbrev pub bytes_of : Option (Bor (List ℕ)) → Option (List ℕ)
bytes_of None = None
bytes_of (Some output) = Some output.now

-- the state of a machine that is booted, or the first reason not to boot
abbrev pub BootsState :
    List ℕ → Conf → Option BootError → Result State AuditError → Type 0
BootsState file conf (Some first) (Ok s) = ⊥
BootsState file conf (Some first) (Err error) = error ≡ Boot first
BootsState file conf None (Ok s) = IsBootState file conf s
BootsState file conf None (Err error) = error ≡ Boot NoMemory

-- why a run isn't judged, without a reason not to boot: memory was refused, or the first bad watch
abbrev pub IsUnjudged : Conf → List Watch → AuditError → Type 0
IsUnjudged conf watches (Boot e) = e ≡ NoMemory
IsUnjudged conf watches (BadWatch k) = IsBad conf.ram watches k × AreGood conf.ram watches k

-- without a reason not to boot: if no watch is bad, the verdict of the events from the state at boot
abbrev pub JudgesBooted :
    List ℕ → Conf → List Event → Criteria → Result (Option Judged) AuditError → Type 0
JudgesBooted file conf events goal (Ok judged) =
    ((k : ℕ) → AreGood conf.ram goal.watches k)
    × ((s : State) × IsBootState file conf s × IsJudged goal s events judged)
JudgesBooted file conf events goal (Err error) = IsUnjudged conf goal.watches error

-- by the first reason not to boot
abbrev pub Judges :
    List ℕ → Conf → Option BootError → List Event → Criteria → Result (Option Judged) AuditError
    → Type 0
Judges file conf (Some first) events goal result = result ≡ Err (Boot first)
Judges file conf None events goal result = JudgesBooted file conf events goal result
