use Rattle.std.specs.Prelude.{◌≡◌, ℕ, List, ◌++◌, Option, None, Some, Result, Ok, Err}
use Rattle.m161_machine.specs.declared.conf.BootError.TheVariants.{NoMemory}
use Rattle.m161_machine.specs.declared.event.Event.{Event}
use Rattle.m161_machine.specs.State.{State}
use Rattle.m161_audit.specs.declared.finding.AuditError.{AuditError}
use Rattle.m161_audit.specs.declared.finding.AuditError.TheVariants.{Boot}
use Rattle.m161_audit.specs.declared.finding.Finding.{Finding}
use Rattle.m161_audit.specs.declared.finding.Finding.TheVariants.{Clean}
use Rattle.m161_audit.specs.declared.watch.Watch.{Watch}
use Rattle.m161_audit.specs.Going.{Memory}
use Rattle.m161_judge.specs.declared.reach.Reach.{Reach}
use Rattle.m161_judge.specs.Memory.{IsAuditOf, IsReachOf, ReachMemory}
use Rattle.m161_judge.specs.helpers.Reach.{reach_in}

-- The parts of what is kept of Steps.

-- the audit of these events; or memory was refused
abbrev pub IsAuditAfter :
    List Watch → State → List Event → Result Unit AuditError → Option Memory → Type 0
IsAuditAfter watches s events (Ok done) m = IsAuditOf watches s events m
IsAuditAfter watches s events (Err error) m = error ≡ Boot NoMemory

-- the audit of the first of these events becomes that of all
abbrev pub AuditsOn : List Event → Option Memory → Result Unit AuditError → Option Memory → Type 0
AuditsOn events old result new =
    (watches : List Watch) (s : State) (begun rest : List Event) → events ≡ begun ++ rest
    → IsAuditOf watches s begun old → IsAuditAfter watches s events result new

-- the same of the search for a reach

abbrev pub IsReachAfter :
    List ℕ → State → List Event → Result Unit AuditError → Option ReachMemory → Type 0
IsReachAfter never s events (Ok done) m = IsReachOf never s events m
IsReachAfter never s events (Err error) m = error ≡ Boot NoMemory

abbrev pub ReachesOn :
    List ℕ → List Event → Option ReachMemory → Result Unit AuditError → Option ReachMemory → Type 0
ReachesOn never events old result new =
    (s : State) (begun rest : List Event) → events ≡ begun ++ rest
    → IsReachOf never s begun old → IsReachAfter never s events result new

-- what was found: without an audit nothing
abbrev pub finding_of : Option Memory → Finding
finding_of None = Clean
finding_of (Some m) = m.finding

-- the first reach, if there is one
abbrev pub reach_of : Option ReachMemory → Option Reach
reach_of None = None
reach_of (Some m) = reach_in m.sought
