use Rattle.std.specs.Prelude.{◌≡◌, ℕ, List, [], ◌++◌, length, Option, None, Some, Result, Ok, Err}
use Rattle.m161_machine.specs.declared.conf.BootError.TheVariants.{NoMemory}
use Rattle.m161_machine.specs.declared.event.Event.{Event}
use Rattle.m161_machine.specs.State.{State}
use Rattle.m161_machine.specs.StoreHistory.{without_stores}
use Rattle.m161_audit.specs.declared.finding.AuditError.{AuditError}
use Rattle.m161_audit.specs.declared.finding.AuditError.TheVariants.{Boot}
use Rattle.m161_audit.specs.declared.watch.Watch.{Watch}
use Rattle.m161_audit.specs.Going.{IsMemoryOf, Memory}
use Rattle.m161_audit.specs.Watch.{AreGood}
use Rattle.m161_judge.specs.declared.reach.Reach.{Reach}
use Rattle.m161_judge.specs.declared.reach.Sought.{Sought}
use Rattle.m161_judge.specs.declared.reach.Sought.TheVariants.{Open, Over}
use Rattle.m161_judge.specs.Judge.{IsUnjudged}
use Rattle.m161_judge.specs.Verdict.{Criteria, IsReachAt, LeadsTo, NoneReachBefore}

-- What judging keeps of the Steps of a run, at a place of it.

-- of the search for a reach
pub record ReachMemory : Type 0 where
  -- the machine's state
  pub core : State
  -- how many events were looked at
  pub made : ℕ
  -- how far it came
  pub sought : Sought

pub record StepsMemory : Type 0 where
  pub audit : Option Memory
  pub reach : Option ReachMemory

-- the first Step that reaches one of these addresses, if there is one
abbrev pub IsFirstReach : List ℕ → State → List Event → Option Reach → Type 0
IsFirstReach never s events None =
    (k p address : ℕ) → IsReachAt never s events k p address → ⊥
IsFirstReach never s events (Some reach) =
    IsReachAt never s events reach.place reach.processor reach.address
    × NoneReachBefore never s events reach.place

-- the first events are made, and none of them is a reach
pub record Reaching (never : List ℕ) (s : State) (events : List Event) (n : ℕ) (t : State) : Type 0 where
  pub leads : LeadsTo s events n t
  pub none : NoneReachBefore never s events n

-- how far the search came along these events: all are made, and none is a reach; or it is over, and
-- whatever comes behind them makes no difference
abbrev pub IsSought : List ℕ → State → List Event → Sought → State → Type 0
IsSought never s events Open t = Reaching never s events (length events) t
IsSought never s events (Over reach) t =
    (rest : List Event) → IsFirstReach never s (events ++ rest) reach

-- the audit of these events of a run from s on; without watches there is none
abbrev pub IsAuditOf : List Watch → State → List Event → Option Memory → Type 0
IsAuditOf watches s events None = watches ≡ []
IsAuditOf watches s events (Some m) = IsMemoryOf (without_stores s) watches events m

-- the search for a reach in these events; without addresses there is none
abbrev pub IsReachOf : List ℕ → State → List Event → Option ReachMemory → Type 0
IsReachOf never s events None = never ≡ []
IsReachOf never s events (Some m) = (m.made ≡ length events) × IsSought never s events m.sought m.core

-- what is kept of the Steps of these events of a run from s on
pub record IsKeptOf (goal : Criteria) (s : State) (events : List Event) (m : StepsMemory) : Type 0 where
  pub good : (k : ℕ) → AreGood s.conf.ram goal.watches k
  pub audit : IsAuditOf goal.watches s events m.audit
  pub reach : IsReachOf goal.never s events m.reach

-- before the first event; or the first bad watch, or memory was refused
abbrev pub StartsSteps : Criteria → State → Result StepsMemory AuditError → Type 0
StartsSteps goal s (Ok m) = IsKeptOf goal s [] m
StartsSteps goal s (Err error) = IsUnjudged s.conf goal.watches error

-- what is kept of these events; or memory was refused
abbrev pub IsKeptAfter : Criteria → State → List Event → Result Unit AuditError → StepsMemory → Type 0
IsKeptAfter goal s events (Ok done) m = IsKeptOf goal s events m
IsKeptAfter goal s events (Err error) m = error ≡ Boot NoMemory

-- what is kept of the first of these events becomes what is kept of all
abbrev pub KeepsOn : Criteria → List Event → StepsMemory → Result Unit AuditError → StepsMemory → Type 0
KeepsOn goal events old result new =
    (s : State) (begun rest : List Event) → events ≡ begun ++ rest
    → IsKeptOf goal s begun old → IsKeptAfter goal s events result new
