use Rattle.std.specs.Prelude.{◌≡◌, ◌≢◌, ℕ, Bool, false, not, List, Option, None, Some, Result, Ok, Err}
use Rattle.m161_machine.specs.declared.conf.Conf.{Conf}
use Rattle.m161_machine.specs.declared.conf.BootError.{BootError}
use Rattle.m161_machine.specs.declared.event.Entry.{Entry}
use Rattle.m161_machine.specs.declared.event.Refusal.{Refusal}
use Rattle.m161_machine.specs.History.{IsBootState, events_of}
use Rattle.m161_machine.specs.State.{State}
use Rattle.m161_audit.specs.declared.finding.AuditError.{AuditError}
use Rattle.m161_audit.specs.declared.finding.AuditError.TheVariants.{Boot}
use Rattle.m161_audit.specs.Watch.{AreGood}
use Rattle.m161_drive.specs.declared.run.Driven.{Driven}
use Rattle.m161_drive.specs.declared.run.Stop.{Stop}
use Rattle.m161_drive.specs.declared.run.Stop.TheVariants.{Off, End, Stuck, Refused}
use Rattle.m161_drive.specs.Drive.{Drives}
use Rattle.m161_drive.specs.Policy.{Rules}
use Rattle.m161_judge.specs.declared.run.JudgedRun.{JudgedRun}
use Rattle.m161_judge.specs.Judge.{IsUnjudged}
use Rattle.m161_judge.specs.Verdict.{Criteria, IsJudged, has_keys, is_stuck}

-- The result of judging a driven run.

-- by what a run is judged that a policy chooses: the keys are the policy's
abbrev pub with_keys_of : Rules → Criteria → Criteria
with_keys_of rules goal = record goal { keys = rules.keys }

-- a run ended only because no more events were asked for, though a policy with the keys that are left
-- would go on
abbrev pub is_cut : Stop → Bool → State → Bool
is_cut Off keys_left s = false
is_cut End keys_left s = not (is_stuck keys_left s)
is_cut Stuck keys_left s = false
is_cut (Refused refusal) keys_left s = false

-- the run of at most n events that a policy chooses, from the state at boot on, and its verdict; no
-- watch is bad, and no event is refused
pub record IsRun
    (file : List ℕ) (conf : Conf) (rules : Rules) (n : ℕ) (goal : Criteria) (run : JudgedRun)
    : Type 0 where
  pub good : (k : ℕ) → AreGood conf.ram goal.watches k
  pub booted : State
  pub is_booted : IsBootState file conf booted
  pub driven : Driven
  pub entries : List Entry
  pub state : State
  pub drives : Drives rules n booted driven entries state
  pub accepted : (refusal : Refusal) → driven.stop ≢ Refused refusal
  pub events_are : run.events.items ≡ events_of entries
  pub judged : IsJudged goal booted run.events.items run.judged
  pub cut : run.is_cut ≡ is_cut driven.stop (has_keys goal.keys run.events.items) state

-- without a reason not to boot
abbrev pub RunsBooted :
    List ℕ → Conf → Rules → ℕ → Criteria → Result JudgedRun AuditError → Type 0
RunsBooted file conf rules n goal (Ok run) = IsRun file conf rules n goal run
RunsBooted file conf rules n goal (Err error) = IsUnjudged conf goal.watches error

-- by the first reason not to boot
abbrev pub Runs :
    List ℕ → Conf → Option BootError → Rules → ℕ → Criteria → Result JudgedRun AuditError → Type 0
Runs file conf (Some first) rules n goal result = result ≡ Err (Boot first)
Runs file conf None rules n goal result = RunsBooted file conf rules n goal result
