use Rattle.std.proofs.Common.{◌≡◌, ◌∙◌, refl, ap, subst, ℕ, ◌<◌, ◌≤◌, arith, inl, List, [], length}
use Rattle.std.specs.Prelude.{Option, None, Some, Result, Ok, Err, IfOk}
use Rattle.m161_machine.specs.declared.conf.BootError.{BootError}
use Rattle.m161_machine.specs.declared.conf.BootError.TheVariants.{NoMemory}
use Rattle.m161_machine.specs.declared.conf.Conf.{Conf}
use Rattle.m161_machine.specs.declared.event.Event.{Event}
use Rattle.m161_machine.specs.History.{IsBootState}
use Rattle.m161_machine.specs.State.{State}
use Rattle.m161_audit.specs.declared.finding.AuditError.{AuditError}
use Rattle.m161_audit.specs.declared.finding.AuditError.TheVariants.{Boot, BadWatch}
use Rattle.m161_audit.specs.declared.finding.Finding.{Finding}
use Rattle.m161_audit.specs.declared.finding.Finding.TheVariants as finding
use Rattle.m161_audit.specs.declared.watch.Watch.{Watch}
use Rattle.m161_audit.specs.Audit.{AuditsState}
use Rattle.m161_audit.specs.Stale.{IsBelow}
use Rattle.m161_audit.specs.Watch.{AreGood, IsBad}
use Rattle.m161_drive.specs.Policy.{Rules}
use Rattle.m161_judge.specs.declared.run.JudgedRun.{JudgedRun}
use Rattle.m161_judge.specs.declared.reach.Reach.{Reach}
use Rattle.m161_judge.specs.declared.verdict.Judged.{Judged}
use Rattle.m161_judge.specs.declared.verdict.Verdict.{Verdict}
use Rattle.m161_judge.specs.declared.verdict.Verdict.TheVariants.{Stale, Reached, Conflict, Stuck, Output, End}
use Rattle.m161_judge.specs.declared.walk.Walk.{Walk}
use Rattle.m161_judge.specs.declared.walk.Walk.TheVariants as walk
use Rattle.m161_judge.specs.Judge.{BootsState, IsUnjudged, Judges}
use Rattle.m161_judge.specs.Run.{Runs, with_keys_of}
use Rattle.m161_judge.specs.Verdict.{Criteria, Holds, rank}
use Rattle.m161_judge.specs.helpers.Reach.{FindsReach}
use Rattle.m161_judge.specs.helpers.Walk.{DrivesRun, IsJudgedOfSteps, Joins, JoinsSteps, JudgesSteps, Walks}
use Rattle.m161_judge.proofs.Judging.{place_is_below}

-- The audit, as it is used.

pub found_below : (s : State) (events : List Event) (watches : List Watch) (result : Result Finding AuditError) →
    AuditsState s events watches result → IfOk result (IsBelow (length events))
found_below s events watches (Ok found) h =
    place_is_below (record { watches = watches; never = []; output = None; keys = [] }) s events found h.1
found_below s events watches (Err error) h = tt

pub below_more : (n m : ℕ) (found : Finding) → n ≤ m → IsBelow n found → IsBelow m found
below_more n m finding.Clean few h = tt
below_more n m (finding.Stale place p address row) few h = omega (arith, few, h)

pub result_below : (n m : ℕ) (result : Result Finding AuditError) → n ≤ m → IfOk result (IsBelow n) → IfOk result (IsBelow m)
result_below n m (Ok found) few h = below_more n m found few h
result_below n m (Err error) few h = tt

-- of the same run
pub judges_as : (goal aim : Criteria) (s t : State) (es fs : List Event) (result : Result (Option Judged) AuditError) → goal ≡ aim → s ≡ t → es ≡ fs →
    JudgesSteps goal s es result → JudgesSteps aim t fs result
judges_as goal aim s t es fs result same state events h =
    subst (λ x. JudgesSteps aim x fs result) state
    (subst (λ xs. JudgesSteps aim s xs result) events (subst (λ x. JudgesSteps x s es result) same h))

-- as the audit, and the search for a reach, give them

pub of_watches : (goal : Criteria) (s : State) (es : List Event) (watches : List Watch) (error : AuditError) → watches ≡ goal.watches →
    AuditsState s es watches (Err error) → JudgesSteps goal s es (Err error)
of_watches goal s es watches (Boot e) same h = h
of_watches goal s es watches (BadWatch k) same h =
    subst (λ ws. IsBad s.conf.ram ws k × AreGood s.conf.ram ws k) same h

-- a state that was just booted has the configuration
conf_of : (file : List ℕ) (conf : Conf) (s : State) → IsBootState file conf s → s.conf ≡ conf
conf_of file conf s booted = ap (λ (x : State). x.conf) booted.state_is ∙ booted.conf_is

are_good : (file : List ℕ) (conf : Conf) (s : State) (watches : List Watch) → IsBootState file conf s → ((k : ℕ) → AreGood s.conf.ram watches k) →
    (k : ℕ) → AreGood conf.ram watches k
are_good file conf s watches booted h = subst (λ (c : Conf). (k : ℕ) → AreGood c.ram watches k) (conf_of file conf s booted) h

-- why a run isn't judged

boot_is : (a b : BootError) → ◌≡◌ {A = AuditError} (Boot a) (Boot b) → a ≡ b
boot_is a b h = cc

not_watch : (k : ℕ) (b : BootError) → ◌≡◌ {A = AuditError} (BadWatch k) (Boot b) → ⊥
not_watch k b h = cc

no_memory : (conf : Conf) (watches : List Watch) (error : AuditError) → error ≡ Boot NoMemory → IsUnjudged conf watches error
no_memory conf watches (Boot e) h = boot_is e NoMemory h
no_memory conf watches (BadWatch k) h = absurd (not_watch k NoMemory h)

unaudited : (file : List ℕ) (conf : Conf) (s : State) (events : List Event) (goal : Criteria) (error : AuditError) → IsBootState file conf s →
    JudgesSteps goal s events (Err error) → IsUnjudged conf goal.watches error
unaudited file conf s events goal (Boot e) booted h = h
unaudited file conf s events goal (BadWatch k) booted h =
    subst (λ (c : Conf). IsBad c.ram goal.watches k × AreGood c.ram goal.watches k) (conf_of file conf s booted) h

pub of_memory : (goal : Criteria) (s : State) (es : List Event) (error : AuditError) → error ≡ Boot NoMemory → JudgesSteps goal s es (Err error)
of_memory goal s es (Boot e) h = boot_is e NoMemory h
of_memory goal s es (BadWatch k) h = absurd (not_watch k NoMemory h)

pub of_both : (goal : Criteria) (s : State) (es : List Event) (watches : List Watch) (never : List ℕ) (found : Finding) (reach : Option Reach) (judged : Option Judged) →
    watches ≡ goal.watches → never ≡ goal.never → AuditsState s es watches (Ok found) → FindsReach never s es (Ok reach) →
    JoinsSteps goal s es found reach judged → JudgesSteps goal s es (Ok judged)
of_both goal s es watches never found reach judged same as_never finds reaches joins =
    let at = subst (λ ws. AuditsState s es ws (Ok found)) same finds in
    (at.0, joins at.1 (subst (λ a. FindsReach a s es (Ok reach)) as_never reaches))

-- the results of a list of events

pub list_unfound : (file : List ℕ) (conf : Conf) (fault : Option BootError) (s : State) (events : List Event) (goal : Criteria) (error : AuditError) →
    BootsState file conf fault (Ok s) → JudgesSteps goal s events (Err error) → Judges file conf fault events goal (Err error)
list_unfound file conf (Some first) s events goal error boots h = absurd boots
list_unfound file conf None s events goal error boots h = unaudited file conf s events goal error boots h

pub list_unwalked : (file : List ℕ) (conf : Conf) (fault : Option BootError) (s : State) (events : List Event) (goal : Criteria) (error : AuditError) →
    BootsState file conf fault (Ok s) → error ≡ Boot NoMemory → Judges file conf fault events goal (Err error)
list_unwalked file conf (Some first) s events goal error boots h = absurd boots
list_unwalked file conf None s events goal error boots h = no_memory conf goal.watches error h

pub list_refused : (file : List ℕ) (conf : Conf) (fault : Option BootError) (s : State) (events : List Event) (goal : Criteria) (of_steps : Option Judged) (w : Walk) →
    BootsState file conf fault (Ok s) → JudgesSteps goal s events (Ok of_steps) → Walks goal s events (Ok w) → w ≡ walk.Refused →
    Judges file conf fault events goal (Ok None)
list_refused file conf (Some first) s events goal of_steps w boots finds h is = absurd boots
list_refused file conf None s events goal of_steps w boots finds h is =
    let refused : Walks goal s events (Ok walk.Refused) = subst (λ x. Walks goal s events (Ok x)) is h in
    (are_good file conf s goal.watches boots finds.0, (s, boots, inl refused))

pub list_made : (file : List ℕ) (conf : Conf) (fault : Option BootError) (s : State) (events : List Event) (goal : Criteria) (w : Walk)
    (of_steps beside judged : Option Judged) →
    BootsState file conf fault (Ok s) → JudgesSteps goal s events (Ok of_steps) → Walks goal s events (Ok w) → w ≡ walk.Made beside →
    Joins goal s events of_steps beside judged → Judges file conf fault events goal (Ok judged)
list_made file conf (Some first) s events goal w of_steps beside judged boots finds h is joins = absurd boots
list_made file conf None s events goal w of_steps beside judged boots finds h is joins =
    let made : Walks goal s events (Ok (walk.Made beside)) = subst (λ x. Walks goal s events (Ok x)) is h in
    (are_good file conf s goal.watches boots finds.0, (s, boots, joins made.0 finds.1 made.1))

-- of a driven run

pub run_undriven : (file : List ℕ) (conf : Conf) (fault : Option BootError) (s : State) (rules : Rules) (n : ℕ) (goal : Criteria) (output : Option (List ℕ))
    (error : AuditError) → BootsState file conf fault (Ok s) → DrivesRun rules n output s (Err error) →
    Runs file conf fault rules n (with_keys_of rules goal) (Err error)
run_undriven file conf (Some first) s rules n goal output error boots h = absurd boots
run_undriven file conf None s rules n goal output error boots h = no_memory conf goal.watches error h

pub run_unfound : (file : List ℕ) (conf : Conf) (fault : Option BootError) (s : State) (rules : Rules) (n : ℕ) (events : List Event) (goal : Criteria)
    (error : AuditError) → BootsState file conf fault (Ok s) → JudgesSteps goal s events (Err error) →
    Runs file conf fault rules n (with_keys_of rules goal) (Err error)
run_unfound file conf (Some first) s rules n events goal error boots h = absurd boots
run_unfound file conf None s rules n events goal error boots h = unaudited file conf s events goal error boots h

-- the keys make no difference to the verdicts of Steps
other_holds : (goal : Criteria) (rules : Rules) (s : State) (events : List Event) (v : Verdict) (n : ℕ) → rank v < 2 →
    Holds (with_keys_of rules goal) s events v n → Holds goal s events v n
other_holds goal rules s events (Stale place p address row) n less h = h
other_holds goal rules s events (Reached place p address) n less h = h
other_holds goal rules s events (Conflict conflict) n less h = absurd (omega (arith, less))
other_holds goal rules s events Stuck n less h = absurd (omega (arith, less))
other_holds goal rules s events Output n less h = absurd (omega (arith, less))
other_holds goal rules s events End n less h = absurd (omega (arith, less))

as_holds : (goal : Criteria) (rules : Rules) (s : State) (events : List Event) (v : Verdict) (n : ℕ) → rank v < 2 →
    Holds goal s events v n → Holds (with_keys_of rules goal) s events v n
as_holds goal rules s events (Stale place p address row) n less h = h
as_holds goal rules s events (Reached place p address) n less h = h
as_holds goal rules s events (Conflict conflict) n less h = absurd (omega (arith, less))
as_holds goal rules s events Stuck n less h = absurd (omega (arith, less))
as_holds goal rules s events Output n less h = absurd (omega (arith, less))
as_holds goal rules s events End n less h = absurd (omega (arith, less))

with_keys : (goal : Criteria) (rules : Rules) (s : State) (events : List Event) (judged : Option Judged) → IsJudgedOfSteps goal s events judged →
    IsJudgedOfSteps (with_keys_of rules goal) s events judged
with_keys goal rules s events None h = λ v n less x. h v n less (other_holds goal rules s events v n less x)
with_keys goal rules s events (Some judged) h = (
  h.0,
  as_holds goal rules s events judged.verdict judged.events h.0 h.1,
  λ v n less x. h.2 v n less (other_holds goal rules s events v n (let low = h.0 in omega (arith, less, low)) x),
)

pub run_judged : (file : List ℕ) (conf : Conf) (fault : Option BootError) (s : State) (rules : Rules) (n : ℕ) (goal : Criteria)
    (run : JudgedRun) (of_steps judged : Option Judged) →
    BootsState file conf fault (Ok s) → DrivesRun rules n goal.output s (Ok run) → JudgesSteps goal s run.events.items (Ok of_steps) →
    ((aim : Criteria) (t : State) (events : List Event) → Joins aim t events of_steps run.judged judged) →
    Runs file conf fault rules n (with_keys_of rules goal) (Ok (record { events = run.events; judged = judged; is_cut = run.is_cut }))
run_judged file conf (Some first) s rules n goal run of_steps judged boots h finds joins = absurd boots
run_judged file conf None s rules n goal run of_steps judged boots h finds joins =
    let aim = with_keys_of rules goal in
    record {
      good = are_good file conf s goal.watches boots finds.0;
      booted = s;
      is_booted = boots;
      driven = h.driven;
      entries = h.entries;
      state = h.state;
      drives = h.drives;
      accepted = h.accepted;
      events_are = h.events_are;
      judged = joins aim s run.events.items h.made (with_keys goal rules s run.events.items of_steps finds.1) (h.beside aim refl refl);
      cut = h.cut;
    }
