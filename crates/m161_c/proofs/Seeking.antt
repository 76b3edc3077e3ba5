use Rattle.std.proofs.Common.{◌≡◌, subst, ℕ, zero, suc, ◌+◌, ◌≤◌, arith, Bool, true, false, List, Option, None, Some, Ok}
use Rattle.std.specs.Prelude.{if◌then◌else◌}
use Rattle.m161_judge.specs.declared.run.JudgedRun.{JudgedRun}
use Rattle.m161_judge.specs.Run.{IsRun, Runs, with_keys_of}
use Rattle.m161_judge.specs.Verdict.{Criteria}
use Rattle.m161_drive.specs.Policy.{Rules}
use Rattle.m161_machine.specs.declared.conf.BootError.{BootError}
use Rattle.m161_machine.specs.declared.conf.Conf.{Conf}
use Rattle.m161_machine.specs.History.{boot_fault}
use Rattle.m161_machine.specs.State.{State}
use Rattle.m161_order.specs.declared.order.Order.{Order}
use Rattle.m161_reach.specs.declared.told.Told.{Told}
use Rattle.m161_reach.specs.Told.{AsksEnds, TellsRun}
use Rattle.m161_states.specs.Question.{Question}
use Rattle.m161_c.specs.Driven.{rules_in}
use Rattle.m161_c.specs.Seeds.{AreRightTo, Asked, IsToldRun}
use Rattle.m161_c.specs.helpers.Seeking.{Begins}
use Rattle.m161_machine.proofs.OneBoot.{booted_as_one}
use Rattle.m161_c.proofs.Booting.{begun}

-- A search by seeds.

-- a run that was made

run_made : (file : List ℕ) (conf : Conf) (rules : Rules) (n : ℕ) (goal : Criteria) (fault : Option BootError) (run : JudgedRun) →
    Runs file conf fault rules n goal (Ok run) → IsRun file conf rules n goal run
run_made file conf rules n goal (Some first) run h = absurd cc
run_made file conf rules n goal None run h = h

pub told_made : (a : Asked) (s : State) (q : Question) (order : Order) (run : JudgedRun) (told : Option Told) → Begins a s q →
    IsRun a.file a.conf (rules_in a.numbers order a.goal.keys) a.events a.goal run → TellsRun a.few q run told →
    IsToldRun a order run told
told_made a s q order run told begins is tells =
    let same : s ≡ is.booted = booted_as_one a.file a.conf s is.booted (begun a.file a.conf s begins.boots) is.is_booted in
    record {
      is_run = is;
      is_told = tells a.goal is.booted (subst (λ x. AsksEnds a.goal x q) same begins.asks) is.judged;
    }

pub told_run : (a : Asked) (s : State) (q : Question) (order : Order) (policy : Rules) (run : JudgedRun) (told : Option Told) → Begins a s q →
    policy ≡ rules_in a.numbers order a.goal.keys →
    Runs a.file a.conf (boot_fault a.file a.conf) policy a.events (with_keys_of policy a.goal) (Ok run) →
    TellsRun a.few q run told → IsToldRun a order run told
told_run a s q order policy run told begins policy_is runs tells =
    told_made a s q order run told begins
    (run_made a.file a.conf (rules_in a.numbers order a.goal.keys) a.events a.goal (boot_fault a.file a.conf) run
    (subst (λ r. Runs a.file a.conf (boot_fault a.file a.conf) r a.events (with_keys_of r a.goal) (Ok run)) policy_is runs))
    tells

-- of so many runs no more are cut

few_by : (k cut : ℕ) (is_cut : Bool) (rest : ℕ) → rest ≤ k → cut ≡ (if is_cut then rest + 1 else rest) → cut ≤ suc k
few_by k cut true rest less is = omega (arith, less, is)
few_by k cut false rest less is = omega (arith, less, is)

pub few_cut : (right : ℕ → Bool → Type 0) (k cut : ℕ) → AreRightTo right k cut → cut ≤ k
few_cut right zero cut h = omega (arith, h)
few_cut right (suc k) cut h = few_by k cut h.0 h.1 (few_cut right k h.1 h.2) h.4

-- one more
pub right_more : (right : ℕ → Bool → Type 0) (k cut : ℕ) (is_cut : Bool) (new : ℕ) → AreRightTo right k cut → right k is_cut →
    new ≡ (if is_cut then cut + 1 else cut) → AreRightTo right (k + 1) new
right_more right k cut is_cut new h so is =
    let next : suc k ≡ k + 1 = omega arith in
    subst (λ n. AreRightTo right n new) next (is_cut, cut, h, so, is)
