use Rattle.std.proofs.Common.{◌≡◌, refl, subst, ℕ, List, Option, None, Some, Result, Ok, Err}
use Rattle.std.specs.Prelude.{IfOk}
use Rattle.m161_judge.specs.declared.verdict.Judged.{Judged}
use Rattle.m161_judge.specs.Judge.{BootsState, Judges}
use Rattle.m161_judge.specs.Verdict.{Criteria, IsJudged}
use Rattle.m161_machine.specs.declared.conf.BootError.{BootError}
use Rattle.m161_machine.specs.declared.conf.Conf.{Conf}
use Rattle.m161_machine.specs.declared.event.Event.{Event}
use Rattle.m161_machine.specs.History.{IsBootState, boot_fault}
use Rattle.m161_machine.specs.State.{State}
use Rattle.m161_machine.proofs.OneBoot.{booted_as_one}
use Rattle.m161_reach.specs.declared.told.Told.{Told}
use Rattle.m161_reach.specs.Told.{AsksEnds, IsTold, TellsOf}
use Rattle.m161_states.specs.Question.{Question}
use Rattle.m161_c.specs.helpers.Booting.{BeginsAt}

-- States at boot.

begun_by : (file : List ℕ) (conf : Conf) (s : State) (fault : Option BootError) → BootsState file conf fault (Ok s) → IsBootState file conf s
begun_by file conf s (Some first) h = absurd h
begun_by file conf s None h = h

pub begun : (file : List ℕ) (conf : Conf) (s : State) → BeginsAt file conf s → IsBootState file conf s
begun file conf s h = begun_by file conf s (boot_fault file conf) h

no_fault_by : (file : List ℕ) (conf : Conf) (s : State) (fault : Option BootError) → BootsState file conf fault (Ok s) → fault ≡ None
no_fault_by file conf s (Some first) h = absurd h
no_fault_by file conf s None h = refl

pub no_fault : (file : List ℕ) (conf : Conf) (s : State) → BeginsAt file conf s → boot_fault file conf ≡ None
no_fault file conf s h = no_fault_by file conf s (boot_fault file conf) h

-- events that were judged from one

judged_by : (file : List ℕ) (conf : Conf) (s : State) (fault : Option BootError) (events : List Event) (goal : Criteria) (judged : Option Judged) →
    IsBootState file conf s → Judges file conf fault events goal (Ok judged) → IsJudged goal s events judged
judged_by file conf s (Some first) events goal judged boots h = absurd cc
judged_by file conf s None events goal judged boots h =
    subst (λ x. IsJudged goal x events judged) (booted_as_one file conf h.1.0 s h.1.1 boots) h.1.2

pub judged_at : (file : List ℕ) (conf : Conf) (s : State) (events : List Event) (goal : Criteria) (judged : Option Judged) → BeginsAt file conf s →
    Judges file conf (boot_fault file conf) events goal (Ok judged) → IsJudged goal s events judged
judged_at file conf s events goal judged begins h =
    judged_by file conf s (boot_fault file conf) events goal judged (begun file conf s begins) h

-- and whose verdict in a search is told
pub all_told : {E : Type 0} → (few : ℕ) (goal : Criteria) (s : State) (q : Question) (events : List Event) (judged : Option Judged) (result : Result (Option Told) E) →
    AsksEnds goal s q → IsJudged goal s events judged → IfOk result (TellsOf few q events judged) → IfOk result (IsTold few goal s events)
all_told few goal s q events judged (Ok told) asks h tells = tells goal s asks h
all_told few goal s q events judged (Err why) asks h tells = tt
