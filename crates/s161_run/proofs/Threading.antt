use Rattle.std.proofs.Common.{◌≡◌, ◌∙◌, refl, ap, sym, subst, arith, ℕ, ◌*◌, ◌<◌, ◌≤◌, Bool, List, length, replicate, slice_index_or, Option, None, Some, Ok}
use Rattle.std.specs.Prelude.{sum}
use Rattle.std.proofs.lemmas.Grind.{get_or_default_zero}
use Rattle.std.proofs.lemmas.List.{get_or-replicate, length-replicate}
use Rattle.std.proofs.lemmas.List.Sums.{sum_by-le}
use Rattle.m161_machine.specs.declared.conf.BootError.{BootError}
use Rattle.m161_machine.specs.declared.conf.Conf.{Conf}
use Rattle.m161_machine.specs.History.{History, Boots, IsBooted, Start, boot_state}
use Rattle.m161_machine.specs.State.{State}
use Rattle.m161_cause.specs.declared.cause.Cause.{Cause}
use Rattle.m161_threads.specs.Runs.{FailsRun, Interleaves, bad_call}
use Rattle.s161_base.specs.declared.fault.Fault.{Fault}
use Rattle.s161_base.specs.declared.fault.Fault.TheVariants.{After, Conf as ConfFault, File, Image, Input, Log, LogImage, LogMachine, Memory, Never, Output, Schedule, Source, Threads, Touches, Watch, Watches, Word}
use Rattle.s161_run.specs.Threads.{IsCause}
use Rattle.s161_run.specs.helpers.Threads.{FailsBooted, KeepsLast, number_of}

-- The fault of a run in threads.

pub failed_cause : (first : Option Cause) (before : History) (cause : Cause) (after : History) → FailsRun first before cause after → IsCause first cause
failed_cause None before cause after h = h.0
failed_cause (Some first) before cause after h = h.0

-- nothing is wrong with what a machine was booted from
pub booted_clear : (file : List ℕ) (conf : Conf) (fault : Option BootError) (m : History) → Boots file conf fault (Ok m) → fault ≡ None
booted_clear file conf (Some first) m h = absurd h
booted_clear file conf None m h = refl

-- a machine that was booted
pub booted_ok : (file : List ℕ) (conf : Conf) (fault : Option BootError) (m : History) → Boots file conf fault (Ok m) → IsBooted file conf m
booted_ok file conf (Some first) m h = absurd h
booted_ok file conf None m h = h

-- the fault of a run of a machine that was booted: `P` is what is said of it
pub failed_booted : (P : Fault → Type 0) (m : History) (processors burst : ℕ) (fault : Fault) → number_of m ≡ processors →
    ((cause : Cause) → IsCause (bad_call processors processors burst) cause → P (Threads cause)) → P Memory → FailsBooted m burst fault → P fault
failed_booted P m processors burst (Threads cause) number threads memory h =
    threads cause (subst (λ n. IsCause (bad_call n n burst) cause) number h)
failed_booted P m processors burst Memory number threads memory h = memory
failed_booted P m processors burst (File name why) number threads memory h = absurd h
failed_booted P m processors burst (Schedule n) number threads memory h = absurd h
failed_booted P m processors burst (Log n) number threads memory h = absurd h
failed_booted P m processors burst (Watches n) number threads memory h = absurd h
failed_booted P m processors burst (Watch k) number threads memory h = absurd h
failed_booted P m processors burst (Never word) number threads memory h = absurd h
failed_booted P m processors burst (Touches word) number threads memory h = absurd h
failed_booted P m processors burst (After k why) number threads memory h = absurd h
failed_booted P m processors burst ConfFault number threads memory h = absurd h
failed_booted P m processors burst (Image e) number threads memory h = absurd h
failed_booted P m processors burst (Input why) number threads memory h = absurd h
failed_booted P m processors burst Word number threads memory h = absurd h
failed_booted P m processors burst LogMachine number threads memory h = absurd h
failed_booted P m processors burst LogImage number threads memory h = absurd h
failed_booted P m processors burst Output number threads memory h = absurd h
failed_booted P m processors burst (Source e) number threads memory h = absurd h

-- the traps of a run in threads

-- no processor made more than its quota
few_made : (made : List ℕ) (n quota : ℕ) → length made ≡ n → ((p : ℕ) → p < n → slice_index_or made p 0 ≤ slice_index_or (replicate n quota) p 0) →
    sum made ≤ n * quota
few_made made n quota long within =
    subst (λ k. sum made ≤ k * quota) long
    (sum_by-le (λ x. x) quota made (λ k d below.
    let most = within k (omega (arith, long, below)) in
    let is = get_or-replicate n k quota 0 (omega (arith, long, below)) in
    let zero_is = get_or_default_zero made k d below in omega (arith, most, is, zero_is)))

-- the base of a log that has room for each Step
pub based : (processors quota log : ℕ) (booted m : History) (made : List ℕ) (off : Bool) → booted.state ≡ boot_state booted.start → booted.start.conf.log ≡ log →
    Interleaves booted (replicate processors quota) made off m → KeepsLast m → processors * quota ≤ log → m.base ≡ booted.state
based processors quota log booted m made off booted_is log_is ran kept room =
    let number = length-replicate processors quota in
    let few = few_made made processors quota (ran.number ∙ number) (λ p below. ran.within p (omega (arith, number, below))) in
    let none = ap (λ (s : State). s.made) booted_is in
    let events = ran.events_made in
    let last = kept.last in
    let made_is = kept.made_is in
    let same = ap (λ (x : Start). x.conf.log) ran.start_is in
    let zero_is : m.base.made ≡ 0 = omega (arith, few, none, events, last, made_is, same, log_is, room) in
    kept.boot zero_is ∙ ap boot_state ran.start_is ∙ sym booted_is
