use Rattle.std.proofs.Common.{◌≡◌, ◌⊎◌, ◌∙◌, ℕ, ◌<◌, arith, Bool, true, false, List, [], ◌∷◌, ◌++◌, length, take, drop, Option, None, Some, Ok, Err, ap, inl, inr, refl, sym, subst}
use Rattle.std.specs.Prelude.{◌==◌, Result, IfOk}
use Rattle.std.specs.List.{range_with_len}
use Rattle.std.proofs.lemmas.Bool.{eqb-true}
use Rattle.m161_judge.specs.declared.run.JudgedRun.{JudgedRun}
use Rattle.m161_judge.specs.declared.verdict.Judged.{Judged}
use Rattle.m161_judge.specs.Judge.{BootsState}
use Rattle.m161_judge.specs.Laws.{CutKeepsVerdict, IsOneVerdict}
use Rattle.m161_audit.specs.declared.finding.AuditError.{AuditError}
use Rattle.m161_jobs.specs.Answers.{IsAnswer}
use Rattle.m161_jobs.specs.Trials.{AreRight, IsJudged as IsJudgedTrial}
use Rattle.m161_jobs.specs.declared.trials.Tested.{Tested}
use Rattle.m161_jobs.specs.declared.trials.Tested.TheVariants.{Right, Wrong}
use Rattle.m161_jobs.specs.declared.trials.Tried.{Tried}
use Rattle.m161_jobs.specs.declared.trials.Tried.TheVariants.{Clean, Wrong as WrongTrial}
use Rattle.m161_machine.specs.declared.conf.Conf.{Conf}
use Rattle.m161_order.specs.declared.delays.Delays.{Delays}
use Rattle.m161_order.specs.declared.order.Order.{Order}
use Rattle.m161_order.specs.declared.order.Order.TheVariants.{Delayed}
use Rattle.m161_order.specs.Delays.{delays_of}
use Rattle.s161_base.specs.declared.fault.Fault.{Fault}
use Rattle.m161_judge.specs.declared.verdict.Verdict.{Verdict}
use Rattle.m161_judge.specs.declared.verdict.Verdict.TheVariants.{Stale, Reached, Conflict, Stuck, Output, End}
use Rattle.m161_judge.specs.Verdict.{Criteria, IsJudged, rank}
use Rattle.m161_reach.specs.Told.{TellsRun, told_of}
use Rattle.m161_states.specs.Question.{Question}
use Rattle.m161_machine.specs.declared.event.Event.{Event}
use Rattle.m161_machine.specs.History.{boot_fault}
use Rattle.m161_machine.specs.State.{State}
use Rattle.m161_shorten.specs.Verdicts.{AreNeeded}
use Rattle.m161_shorten.specs.Passes.{Shortens}
use Rattle.m161_shorten.proofs.Alike.{shortens_by}
use Rattle.s161_command.specs.declared.task.SearchTask.{SearchTask}
use Rattle.s161_search.specs.Runs.{IsRunOf}
use Rattle.s161_search.specs.Given.{Given, criteria_of}
use Rattle.s161_search.specs.Seeds.{IsRightAt, IsRunAt, seed_at, with_seed}
use Rattle.s161_search.specs.declared.orders.WrongRun.{WrongRun}
use Rattle.s161_search.specs.Searches.{ArePrinted, HasKind, IsJudgedAt, is_whole, kind_behind}
use Rattle.s161_search.specs.declared.start.Start.{Start}
use Rattle.s161_search.specs.declared.found.Printed.{Printed}
use Rattle.m161_reach.specs.declared.told.SearchVerdict.TheVariants as verdicts
use Rattle.s161_search.specs.Told.{IsRunToldAt}
use Rattle.s161_search.specs.helpers.Begun.{BeginsAt, HasKindFrom}
use Rattle.s161_search.specs.helpers.Delayed.{BeginsBehind, IsRightFrom, IsRunFrom, IsSeedRightFrom, IsSeedWrongFrom, IsTested, IsWrongFrom}
use Rattle.s161_search.specs.helpers.Tried.{ArePrintedWith, IsTried}
use Rattle.s161_search.specs.helpers.Telling.{Begins}
use Rattle.s161_search.proofs.Behind.{are_shortened, cut_parts, parts_of, take_needed}
use Rattle.m161_machine.proofs.OneBoot.{booted_as_one}
use Rattle.s161_search.proofs.Telling.{run_told}

-- Verdicts of runs and of lists of events.

-- a boot of what was read
pub boots_as : (file same : List ℕ) (conf equal : Conf) (result : Result State AuditError) → file ≡ same → conf ≡ equal →
    BootsState file conf (boot_fault file conf) result → BootsState same equal (boot_fault same equal) result
boots_as file same conf equal result file_is conf_is h =
    subst (λ f. BootsState f equal (boot_fault f equal) result) file_is (subst (λ x. BootsState file x (boot_fault file x) result) conf_is h)

-- a list has one verdict
pub one_judged : (given : Given) (events : List Event) (a b : Option Judged) →
    ((goal : Criteria) (s : State) (es : List Event) → IsOneVerdict goal s es) →
    IsJudgedAt given events a → IsJudgedAt given events b → a ≡ b
one_judged given events a b one h k =
    let same = booted_as_one given.file given.conf h.0 k.0 h.1 k.1 in
    one (criteria_of given) k.0 events a b
    (subst (λ s. IsJudged (criteria_of given) s events a) same h.2) k.2

cut_judged : (given : Given) (events : List Event) (judged : Judged) →
    ((goal : Criteria) (s : State) (es : List Event) (j : Judged) → CutKeepsVerdict goal s es j) →
    IsJudgedAt given events (Some judged) → IsJudgedAt given (take judged.events events) (Some judged)
cut_judged given events judged cut h = (h.0, h.1, cut (criteria_of given) h.0 events judged h.2)

-- a verdict of a kind, on what was cut behind it
abbrev pub HasSuch : Given → List Event → ℕ → Type 0
HasSuch given events kind = (final : Judged) × IsJudgedAt given events (Some final) × (rank final.verdict ≡ kind)

such : (given : Given) (first es : List Event) (kind needs : ℕ) (judged : Option Judged) →
    ((goal : Criteria) (s : State) (xs : List Event) (j : Judged) → CutKeepsVerdict goal s xs j) → IsJudgedAt given (first ++ es) judged →
    Some (record { kind = kind; needs = needs }) ≡ kind_behind (length first) judged → HasSuch given (first ++ take needs es) kind
such given first es kind needs None cut h is = absurd cc
such given first es kind needs (Some judged) cut h is =
    let parts = parts_of (length first) (rank judged.verdict) judged.events (record { kind = kind; needs = needs }) is in
    let there : first ++ take needs es ≡ take judged.events (first ++ es) =
    ap (λ n. first ++ take n es) parts.needs_is ∙ take_needed first es judged.events parts.within in (
      judged,
      subst (λ xs. IsJudgedAt given xs (Some judged)) (sym there) (cut_judged given (first ++ es) judged cut h),
      sym parts.kind_is,
    )

-- what the passes leave behind first events has a verdict of the kind
pub left_judged : (given : Given) (events first rest fs : List Event) (judged : Judged) →
    ((goal : Criteria) (s : State) (xs : List Event) (j : Judged) → CutKeepsVerdict goal s xs j) → IsJudgedAt given events (Some judged) →
    first ++ rest ≡ take judged.events events →
    (fs ≡ rest) ⊎ AreNeeded (λ kind. rank judged.verdict == kind) (HasKind given first) fs → HasSuch given (first ++ fs) (rank judged.verdict)
left_judged given events first rest fs judged cut h parts (inl is) =
    let there : first ++ fs ≡ take judged.events events = ap (λ es. first ++ es) is ∙ parts in
    subst (λ es. HasSuch given es (rank judged.verdict)) (sym there) (judged, cut_judged given events judged cut h, refl)
left_judged given events first rest fs judged cut h parts (inr (es, n, (kind, has, same), is)) =
    let kinds : rank judged.verdict ≡ kind = eqb-true (rank judged.verdict) kind same in
    subst (λ k. HasSuch given (first ++ fs) k) (sym kinds)
    (subst (λ xs. HasSuch given (first ++ xs) kind) (sym is) (such given first es kind n has.0 cut has.1 has.2))

-- what is printed

-- a verdict but `end`
low_when : (whole : Bool) (v : Verdict) → is_whole whole (verdicts.Run v) ≡ false → rank v < 5
low_when whole (Stale place p address row) h = omega arith
low_when whole (Reached place p address) h = omega arith
low_when whole (Conflict conflict) h = omega arith
low_when whole Stuck h = omega arith
low_when whole Output h = omega arith
low_when whole End h = absurd (let bad : true ≡ false = h in cc)

final_told : (cut : Bool) (task : SearchTask) (given : Given) (events : List Event) (last : Judged) → IsJudgedAt given events (Some last) → rank last.verdict < 5 →
    IsRunToldAt cut task given events (Some (told_of last))
final_told true task given events last h low = (h.0, h.1, (h.2, inl low))
final_told false task given events last h low = (h.0, h.1, (Some last, h.2, refl))

-- what the passes leave
pub left_printed : (task : SearchTask) (given : Given) (events first rest fs : List Event) (judged last : Judged) (printed : Printed) →
    ((goal : Criteria) (s : State) (xs : List Event) (j : Judged) → CutKeepsVerdict goal s xs j) →
    ((goal : Criteria) (s : State) (es : List Event) → IsOneVerdict goal s es) → is_whole task.whole (verdicts.Run judged.verdict) ≡ false →
    ArePrinted false task given events (told_of judged) printed.events.items → printed.verdict ≡ verdicts.Run last.verdict → IsJudgedAt given events (Some judged) →
    first ++ rest ≡ take judged.events events → printed.events.items ≡ first ++ fs →
    (fs ≡ rest) ⊎ AreNeeded (λ kind. rank judged.verdict == kind) (HasKind given first) fs →
    IsJudgedAt given printed.events.items (Some last) → (cut : Bool) → ArePrintedWith cut task given events (told_of judged) printed
left_printed task given events first rest fs judged last printed cut one part short verdict h parts joined left again cut_is =
    let such = left_judged given events first rest fs judged cut h parts left in
    let there : IsJudgedAt given printed.events.items (Some such.0) = subst (λ es. IsJudgedAt given es (Some such.0)) (sym joined) such.1 in
    let same : Some last ≡ Some such.0 = one_judged given printed.events.items (Some last) (Some such.0) one again there in
    let is : last ≡ such.0 = cc in
    let same_kind : rank last.verdict ≡ rank judged.verdict = ap (λ (j : Judged). rank j.verdict) is ∙ such.2 in
    let low = low_when task.whole judged.verdict part in
    record {
      are_printed = subst (λ b. ArePrinted b task given events (told_of judged) printed.events.items) (sym part) short;
      final = told_of last;
      verdict_is = verdict;
      is_told = final_told cut_is task given printed.events.items last again (omega (arith, same_kind, low));
      same_kind = same_kind;
    }

-- they have a verdict
pub left_has_one : (given : Given) (events first rest fs : List Event) (judged : Judged) →
    ((goal : Criteria) (s : State) (xs : List Event) (j : Judged) → CutKeepsVerdict goal s xs j) →
    ((goal : Criteria) (s : State) (es : List Event) → IsOneVerdict goal s es) → IsJudgedAt given events (Some judged) →
    first ++ rest ≡ take judged.events events →
    (fs ≡ rest) ⊎ AreNeeded (λ kind. rank judged.verdict == kind) (HasKind given first) fs → IsJudgedAt given (first ++ fs) None → ⊥
left_has_one given events first rest fs judged cut one h parts left again =
    let such = left_judged given events first rest fs judged cut h parts left in
    let same : None ≡ Some such.0 = one_judged given (first ++ fs) None (Some such.0) one again such.1 in
    cc

-- by the verdict's kind, from the state at boot

left_at : (given : Given) (s : State) (first fs es : List Event) (k : ℕ) → BeginsAt given s →
    (fs ≡ es) ⊎ AreNeeded (λ kind. k == kind) (HasKindFrom s given first) fs → (fs ≡ es) ⊎ AreNeeded (λ kind. k == kind) (HasKind given first) fs
left_at given s first fs es k begins (inl is) = inl is
left_at given s first fs es k begins (inr (xs, n, (kind, has, same), is)) = inr (xs, n, (kind, has begins, same), is)

pub left_as : (given : Given) (s : State) (first fs es : List Event) (k r : ℕ) → BeginsAt given s → k ≡ r →
    (fs ≡ es) ⊎ AreNeeded (λ kind. k == kind) (HasKindFrom s given first) fs → (fs ≡ es) ⊎ AreNeeded (λ kind. r == kind) (HasKind given first) fs
left_as given s first fs es k r begins kind h =
    subst (λ n. (fs ≡ es) ⊎ AreNeeded (λ kind. n == kind) (HasKind given first) fs) kind (left_at given s first fs es k begins h)

pub short_as : (given : Given) (s : State) (first fs es : List Event) (k r : ℕ) → BeginsAt given s → k ≡ r →
    Shortens (λ kind. k == kind) (HasKindFrom s given first) es fs → Shortens (λ kind. r == kind) (HasKind given first) es fs
short_as given s first fs es k r begins kind h =
    subst (λ n. Shortens (λ kind. n == kind) (HasKind given first) es fs) kind
    (shortens_by (λ kind. k == kind) (HasKindFrom s given first) (HasKind given first) es fs (λ xs verdict has. has begins) h)

-- the whole of what is printed, as it is made

pub judged_printed : (task : SearchTask) (given : Given) (s : State) (events cut first behind left : List Event) (judged last : Judged) (k : ℕ) (printed : Printed) →
    ((goal : Criteria) (s : State) (xs : List Event) (j : Judged) → CutKeepsVerdict goal s xs j) →
    ((goal : Criteria) (s : State) (es : List Event) → IsOneVerdict goal s es) → BeginsAt given s → is_whole task.whole (verdicts.Run judged.verdict) ≡ false →
    IsJudgedAt given events (Some judged) → cut ≡ take judged.events events → first ≡ take (length given.first) cut → behind ≡ drop (length given.first) cut →
    k ≡ rank judged.verdict → Shortens (λ kind. k == kind) (HasKindFrom s given first) behind left →
    (left ≡ behind) ⊎ AreNeeded (λ kind. k == kind) (HasKindFrom s given first) left → printed.events.items ≡ first ++ left →
    printed.verdict ≡ verdicts.Run last.verdict → IsJudgedAt given printed.events.items (Some last) → (cut_is : Bool) →
    ArePrintedWith cut_is task given events (told_of judged) printed
judged_printed task given s events cut first behind left judged last k printed keeps one begins part h cut_is first_is behind_is kind short taken joined verdict again =
    let n = length given.first in
    let needed = take judged.events events in
    let shorter = short_as given s first left behind k (rank judged.verdict) begins kind short in
    left_printed task given events first behind left judged last printed keeps one part
    (are_shortened n task given (verdicts.Run judged.verdict) cut needed first behind left printed.events.items cut_is first_is behind_is joined shorter)
    verdict h (cut_parts n cut needed first behind cut_is first_is behind_is) joined
    (left_as given s first left behind k (rank judged.verdict) begins kind taken) again

pub judged_has_one : (given : Given) (s : State) (events cut first behind left all : List Event) (judged : Judged) (k : ℕ) →
    ((goal : Criteria) (s : State) (xs : List Event) (j : Judged) → CutKeepsVerdict goal s xs j) →
    ((goal : Criteria) (s : State) (es : List Event) → IsOneVerdict goal s es) → BeginsAt given s → IsJudgedAt given events (Some judged) →
    cut ≡ take judged.events events → first ≡ take (length given.first) cut → behind ≡ drop (length given.first) cut → k ≡ rank judged.verdict →
    (left ≡ behind) ⊎ AreNeeded (λ kind. k == kind) (HasKindFrom s given first) left → all ≡ first ++ left → IsJudgedAt given all None → ⊥
judged_has_one given s events cut first behind left all judged k keeps one begins h cut_is first_is behind_is kind taken joined again =
    left_has_one given events first behind left judged keeps one h
    (cut_parts (length given.first) cut (take judged.events events) first behind cut_is first_is behind_is)
    (left_as given s first left behind k (rank judged.verdict) begins kind taken) (subst (λ es. IsJudgedAt given es None) joined again)

-- what became of a run

judged_of : (task : SearchTask) (given : Given) (order : Order) (run : JudgedRun) → IsRunOf task given order run → IsJudgedAt given run.events.items run.judged
judged_of task given order run is = (is.booted, is.is_booted, is.judged)

right_told : (s : State) (q : Question) (task : SearchTask) (given : Given) (order : Order) (run : JudgedRun) → Begins given s q → IsRunOf task given order run →
    TellsRun task.hung q run None → IsRunToldAt run.is_cut task given run.events.items None
right_told s q task given order run begins is of =
    run_told run.is_cut task given s q run.events.items run.judged None begins (judged_of task given order run is) of

wrong_told : (s : State) (q : Question) (task : SearchTask) (given : Given) (order : Order) (run : JudgedRun) (wrong : WrongRun) → Begins given s q →
    IsRunOf task given order run → wrong.run ≡ run → TellsRun task.hung q run (Some wrong.told) →
    IsRunToldAt wrong.run.is_cut task given wrong.run.events.items (Some wrong.told)
wrong_told s q task given order run wrong begins is same of =
    subst (λ (r : JudgedRun). IsRunToldAt r.is_cut task given r.events.items (Some wrong.told)) (sym same)
    (run_told run.is_cut task given s q run.events.items run.judged (Some wrong.told) begins (judged_of task given order run is) of)

pub seed_judged : (start : Start) (q : Question) (task : SearchTask) (given : Given) (k : ℕ) (run : JudgedRun) (tested : Tested WrongRun) →
    IsRunFrom start task given (with_seed (seed_at task.drive.order k) task.drive.order) run → IsTested task.hung q run tested →
    IsJudgedTrial (IsSeedRightFrom start q task given k) (IsSeedWrongFrom start q task given k) tested
seed_judged start q task given k run (Right is_cut) is h = λ behind.
    let order = with_seed (seed_at task.drive.order k) task.drive.order in
    let made = (is (behind.0, behind.1.boots, behind.2)).0 in
    (run, made, right_told behind.0 q task given order run behind.1 made h.0, h.1)
seed_judged start q task given k run (Wrong wrong) is h = λ behind.
    let order = with_seed (seed_at task.drive.order k) task.drive.order in
    let made = (is (behind.0, behind.1.boots, behind.2)).0 in
    (subst (IsRunAt task given k) (sym h.0) made, wrong_told behind.0 q task given order run wrong behind.1 made h.0 h.1)

pub list_judged : (start : Start) (q : Question) (task : SearchTask) (given : Given) (steps : ℕ) (delays : Delays) (run : JudgedRun) (tested : Tested WrongRun) →
    IsRunFrom start task given (Delayed steps delays) run → IsTested task.hung q run tested →
    IsJudgedTrial (IsRightFrom start q task given steps (delays_of delays)) (IsWrongFrom start q task given steps (delays_of delays)) tested
list_judged start q task given steps delays run (Right is_cut) is h = λ behind.
    let made = is (behind.0, behind.1.boots, behind.2) in
    (delays, run, refl, made.0, right_told behind.0 q task given (Delayed steps delays) run behind.1 made.0 h.0, h.1, made.1)
list_judged start q task given steps delays run (Wrong wrong) is h = λ behind.
    let made = (is (behind.0, behind.1.boots, behind.2)).0 in (
      delays,
      refl,
      subst (IsRunOf task given (Delayed steps delays)) (sym h.0) made,
      wrong_told behind.0 q task given (Delayed steps delays) run wrong behind.1 made h.0 h.1,
    )

-- what came of the seeds

pub rights_as : {X : Type 0} (R Q : X → Bool → Type 0) (xs : List X) (cut : ℕ) → ((x : X) (b : Bool) → R x b → Q x b) → AreRight R xs cut → AreRight Q xs cut
rights_as R Q [] cut f h = h
rights_as R Q (x ∷ xs) cut f h = (h.0, h.1, f x h.0 h.2, h.3, rights_as R Q xs h.1 f h.4)

pub tried_by : (task : SearchTask) (given : Given) (start : Start) (q : Question) (result : Result (Tried WrongRun) Fault) → BeginsBehind given start q →
    IfOk result (IsAnswer (IsSeedRightFrom start q task given) (IsSeedWrongFrom start q task given) task.seeds) → IfOk result (IsTried task given)
tried_by task given start q (Ok (Clean cut)) begins h =
    rights_as (IsSeedRightFrom start q task given) (IsRightAt task given) (range_with_len 0 task.seeds) cut (λ k b right. right begins) h
tried_by task given start q (Ok (WrongTrial place wrong)) begins h = record {
  within = h.0;
  before = λ n less. (let right = h.2 n less in (right.0, right.1 begins));
  is_run = (h.1 begins).0;
  wrong = (h.1 begins).1;
}
tried_by task given start q (Err fault) begins h = tt
