use Rattle.std.proofs.Common.{◌≡◌, ◌∙◌, ◌⊎◌, inl, inr, refl, ap, sym, subst, ℕ, Bool, true, false, List, ◌++◌, length, take, drop, Option, None, Some}
use Rattle.std.specs.Prelude.{◌==◌, option_map}
use Rattle.m161_judge.specs.declared.verdict.Judged.{Judged}
use Rattle.m161_judge.specs.declared.verdict.Verdict.{Verdict}
use Rattle.m161_judge.specs.Laws.{FirstIsNoWorse}
use Rattle.m161_judge.specs.Verdict.{Criteria, IsJudged}
use Rattle.m161_machine.specs.declared.event.Event.{Event}
use Rattle.m161_machine.specs.History.{IsBootState}
use Rattle.m161_machine.specs.State.{State}
use Rattle.m161_reach.specs.From.{asked_of}
use Rattle.m161_reach.specs.Hangs.{CutKeepsHang}
use Rattle.m161_reach.specs.Told.{AsksEnds, Hang, IsRunTold, TellsOf, ends_of, told_of}
use Rattle.m161_shorten.specs.declared.judged.Judgement.{Judgement}
use Rattle.m161_shorten.specs.Passes.{Shortens}
use Rattle.m161_shorten.specs.Verdicts.{AreNeeded}
use Rattle.m161_shorten.proofs.Alike.{shortens_by}
use Rattle.m161_states.specs.Question.{Question}
use Rattle.s161_command.specs.declared.task.SearchTask.{SearchTask}
use Rattle.s161_search.specs.declared.found.Printed.{Printed}
use Rattle.m161_reach.specs.declared.told.SearchVerdict.{SearchVerdict}
use Rattle.m161_reach.specs.declared.told.SearchVerdict.TheVariants.{Run, Hung}
use Rattle.m161_reach.specs.declared.told.Told.{Told}
use Rattle.s161_search.specs.Given.{Given, criteria_of}
use Rattle.s161_search.specs.Searches.{ArePrinted, HasHang, IsJudgedAt, hang_behind, hang_with, is_whole, kind_number}
use Rattle.s161_search.specs.Told.{IsRunToldAt, IsToldAt}
use Rattle.s161_search.specs.helpers.Begun.{IsJudgedFrom}
use Rattle.s161_search.specs.helpers.Telling.{Begins, HasHangFrom}
use Rattle.s161_search.specs.helpers.Tried.{ArePrintedWith}
use Rattle.s161_search.proofs.Behind.{are_shortened, cut_parts, parts_of, take_needed}
use Rattle.m161_machine.proofs.OneBoot.{booted_as_one}
use Rattle.s161_search.proofs.Booting.{begins as starts}

-- The verdict of a search.

-- of a run

pub run_told : (cut : Bool) (task : SearchTask) (given : Given) (s : State) (q : Question) (events : List Event) (judged : Option Judged) (told : Option Told) →
    Begins given s q → IsJudgedAt given events judged →
    ((goal : Criteria) (t : State) → AsksEnds goal t q → IsJudged goal t events judged → IsRunTold cut task.hung goal t events told) →
    IsRunToldAt cut task given events told
run_told cut task given s q events judged told begins h tells =
    let boots = starts given s begins.boots in
    let same = booted_as_one given.file given.conf h.0 s h.1 boots in
    let goal = criteria_of given in
    (s, boots, tells goal s begins.asks (subst (λ x. IsJudged goal x events judged) same h.2))

-- a verdict of m161_judge is not this one
hung_or_run : (n : ℕ) (judged : Judged) → ◌≡◌ {A = Told} (record { verdict = Hung; events = n }) (told_of judged) → ⊥
hung_or_run n judged h = let bad : Hung ≡ Run judged.verdict = ap (λ (t : Told). t.verdict) h in absurd (cc)

not_hung : (n : ℕ) (judged : Option Judged) → ◌≡◌ {A = Option Told} (Some (record { verdict = Hung; events = n })) (option_map told_of judged) → ⊥
not_hung n None h = absurd (cc)
not_hung n (Some judged) h = hung_or_run n judged (let same : ◌≡◌ {A = Told} (record { verdict = Hung; events = n }) (told_of judged) = cc in same)

-- one that hangs is cut
hung_is_cut : (cut : Bool) (task : SearchTask) (given : Given) (events : List Event) (n : ℕ) →
    IsRunToldAt cut task given events (Some (record { verdict = Hung; events = n })) →
    (cut ≡ true) × IsToldAt task given events (Some (record { verdict = Hung; events = n }))
hung_is_cut true task given events n h = (refl, h)
hung_is_cut false task given events n h = absurd (not_hung n h.2.0 h.2.2)

-- the judge by hangs

pub hang_judged : (s : State) (q : Question) (few : ℕ) (given : Given) (first events all es : List Event) (judged : Option Judged) (told : Option Told)
    (verdict : Option (Judgement ℕ)) → es ≡ all → all ≡ first ++ events → IsJudgedFrom s given es judged → TellsOf few q es judged told →
    verdict ≡ hang_behind (length first) told → HasHangFrom s q few given first events verdict
hang_judged s q few given first events all es judged told verdict same joined h of is = λ task few_is begins. (
  told,
  subst (λ xs. IsToldAt task given xs told) (same ∙ joined)
      (run_told true task given s q es judged told begins (h begins.boots) (subst (λ n. TellsOf n q es judged told) (sym few_is) of)),
  is,
)

-- what is cut behind the first events that hang hangs

cut_hang : (task : SearchTask) (given : Given) (events : List Event) (n : ℕ) →
    ((goal : Criteria) (s : State) (es : List Event) → FirstIsNoWorse goal s es) → CutKeepsHang →
    IsToldAt task given events (Some (record { verdict = Hung; events = n })) →
    IsToldAt task given (take n events) (Some (record { verdict = Hung; events = n }))
cut_hang task given events n worse keeps h =
    let goal = criteria_of given in
    let s = h.0 in
    let hang : Hang task.hung goal s events n = h.2 in
    let cut = keeps (asked_of s (ends_of goal)) task.hung events n hang.2 in
    (s, h.1, (hang.0, (λ v k low holds. hang.1 v k low (worse goal s events n v k cut.0 low holds)), cut.1))

-- events that hang
abbrev HangsAll : SearchTask → Given → List Event → Type 0
HangsAll task given events = (n : ℕ) × IsToldAt task given events (Some (record { verdict = Hung; events = n }))

-- a list that hangs by a judge behind first events, cut behind what it needs

hung_with : (task : SearchTask) (given : Given) (first es : List Event) (kind needs : ℕ) (v : SearchVerdict) (n : ℕ) →
    ((goal : Criteria) (s : State) (xs : List Event) → FirstIsNoWorse goal s xs) → CutKeepsHang →
    IsToldAt task given (first ++ es) (Some (record { verdict = v; events = n })) → Some (record { kind = kind; needs = needs }) ≡ hang_with (length first) v n →
    HangsAll task given (first ++ take needs es)
hung_with task given first es kind needs (Run v) n worse keeps h is = absurd (let bad : ◌≡◌ {A = Option (Judgement ℕ)} (Some (record { kind = kind; needs = needs })) None = is in cc)
hung_with task given first es kind needs Hung n worse keeps h is =
    let parts = parts_of (length first) 6 n (record { kind = kind; needs = needs }) is in
    let there : first ++ take needs es ≡ take n (first ++ es) =
    ap (λ k. first ++ take k es) parts.needs_is ∙ take_needed first es n parts.within in
    (n, subst (λ xs. IsToldAt task given xs (Some (record { verdict = Hung; events = n }))) (sym there) (cut_hang task given (first ++ es) n worse keeps h))

hung_by : (task : SearchTask) (given : Given) (first es : List Event) (kind needs : ℕ) (told : Option Told) →
    ((goal : Criteria) (s : State) (xs : List Event) → FirstIsNoWorse goal s xs) → CutKeepsHang → IsToldAt task given (first ++ es) told →
    Some (record { kind = kind; needs = needs }) ≡ hang_behind (length first) told → HangsAll task given (first ++ take needs es)
hung_by task given first es kind needs None worse keeps h is = absurd (let bad : ◌≡◌ {A = Option (Judgement ℕ)} (Some (record { kind = kind; needs = needs })) None = is in cc)
hung_by task given first es kind needs (Some told) worse keeps h is = hung_with task given first es kind needs told.verdict told.events worse keeps h is

-- what the passes leave hangs

left_hangs : (task : SearchTask) (given : Given) (s : State) (q : Question) (events first rest fs : List Event) (n : ℕ) →
    ((goal : Criteria) (t : State) (es : List Event) → FirstIsNoWorse goal t es) → CutKeepsHang → Begins given s q →
    IsToldAt task given events (Some (record { verdict = Hung; events = n })) → first ++ rest ≡ take n events →
    (fs ≡ rest) ⊎ AreNeeded (λ kind. 6 == kind) (HasHangFrom s q task.hung given first) fs → HangsAll task given (first ++ fs)
left_hangs task given s q events first rest fs n worse keeps begins h parts (inl is) =
    let there : first ++ fs ≡ take n events = ap (λ es. first ++ es) is ∙ parts in
    (n, subst (λ es. IsToldAt task given es (Some (record { verdict = Hung; events = n }))) (sym there) (cut_hang task given events n worse keeps h))
left_hangs task given s q events first rest fs n worse keeps begins h parts (inr (es, m, (kind, has, same), is)) =
    let had = has task refl begins in
    subst (λ xs. HangsAll task given (first ++ xs)) (sym is) (hung_by task given first es kind m had.0 worse keeps had.1 had.2)

pub hung_printed : (task : SearchTask) (given : Given) (s : State) (q : Question) (events cut first rest fs : List Event) (n : ℕ) (printed : Printed) →
    ((goal : Criteria) (t : State) (es : List Event) → FirstIsNoWorse goal t es) → CutKeepsHang → Begins given s q → task.whole ≡ false →
    cut ≡ take n events → first ≡ take (length given.first) cut → rest ≡ drop (length given.first) cut → printed.events.items ≡ first ++ fs →
    printed.verdict ≡ Hung → IsToldAt task given events (Some (record { verdict = Hung; events = n })) →
    Shortens (λ k. 6 == k) (HasHangFrom s q task.hung given first) rest fs →
    (fs ≡ rest) ⊎ AreNeeded (λ k. 6 == k) (HasHangFrom s q task.hung given first) fs →
    ArePrintedWith true task given events (record { verdict = Hung; events = n }) printed
hung_printed task given s q events cut first rest fs n printed worse keeps begins part cut_is first_is rest_is joined verdict h short left =
    let told : Told = record { verdict = Hung; events = n } in
    let parts = cut_parts (length given.first) cut (take n events) first rest cut_is first_is rest_is in
    let hangs = left_hangs task given s q events first rest fs n worse keeps begins h parts left in
    let by_hang : Shortens (λ k. kind_number Hung == k) (HasHang task given first) rest fs =
    shortens_by (λ k. 6 == k) (HasHangFrom s q task.hung given first) (HasHang task given first) rest fs (λ xs verdict has. has task refl begins) short in
    let shortened : ArePrinted false task given events told printed.events.items =
    are_shortened (length given.first) task given Hung cut (take n events) first rest fs printed.events.items cut_is first_is rest_is joined by_hang in
    record {
      are_printed = subst (λ b. ArePrinted b task given events told printed.events.items) (sym part) shortened;
      final = record { verdict = Hung; events = hangs.0 };
      verdict_is = verdict;
      is_told = subst (λ es. IsToldAt task given es (Some (record { verdict = Hung; events = hangs.0 }))) (sym joined) hangs.1;
      same_kind = refl;
    }

-- all events of a run
pub whole_printed : (cut : Bool) (task : SearchTask) (given : Given) (events : List Event) (told : Told) (printed : Printed) → is_whole task.whole told.verdict ≡ true →
    printed.events.items ≡ events → printed.verdict ≡ told.verdict → IsRunToldAt cut task given events (Some told) → ArePrintedWith cut task given events told printed
whole_printed cut task given events told printed whole same verdict h = record {
  are_printed = subst (λ b. ArePrinted b task given events told printed.events.items) (sym whole) same;
  final = told;
  verdict_is = verdict;
  is_told = subst (λ es. IsRunToldAt cut task given es (Some told)) (sym same) h;
  same_kind = refl;
}

-- what a run that hangs needs
pub hung_needs : (cut : Bool) (task : SearchTask) (given : Given) (events : List Event) (told : Told) → told.verdict ≡ Hung → IsRunToldAt cut task given events (Some told) →
    (cut ≡ true) × IsToldAt task given events (Some (record { verdict = Hung; events = told.events }))
hung_needs cut task given events told is h =
    hung_is_cut cut task given events told.events
    (subst (λ v. IsRunToldAt cut task given events (Some (record { verdict = v; events = told.events }))) is h)

-- what a run needs that goes wrong by a verdict of its events
run_verdict : (a b : Judged) → ◌≡◌ {A = Told} (told_of a) (told_of b) → a ≡ b
run_verdict a b h =
    let verdicts : ◌≡◌ {A = SearchVerdict} (Run a.verdict) (Run b.verdict) = ap (λ (t : Told). t.verdict) h in
    let verdict : a.verdict ≡ b.verdict = cc in
    let count : a.events ≡ b.events = ap (λ (t : Told). t.events) h in
    λ i. record { verdict = verdict i; events = count i }

same_judged : (task : SearchTask) (given : Given) (events : List Event) (judged : Judged) (booted : State) (other : Option Judged) →
    IsBootState given.file given.conf booted → IsJudged (criteria_of given) booted events other →
    ◌≡◌ {A = Option Told} (Some (told_of judged)) (option_map told_of other) → IsJudgedAt given events (Some judged)
same_judged task given events judged booted None boots h is = absurd (cc)
same_judged task given events judged booted (Some other) boots h is =
    let same : ◌≡◌ {A = Told} (told_of judged) (told_of other) = cc in
    (booted, boots, subst (λ j. IsJudged (criteria_of given) booted events (Some j)) (sym (run_verdict judged other same)) h)

run_needs_by : (cut : Bool) (task : SearchTask) (given : Given) (events : List Event) (judged : Judged) → IsRunToldAt cut task given events (Some (told_of judged)) →
    IsJudgedAt given events (Some judged)
run_needs_by true task given events judged h = (h.0, h.1, h.2.0)
run_needs_by false task given events judged h = same_judged task given events judged h.0 h.2.0 h.1 h.2.1 h.2.2

pub run_needs : (cut : Bool) (task : SearchTask) (given : Given) (events : List Event) (told : Told) (v : Verdict) → told.verdict ≡ Run v → IsRunToldAt cut task given events (Some told) →
    IsJudgedAt given events (Some (record { verdict = v; events = told.events }))
run_needs cut task given events told v is h =
    run_needs_by cut task given events (record { verdict = v; events = told.events })
    (subst (λ w. IsRunToldAt cut task given events (Some (record { verdict = w; events = told.events }))) is h)
