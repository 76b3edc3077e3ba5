use Rattle.std.proofs.Common.{◌≡◌, ◌∙◌, ◌⊎◌, inl, inr, ap, sym, subst, ℕ, zero, suc, ◌<◌, arith, true, false, List, [], ◌∷◌, take, Option, None, Some, Result, Ok, Err}
use Rattle.std.specs.Prelude.{IfOk, if◌then◌else◌, nat_lt, option_map, slice_get}
use Rattle.std.proofs.lemmas.Bool.Decides.{nat_tests}
use Rattle.std.proofs.lemmas.Option.{slice_get_within}
use Rattle.m161_cpu.specs.declared.processor.Outcome.{Outcome}
use Rattle.m161_judge.specs.declared.verdict.Judged.{Judged}
use Rattle.m161_judge.specs.declared.verdict.Verdict.{Verdict}
use Rattle.m161_judge.specs.declared.verdict.Verdict.TheVariants.{End}
use Rattle.m161_judge.specs.Verdict.{Criteria, IsJudged, IsRefused, after, going_on, rank}
use Rattle.m161_machine.specs.declared.event.Event.{Event}
use Rattle.m161_machine.specs.declared.event.Refusal.{Refusal}
use Rattle.m161_machine.specs.History.{boot_state}
use Rattle.m161_machine.specs.State.{State, next}
use Rattle.m161_states.specs.Question.{Question, booted, least}
use Rattle.m161_reach.specs.declared.told.Told.{Told}
use Rattle.m161_reach.specs.From.{asked_of, no_time, with_known}
use Rattle.m161_reach.specs.Hangs.{HangFirst, HangingAreMade, NeverHang}
use Rattle.m161_reach.specs.Reach.{CanBeAsked, start_in}
use Rattle.m161_reach.specs.Told.{Hang, HangNot, IsTold, NoneBefore, TellsOf, ends_of, told_of}
use Rattle.m161_reach.specs.helpers.Telling.{IsFinding, comes_first}

-- The verdict of a search.

-- events that hang are accepted, from the state at boot on

made : HangingAreMade → (goal : Criteria) (s : State) (few : ℕ) (events : List Event) (n : ℕ) → CanBeAsked s (ends_of goal) →
    HangFirst (asked_of s (ends_of goal)) few events n → (t : State) × (after s events ≡ Some t)
made law goal s few events n can h =
    let q = asked_of s (ends_of goal) in
    let led = law q few events n h in
    let same : boot_state (booted q) ≡ s = ap (λ b. boot_state (if b then start_in s else least)) can.can ∙ sym can.is_boot in
    (led.0, subst (λ x. after x events ≡ Some led.0) same led.1)

-- so none of them is refused

none_made : (t : State) → ◌≡◌ {A = Option State} None (Some t) → ⊥
none_made t h = absurd (cc)

steps_on : (t u : State) (xs : List Event) (k : ℕ) (r : Result (Outcome × State) Refusal) →
    ((v : State) → after v xs ≡ Some t → after v (take k xs) ≡ Some u → ⊥) →
    going_on r (λ v. after v xs) ≡ Some t → going_on r (λ v. after v (take k xs)) ≡ Some u → ⊥
steps_on t u xs k (Ok given) rest all some = rest given.1 all some
steps_on t u xs k (Err why) rest all some = none_made t all

refused_not : (events : List Event) (k : ℕ) (s t u : State) (e : Event) (why : Refusal) → after s events ≡ Some t → slice_get events k ≡ Some e →
    after s (take k events) ≡ Some u → next u e ≡ Err why → ⊥
refused_not [] k s t u e why all at some refused =
    let within = slice_get_within [] k e at in absurd (let bad : ⊥ = omega (arith, within) in bad)
refused_not (x ∷ xs) zero s t u e why all at some refused =
    let event : x ≡ e = cc in
    let state : s ≡ u = cc in
    let stops : next s x ≡ Err why = (λ i. next (state i) (event i)) ∙ refused in
    none_made t (sym (ap (λ r. going_on r (λ v. after v xs)) stops) ∙ all)
refused_not (x ∷ xs) (suc k) s t u e why all at some refused =
    steps_on t u xs k (next s x) (λ v made first. refused_not xs k v t u e why made at first refused) all some

not_refused : (s t : State) (events : List Event) → after s events ≡ Some t → IsRefused s events → ⊥
not_refused s t events h r = refused_not events r.place s t r.state r.event r.refusal h r.event_is r.leads.1 r.refused

-- whether a verdict comes before

is_low : (v : Verdict) → nat_lt (rank v) (rank End) ≡ true → rank v < rank End
is_low v h = grind (arith, nat_tests, h)

is_late : (v w : Verdict) → nat_lt (rank v) (rank End) ≡ false → rank w < rank End → rank w < rank v
is_late v w h low = grind (arith, nat_tests, h, low)

none_before : (goal : Criteria) (s t : State) (events : List Event) (judged : Option Judged) → after s events ≡ Some t → comes_first judged ≡ false →
    IsJudged goal s events judged → NoneBefore goal s events
none_before goal s t events None made late (inl refused) = absurd (not_refused s t events made refused)
none_before goal s t events None made late (inr none) = λ v n low holds. none v n holds
none_before goal s t events (Some judged) made late h = λ v n low holds. h.2 v n (is_late judged.verdict v late low) holds

-- the verdict, where there is this one of the events

first_or_not : (few : ℕ) (goal : Criteria) (s : State) (events : List Event) (v : Verdict) → (nat_lt (rank v) (rank End) ≡ true) ⊎ HangNot few goal s events →
    (rank v < rank End) ⊎ HangNot few goal s events
first_or_not few goal s events v (inl first) = inl (is_low v first)
first_or_not few goal s events v (inr not) = inr not

as_judged : (few : ℕ) (goal : Criteria) (s : State) (events : List Event) (judged : Option Judged) → IsJudged goal s events judged →
    (comes_first judged ≡ true) ⊎ HangNot few goal s events → IsTold few goal s events (option_map told_of judged)
as_judged few goal s events None h (inl first) = absurd (let bad : false ≡ true = first in cc)
as_judged few goal s events None h (inr not) = (h, not)
as_judged few goal s events (Some judged) h why = (h, first_or_not few goal s events judged.verdict why)

asked_so : (few : ℕ) (goal : Criteria) (s : State) (q : Question) (events : List Event) (judged : Option Judged) → with_known no_time q ≡ asked_of s (ends_of goal) →
    (comes_first judged ≡ true) ⊎ ((few ≡ 0) ⊎ NeverHang (with_known no_time q) few events) → (comes_first judged ≡ true) ⊎ HangNot few goal s events
asked_so few goal s q events judged asks (inl first) = inl first
asked_so few goal s q events judged asks (inr (inl none)) = inr (inl none)
asked_so few goal s q events judged asks (inr (inr never)) = inr (inr (subst (λ x. NeverHang x few events) asks never))

tells : HangingAreMade → (few : ℕ) (q : Question) (events : List Event) (judged : Option Judged) (told : Option Told) →
    IsFinding few q events judged told → TellsOf few q events judged told
tells law few q events judged told (inl same) = λ goal s asks h.
    subst (IsTold few goal s events) (sym same.same) (as_judged few goal s events judged h (asked_so few goal s q events judged asks.asks same.why))
tells law few q events judged told (inr hang) = λ goal s asks h.
    let hangs : HangFirst (asked_of s (ends_of goal)) few events hang.n = subst (λ x. HangFirst x few events hang.n) asks.asks hang.hangs in
    let led = made law goal s few events hang.n asks.can hangs in
    let all : Hang few goal s events hang.n = (hang.some, none_before goal s led.0 events judged led.1 hang.late h, hangs) in
    subst (IsTold few goal s events) (sym hang.is) all

pub tells_all : {E : Type 0} → HangingAreMade → (few : ℕ) (q : Question) (events : List Event) (judged : Option Judged) (result : Result (Option Told) E) →
    IfOk result (IsFinding few q events judged) → IfOk result (TellsOf few q events judged)
tells_all law few q events judged (Ok told) found = tells law few q events judged told found
tells_all law few q events judged (Err why) found = tt
