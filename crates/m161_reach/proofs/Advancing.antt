use Rattle.std.proofs.Common.{◌≡◌, ◌∙◌, refl, ap, sym, subst, ℕ, zero, suc, ◌+◌, ◌<◌, arith, false, List, [], ◌∷◌, length, get_or, Option, None, Some, Result, Ok, Err}
use Rattle.std.specs.Prelude.{◌&&◌, if◌then◌else◌, is_some, nat_lt, not, option_map, option_to_list, slice_get}
use Rattle.std.specs.Option.{option_or}
use Rattle.m161_cpu.specs.declared.processor.Outcome.{Outcome}
use Rattle.m161_cpu.specs.declared.uses.Uses.{Uses}
use Rattle.m161_machine.specs.declared.event.Event.{Event}
use Rattle.m161_machine.specs.declared.event.Event.TheVariants.{Done, Key, Step}
use Rattle.m161_machine.specs.declared.event.Refusal.{Refusal}
use Rattle.m161_machine.specs.History.{Refuses}
use Rattle.m161_machine.specs.State.{State, is_worn, next as result_of}
use Rattle.m161_machine.specs.Uses.{uses_in}
use Rattle.m161_judge.specs.Verdict.{Criteria}
use Rattle.m161_alike.specs.declared.known.Known.{Known}
use Rattle.m161_explore.specs.declared.system.Advanced.{Advanced}
use Rattle.m161_explore.specs.declared.system.Advanced.TheVariants.{Refused}
use Rattle.m161_states.specs.declared.verdict.Unknown.{Unknown}
use Rattle.m161_states.specs.declared.verdict.EventVerdict.{EventVerdict}
use Rattle.m161_states.specs.declared.verdict.EventVerdict.TheVariants.{Stuck}
use Rattle.m161_states.specs.Question.{Question}
use Rattle.m161_states.specs.Run.{FreshIsSame, freshened}
use Rattle.m161_states.specs.System.{Explored, Flags, accepted, agreed_after, behind, flags_behind, fresh}
use Rattle.m161_states.specs.Verdicts.{conflict_in, has_sent, judged, output_in, stop_by, wrong_in, wrong_with}
use Rattle.m161_reach.specs.helpers.Advance.{AdvancesBy, Takes, TakesNext, advanced_by, asked, unmade}
use Rattle.m161_reach.proofs.Fresh.{fresh_stuck, fresh_uses}

-- Events that are made.

given_of : (r : Result (Outcome × State) Refusal) (o : Outcome) (t : State) → freshened r ≡ Ok (o, t) →
    (u : State) × (r ≡ Ok (o, u)) × (fresh u ≡ t)
given_of (Ok g) o t h =
    let same : ◌≡◌ {A = Result (Outcome × State) Refusal} (Ok (g.0, fresh g.1)) (Ok (o, t)) = h in
    let pair : ◌≡◌ {A = Outcome × State} (g.0, fresh g.1) (o, t) = cc in
    let first = ap (λ (x : Outcome × State). x.0) pair in
    let second = ap (λ (x : Outcome × State). x.1) pair in
    (g.1, (λ i. Ok (first i, g.1)), second)
given_of (Err e) o t h = absurd (let bad : ◌≡◌ {A = Result (Outcome × State) Refusal} (Err e) (Ok (o, t)) = h in cc)

refused_of : (r : Result (Outcome × State) Refusal) (e : Refusal) → freshened r ≡ Err e → (f : Refusal) × (r ≡ Err f)
refused_of (Ok g) e h = absurd (let bad : ◌≡◌ {A = Result (Outcome × State) Refusal} (Ok (g.0, fresh g.1)) (Err e) = h in cc)
refused_of (Err f) e h = (f, refl)

-- a state of the exploration whose machine's state is this one
abbrev pub around : State → ℕ → List Flags → Option ℕ → Explored
around s typed flags agreed = record { state = fresh s; typed = typed; flags = flags; agreed = agreed }

pub refused : FreshIsSame → (goal : Criteria) (s : State) (typed : ℕ) (flags : List Flags) (agreed : Option ℕ) (e : Event) (r : Refusal) (t : Explored) →
    is_worn s.made ≡ false → result_of s e ≡ Err r → t ≡ around s typed flags agreed → Takes goal (around s typed flags agreed) e t None
refused law goal s typed flags agreed e r t worn h same =
    let first = refused_of (result_of (fresh s) e) r (law s e worn ∙ ap freshened h) in (first.0, first.1, same)

none_sent : (output : Option (List ℕ)) (agreed : Option ℕ) → agreed_after output [] agreed ≡ agreed
none_sent None agreed = refl
none_sent (Some asked) agreed = refl

pub step_taken : FreshIsSame → (goal : Criteria) (s new : State) (typed p : ℕ) (flags : List Flags) (agreed : Option ℕ) (o : Outcome) →
    is_worn s.made ≡ false → result_of s (Step p) ≡ Ok (o, new) →
    Takes goal (around s typed flags agreed) (Step p) (around new typed (flags_behind (uses_in p s).stored goal.watches flags) agreed) (Some o)
step_taken law goal s new typed p flags agreed o worn h =
    let given = given_of (result_of (fresh s) (Step p)) o (fresh new) (law s (Step p) worn ∙ ap freshened h) in
    let state_is = given.2 in
    let stored = ap (λ (u : Uses). u.stored) (fresh_uses p s) in
    let sent = none_sent goal.output agreed in (
      given.0,
      given.1,
      λ i. record {
        state = sym state_is i;
        typed = typed;
        flags = flags_behind (sym stored i) goal.watches flags;
        agreed = sym sent i;
      },
    )

pub done_taken : FreshIsSame → (goal : Criteria) (s new : State) (typed : ℕ) (flags : List Flags) (agreed : Option ℕ) (o : Outcome) →
    is_worn s.made ≡ false → result_of s Done ≡ Ok (o, new) →
    Takes goal (around s typed flags agreed) Done (around new typed flags (agreed_after goal.output (option_to_list s.board.console.latch) agreed)) (Some o)
done_taken law goal s new typed flags agreed o worn h =
    let given = given_of (result_of (fresh s) Done) o (fresh new) (law s Done worn ∙ ap freshened h) in
    let state_is = given.2 in (
      given.0,
      given.1,
      λ i. record {
        state = sym state_is i;
        typed = typed;
        flags = flags;
        agreed = agreed_after goal.output (option_to_list s.board.console.latch) agreed;
      },
    )

pub key_taken : FreshIsSame → (goal : Criteria) (s new : State) (typed byte : ℕ) (flags : List Flags) (agreed : Option ℕ) (o : Outcome) →
    is_worn s.made ≡ false → result_of s (Key byte) ≡ Ok (o, new) →
    Takes goal (around s typed flags agreed) (Key byte) (around new (typed + 1) flags agreed) (Some o)
key_taken law goal s new typed byte flags agreed o worn h =
    let given = given_of (result_of (fresh s) (Key byte)) o (fresh new) (law s (Key byte) worn ∙ ap freshened h) in
    let state_is = given.2 in
    let sent = none_sent goal.output agreed in (
      given.0,
      given.1,
      λ i. record {
        state = sym state_is i;
        typed = typed + 1;
        flags = flags;
        agreed = sym sent i;
      },
    )

-- a Step or a key that is refused

pub step_refused : (r : Result (Outcome × State) Refusal) (p : ℕ) (refusal : Refusal) → Refuses r (Step p) refusal → (f : Refusal) × (r ≡ Err f)
step_refused (Err first) p refusal h = (first, refl)
step_refused (Ok given) p refusal h = absurd (let bad : ◌≡◌ {A = Event} (Step p) Done = h.1 in cc)

pub key_refused : (r : Result (Outcome × State) Refusal) (byte : ℕ) (refusal : Refusal) → Refuses r (Key byte) refusal → (f : Refusal) × (r ≡ Err f)
key_refused (Err first) byte refusal h = (first, refl)
key_refused (Ok given) byte refusal h = absurd (let bad : ◌≡◌ {A = Event} (Key byte) Done = h.1 in cc)

pub there : (xs : List ℕ) (i : ℕ) → i < length xs → slice_get xs i ≡ Some (get_or xs i 0)
there [] i inside = absurd (let bad : ⊥ = omega (arith, inside) in bad)
there (x ∷ xs) zero inside = refl
there (x ∷ xs) (suc i) inside = there xs i (omega (arith, inside))

-- what comes of an event

fresh_wrong : (goal : Criteria) (y : Explored) → wrong_in goal (unmade y) ≡ wrong_in goal y
fresh_wrong goal y =
    let stuck = fresh_stuck (nat_lt y.typed (length goal.keys)) y.state in
    λ i. option_or (conflict_in y.state)
    (option_or (if stuck i && not (has_sent goal.output y.agreed) then Some Stuck else None) (output_in goal y))

pub accepted_came : (q : Question) (x t : Explored) (e : Event) (o : Outcome) (u : State) (v : Option EventVerdict) → stop_by q x (Some e) ≡ None →
    result_of (fresh x.state) e ≡ Ok (o, u) → t ≡ unmade (behind q.goal x e u) →
    option_or (wrong_with q.goal x e o) (wrong_in q.goal t) ≡ v → AdvancesBy q x (Some e) t (advanced_by v)
accepted_came q x t e o u None stop r is h = (
  behind q.goal x e u,
  stop,
  ap (accepted q.goal x e) r,
  ap (judged q.goal x e) r
      ∙ ap (option_or (wrong_with q.goal x e o)) (sym (ap (wrong_in q.goal) is ∙ fresh_wrong q.goal (behind q.goal x e u))) ∙ h,
  is,
)
accepted_came q x t e o u (Some what) stop r is h = (
  behind q.goal x e u,
  stop,
  ap (accepted q.goal x e) r,
  ap (judged q.goal x e) r
      ∙ ap (option_or (wrong_with q.goal x e o)) (sym (ap (wrong_in q.goal) is ∙ fresh_wrong q.goal (behind q.goal x e u))) ∙ h,
  is,
)

pub refused_came : (q : Question) (x t : Explored) (e : Event) (f : Refusal) → stop_by q x (Some e) ≡ None → result_of (fresh x.state) e ≡ Err f → t ≡ x →
    AdvancesBy q x (Some e) t Refused
refused_came q x t e f stop r same = (stop, ap (accepted q.goal x e) r, same)

-- what comes of an input
abbrev pub Comes : Criteria → Explored → Option Outcome → Advanced EventVerdict Unknown → Type 0
Comes goal t made came = came ≡ (if is_some made then advanced_by (wrong_in goal t) else Refused)

pub done_came : (goal : Criteria) (known : Known) (x t : Explored) (made : Option Outcome) (came : Advanced EventVerdict Unknown) → Takes goal x Done t made →
    Comes goal t made came → AdvancesBy (asked goal known) x (Some Done) t came
done_came goal known x t (Some o) came h is =
    subst (AdvancesBy (asked goal known) x (Some Done) t) (sym is) (accepted_came (asked goal known) x t Done o h.0 (wrong_in goal t) refl h.1 h.2 refl)
done_came goal known x t None came h is =
    subst (AdvancesBy (asked goal known) x (Some Done) t) (sym is) (refused_came (asked goal known) x t Done h.0 refl h.1 h.2)

abbrev pub key_of : Option ℕ → Option Event
key_of byte = option_map (λ b. Key b) byte

pub key_came : (goal : Criteria) (known : Known) (x t : Explored) (byte : Option ℕ) (made : Option Outcome) (came : Advanced EventVerdict Unknown) →
    TakesNext goal x (key_of byte) t made → Comes goal t made came → AdvancesBy (asked goal known) x (key_of byte) t came
key_came goal known x t (Some byte) (Some o) came h is =
    subst (AdvancesBy (asked goal known) x (Some (Key byte)) t) (sym is)
    (accepted_came (asked goal known) x t (Key byte) o h.0 (wrong_in goal t) refl h.1 h.2 refl)
key_came goal known x t (Some byte) None came h is =
    subst (AdvancesBy (asked goal known) x (Some (Key byte)) t) (sym is) (refused_came (asked goal known) x t (Key byte) h.0 refl h.1 h.2)
key_came goal known x t None (Some o) came h is = absurd (let bad : ◌≡◌ {A = Option Outcome} (Some o) None = h.0 in cc)
key_came goal known x t None None came h is = subst (AdvancesBy (asked goal known) x None t) (sym is) (refl, refl, h.1)
