use Rattle.std.proofs.Common.{◌≡◌, ◌∙◌, inl, inr, sym, ap, refl, subst, ℕ, ◌+◌, ◌<◌, nat_lt, Bool, true, false, ◌&&◌, Option, None, List, [], ◌∷◌, ◌++◌, length, take, slice_get, Some, IsOk, Result, Ok, Err, arith}
use Rattle.std.proofs.lemmas.Bool.{cases_lt}
use Rattle.std.proofs.lemmas.List.{take_more}
use Rattle.std.proofs.lemmas.Option.{get_or_from_slice_get, slice_get_past}
use Rattle.m161_cpu.specs.declared.processor.Outcome.{Outcome}
use Rattle.m161_cpu.specs.declared.processor.Outcome.TheVariants as outcomes
use Rattle.m161_machine.specs.declared.event.Entry.{Entry}
use Rattle.m161_machine.specs.declared.event.Event.{Event}
use Rattle.m161_machine.specs.declared.event.Event.TheVariants as events
use Rattle.m161_machine.specs.declared.event.Refusal.{Refusal}
use Rattle.m161_machine.specs.State.{State, next}
use Rattle.m161_machine.specs.History.{History, Answers, Continues, Leads, Refuses, events_of}
use Rattle.m161_machine.proofs.Continuing.{continues_more}
use Rattle.m161_debug.specs.declared.stop.StopReason.{StopReason}
use Rattle.m161_debug.specs.declared.stop.StopReason.TheVariants.{Break, Conflict, End, Off, Refused, Until}
use Rattle.m161_debug.specs.Stops.{breaks, never, off_stop, place_of, IsBefore, NoneBefore, Stops, StopsIn}

-- A run without breakpoints, which waits for nothing, one event after the other.

-- event k is this one
abbrev pub IsAt : List Event → ℕ → Event → Type 0
IsAt es k e = (k < length es) × (slice_get es k ≡ Some e)

take_at_more : (es : List Event) (k : ℕ) (e : Event) → IsAt es k e → take (k + 1) es ≡ take k es ++ e ∷ []
take_at_more es k e here = take_more es k e here.0 ∙ ap (λ x. take k es ++ x ∷ []) (get_or_from_slice_get es k e e here.1)

and_false : (b : Bool) → (b && false) ≡ false
and_false true = refl
and_false false = refl

no_break : (k : ℕ) (s : State) (e : Event) → breaks [] k s e ≡ false
no_break k s (events.Step p) = ap (λ b. nat_lt 0 k && b) (and_false (nat_lt p (length s.processors))) ∙ and_false (nat_lt 0 k)
no_break k s (events.Key byte) = and_false (nat_lt 0 k)
no_break k s events.Done = and_false (nat_lt 0 k)

-- one state is before an event

abbrev Given : Type 0
Given = Outcome × State

one_result : (x : Result Given Refusal) (y z : Given) → x ≡ Ok y → x ≡ Ok z → y ≡ z
one_result x y z h k = let both : ◌≡◌ {A = Result Given Refusal} (Ok y) (Ok z) = sym h ∙ k in cc

leads_to_one : (xs ys : List Entry) (s t u : State) → events_of xs ≡ events_of ys → Leads s xs t → Leads s ys u → t ≡ u
leads_to_one [] [] s t u same h k = h ∙ sym k
leads_to_one [] (y ∷ ys) s t u same h k = absurd (let bad : ◌≡◌ {A = List Event} [] (y.event ∷ events_of ys) = same in cc)
leads_to_one (x ∷ xs) [] s t u same h k = absurd (let bad : ◌≡◌ {A = List Event} (x.event ∷ events_of xs) [] = same in cc)
leads_to_one (x ∷ xs) (y ∷ ys) s t u same h k =
    let both : ◌≡◌ {A = List Event} (x.event ∷ events_of xs) (y.event ∷ events_of ys) = same in
    let first : x.event ≡ y.event = cc in
    let rest : events_of xs ≡ events_of ys = cc in
    let given = one_result (next s x.event) (x.outcome, h.0) (y.outcome, k.0) h.1 (ap (next s) first ∙ k.1) in
    let state : h.0 ≡ k.0 = ap (λ (g : Given). g.1) given in
    leads_to_one xs ys h.0 t u rest h.2 (subst (λ v. Leads v ys u) (sym state) k.2)

before_is_one : (s : State) (es : List Event) (k : ℕ) (t u : State) → IsBefore s es k t → IsBefore s es k u → t ≡ u
before_is_one s es k t u a b = leads_to_one a.0 b.0 s t u (a.1 ∙ sym b.1) a.2 b.2

before : (m n : History) (es : List Event) (k : ℕ) → Continues m (take k es) n → IsBefore m.state es k n.state
before m n es k made = (made.entries, made.events_are, made.run_is)

-- the reason to stop at a place, in the state before it, and the state that it leaves

abbrev Reason : Type 0
Reason = Option (StopReason × State)

none_some : (x : StopReason × State) → ◌≡◌ {A = Reason} None (Some x) → ⊥
none_some x bad = cc

no_stop : (x : StopReason) → ◌≡◌ {A = Option StopReason} None (Some x) → ⊥
no_stop x bad = cc

abbrev reason_on : Option StopReason → State → Reason
reason_on (Some stop) t = Some (stop, t)
reason_on None t = None

abbrev reason_after : ℕ → State → Result Given Refusal → Reason
reason_after k s (Err refusal) = Some (Refused k refusal, s)
reason_after k s (Ok r) = reason_on (off_stop k r.0) r.1

abbrev reason_at : ℕ → State → Option Event → Reason
reason_at k s None = Some (End k, s)
reason_at k s (Some e) = reason_after k s (next s e)

tried : (es : List Event) (k : ℕ) (s : State) (e : Event) (x : Result Given Refusal) → slice_get es k ≡ Some e → next s e ≡ x →
    reason_at k s (slice_get es k) ≡ reason_after k s x
tried es k s e x at is = ap (reason_at k s) at ∙ ap (reason_after k s) is

is_reason : (es : List Event) (s : State) (stop : StopReason) (t : State) → StopsIn never [] es s stop t →
    reason_at (place_of stop) s (slice_get es (place_of stop)) ≡ Some (stop, t)
is_reason es s (Break k) t h = absurd (let bad : true ≡ false = sym h.2 ∙ no_break k s h.0 in cc)
is_reason es s (Refused k refusal) t h = tried es k s h.0 (Err refusal) h.1.0 h.1.2 ∙ ap (λ u. Some (Refused k refusal, u)) (sym h.2)
is_reason es s (Off k) t h = tried es k s h.0 (Ok (outcomes.PoweredOff, t)) h.1.0 h.1.2
is_reason es s (Conflict k) t h = tried es k s h.0 (Ok (outcomes.Conflict h.1 h.2, t)) h.3.0 h.3.2
is_reason es s (Until k) t h = absurd (let bad : false ≡ true = h.4 in cc)
is_reason es s (End n) t h =
    ap (reason_at n s) (slice_get_past es n (omega (arith, h.0))) ∙ ap (λ u. Some (End n, u)) (sym h.1)

-- no reason before a place

pub none_first : (s : State) (es : List Event) → NoneBefore never [] s es 0
none_first s es stop t less has = omega (arith, less)

none_more : (s : State) (es : List Event) (k : ℕ) (u : State) → IsBefore s es k u → reason_at k u (slice_get es k) ≡ None →
    NoneBefore never [] s es k → NoneBefore never [] s es (k + 1)
none_more s es k u here nothing none stop t less has = elim (cases_lt (place_of stop) k) [
  | inl lower ↦ none stop t lower has
  | inr above ↦ let same : place_of stop ≡ k = omega (arith, less, above) in
      let state : has.0 ≡ u = before_is_one s es k has.0 u (subst (λ i. IsBefore s es i has.0) same has.1) here in
      absurd (none_some (stop, t) (sym nothing ∙ (λ i. reason_at (sym same i) (sym state i) (slice_get es (sym same i))) ∙ is_reason es has.0 stop t has.2))
]

-- the events before a place were made, and none of them stopped the run
pub record MadeSome (m : History) (es : List Event) (k : ℕ) (n : History) : Type 0 where
  pub made : Continues m (take k es) n
  pub none : NoneBefore never [] m.state es k

module _ (m n t : History) (es : List Event) (k : ℕ) (e : Event) (at : IsAt es k e) (so_far : MadeSome m es k n) where
  made_more : (o : Outcome) → Answers n e (Ok o) t → Continues m (take (k + 1) es) t
  made_more o answer =
      let P : List Event → Type 0 = λ l. Continues m l t in
      subst P (sym (take_at_more es k e at)) (continues_more m n t (take k es) e o so_far.made answer)

  pub one_more : (o : Outcome) → Answers n e (Ok o) t → off_stop k o ≡ None → MadeSome m es (k + 1) t
  one_more o answer on = record {
    made = made_more o answer;
    none = none_more m.state es k n.state (before m n es k so_far.made)
        (tried es k n.state e (Ok (o, t.state)) at.1 answer.0 ∙ ap (λ x. reason_on x t.state) on) so_far.none;
  }

  -- the event is refused
  by_refusal : (refusal : Refusal) (x : Result Given Refusal) → next n.state e ≡ x → Refuses x e refusal → Stops [] m es (Refused k refusal) n
  by_refusal refusal (Err first) is refused = record {
    made = so_far.made;
    is_first = so_far.none;
    reason = inl (n.state, before m n es k so_far.made, (e, (at.1, no_break k n.state e, is ∙ ap (λ r. Err r) (sym refused)), refl));
  }
  by_refusal refusal (Ok given) is refused = record {
    made = so_far.made;
    is_first = so_far.none;
    reason = inr (
      k,
      ap (Refused k) refused.0,
      at.1 ∙ ap (λ v. Some v) refused.1,
      subst (λ y. IsOk (next n.state y)) refused.1 (subst IsOk (sym is) refl),
    );
  }

  pub refused : (refusal : Refusal) → Answers n e (Err refusal) t → Stops [] m es (Refused k refusal) t
  refused refusal answer =
      let P : History → Type 0 = λ u. Stops [] m es (Refused k refusal) u in
      subst P (sym answer.1) (by_refusal refusal (next n.state e) refl answer.0)

  -- it switches the machine off
  pub switches_off : (o : Outcome) (stop : StopReason) → Answers n e (Ok o) t → off_stop k o ≡ Some stop → Stops [] m es stop t
  switches_off outcomes.Ran stop answer off = absurd (no_stop stop off)
  switches_off (outcomes.Trapped code vector) stop answer off = absurd (no_stop stop off)
  switches_off outcomes.Idle stop answer off = absurd (no_stop stop off)
  switches_off outcomes.PoweredOff stop answer off =
      let same : Off k ≡ stop = cc in
      subst (λ x. Stops [] m es x t) same (record {
        made = made_more outcomes.PoweredOff answer;
        is_first = so_far.none;
        reason = inl (n.state, before m n es k so_far.made, (e, (at.1, no_break k n.state e, answer.0)));
      })
  switches_off (outcomes.Conflict row other) stop answer off =
      let same : Conflict k ≡ stop = cc in
      subst (λ x. Stops [] m es x t) same (record {
        made = made_more (outcomes.Conflict row other) answer;
        is_first = so_far.none;
        reason = inl (n.state, before m n es k so_far.made, (e, row, other, (at.1, no_break k n.state e, answer.0)));
      })
  switches_off outcomes.Taken stop answer off = absurd (no_stop stop off)

-- there are no more events
pub ends : (m n : History) (es : List Event) (k last : ℕ) → k ≡ length es → k ≡ last → MadeSome m es k n → Stops [] m es (End last) n
ends m n es k last all same so_far =
    let P : ℕ → Type 0 = λ i. Stops [] m es (End i) n in
    subst P same (record {
      made = so_far.made;
      is_first = so_far.none;
      reason = inl (n.state, before m n es k so_far.made, (all, refl));
    })
