-- A run, one event after the other.
use Rattle.std.proofs.Common.{◌≡◌, ◌∙◌, inl, inr, sym, ap, refl, subst, ℕ, ◌+◌, ◌<◌, Bool, true, false, Option, None, List, [], ◌∷◌, ◌++◌, length, take, slice_get, Some, IsOk, Result, Ok, Err, arith}
use Rattle.std.proofs.lemmas.Bool.{cases_lt, cases_order}
use Rattle.std.proofs.lemmas.List.{take_more}
use Rattle.std.proofs.lemmas.Option.{get_or_from_slice_get, slice_get_past}
use Rattle.m161_cpu.specs.declared.processor.Outcome.{Outcome}
use Rattle.m161_cpu.specs.declared.processor.Outcome.TheVariants as outcomes
use Rattle.m161_machine.specs.declared.event.Entry.{Entry}
use Rattle.m161_machine.specs.declared.event.Event.{Event}
use Rattle.m161_machine.specs.declared.event.Refusal.{Refusal}
use Rattle.m161_machine.specs.State.{State, next}
use Rattle.m161_machine.specs.History.{History, Answers, Continues, Leads, Refuses, events_of}
use Rattle.m161_machine.proofs.Continuing.{continues_more}
use Rattle.m161_debug.specs.declared.breakpoints.Breakpoint.{Breakpoint}
use Rattle.m161_debug.specs.declared.stop.StopReason.{StopReason}
use Rattle.m161_debug.specs.declared.stop.StopReason.TheVariants.{Break, Conflict, End, Off, Refused, Until}
use Rattle.m161_debug.specs.Stops.{breaks, off_stop, place_of, Awaited, HasOneStop, HasReason, IsBefore, NoneBefore, StopsBy, StopsIn}

-- event k is this one
abbrev pub IsAt : List Event → ℕ → Event → Type 0
IsAt es k e = (k < length es) × (slice_get es k ≡ Some e)

take_at_more : (es : List Event) (k : ℕ) (e : Event) → IsAt es k e → take (k + 1) es ≡ take k es ++ e ∷ []
take_at_more es k e here = take_more es k e here.0 ∙ ap (λ x. take k es ++ x ∷ []) (get_or_from_slice_get es k e e here.1)

-- no breakpoint stands before event k
abbrev pub Passes : List Breakpoint → ℕ → State → Event → Type 0
Passes bs k s e = breaks bs k s e ≡ false

pub none_some : {A : Type 0} (x : A) → ◌≡◌ {A = Option A} None (Some x) → ⊥
none_some x bad = cc

-- one state is before an event

abbrev Given : Type 0
Given = Outcome × State

one_result : (x : Result Given Refusal) (y z : Given) → x ≡ Ok y → x ≡ Ok z → y ≡ z
one_result x y z h k = let both : ◌≡◌ {A = Result Given Refusal} (Ok y) (Ok z) = sym h ∙ k in cc

leads_to_one : (xs ys : List Entry) (s t u : State) → events_of xs ≡ events_of ys → Leads s xs t → Leads s ys u → t ≡ u
leads_to_one [] [] s t u same h k = h ∙ sym k
leads_to_one [] (y ∷ ys) s t u same h k = absurd (let bad : ◌≡◌ {A = List Event} [] (y.event ∷ events_of ys) = same in cc)
leads_to_one (x ∷ xs) [] s t u same h k = absurd (let bad : ◌≡◌ {A = List Event} (x.event ∷ events_of xs) [] = same in cc)
leads_to_one (x ∷ xs) (y ∷ ys) s t u same h k =
    let both : ◌≡◌ {A = List Event} (x.event ∷ events_of xs) (y.event ∷ events_of ys) = same in
    let first : x.event ≡ y.event = cc in
    let rest : events_of xs ≡ events_of ys = cc in
    let given = one_result (next s x.event) (x.outcome, h.0) (y.outcome, k.0) h.1 (ap (next s) first ∙ k.1) in
    let state : h.0 ≡ k.0 = ap (λ (g : Given). g.1) given in
    leads_to_one xs ys h.0 t u rest h.2 (subst (λ v. Leads v ys u) (sym state) k.2)

before_is_one : (s : State) (es : List Event) (k : ℕ) (t u : State) → IsBefore s es k t → IsBefore s es k u → t ≡ u
before_is_one s es k t u a b = leads_to_one a.0 b.0 s t u (a.1 ∙ sym b.1) a.2 b.2

pub before : (m n : History) (es : List Event) (k : ℕ) → Continues m (take k es) n → IsBefore m.state es k n.state
before m n es k made = (made.entries, made.events_are, made.run_is)

-- the reason to stop at a place, in the state before it, and the state that it leaves

abbrev Reason : Type 0
Reason = Option (StopReason × State)

abbrev reason_on : Option StopReason → Bool → ℕ → State → Reason
reason_on (Some stop) met k t = Some (stop, t)
reason_on None true k t = Some (Until k, t)
reason_on None false k t = None

abbrev reason_after : Awaited → ℕ → State → Event → Result Given Refusal → Reason
reason_after aw k s e (Err refusal) = Some (Refused k refusal, s)
reason_after aw k s e (Ok r) = reason_on (off_stop k r.0) (aw e r.0 r.1) k r.1

abbrev reason_of : Bool → ℕ → State → Reason → Reason
reason_of true k s after = Some (Break k, s)
reason_of false k s after = after

abbrev pub reason_at : Awaited → List Breakpoint → ℕ → State → Option Event → Reason
reason_at aw bs k s None = Some (End k, s)
reason_at aw bs k s (Some e) = reason_of (breaks bs k s e) k s (reason_after aw k s e (next s e))

-- where no breakpoint stands before the event
passed : (aw : Awaited) (bs : List Breakpoint) (es : List Event) (k : ℕ) (s : State) (e : Event) (x : Result Given Refusal)
    → (slice_get es k ≡ Some e) × (breaks bs k s e ≡ false) × (next s e ≡ x) → reason_at aw bs k s (slice_get es k) ≡ reason_after aw k s e x
passed aw bs es k s e x tried =
    ap (reason_at aw bs k s) tried.0 ∙ ap (λ b. reason_of b k s (reason_after aw k s e (next s e))) tried.1 ∙ ap (reason_after aw k s e) tried.2

is_reason : (aw : Awaited) (bs : List Breakpoint) (es : List Event) (s : State) (stop : StopReason) (t : State)
    → StopsIn aw bs es s stop t → reason_at aw bs (place_of stop) s (slice_get es (place_of stop)) ≡ Some (stop, t)
is_reason aw bs es s (Break k) t h =
    ap (reason_at aw bs k s) h.1 ∙ ap (λ b. reason_of b k s (reason_after aw k s h.0 (next s h.0))) h.2 ∙ ap (λ u. Some (Break k, u)) (sym h.3)
is_reason aw bs es s (Refused k refusal) t h = passed aw bs es k s h.0 (Err refusal) h.1 ∙ ap (λ u. Some (Refused k refusal, u)) (sym h.2)
is_reason aw bs es s (Off k) t h = passed aw bs es k s h.0 (Ok (outcomes.PoweredOff, t)) h.1
is_reason aw bs es s (Conflict k) t h = passed aw bs es k s h.0 (Ok (outcomes.Conflict h.1 h.2, t)) h.3
is_reason aw bs es s (Until k) t h =
    passed aw bs es k s h.0 (Ok (h.1, t)) h.2 ∙ ap (λ x. reason_on x (aw h.0 h.1 t) k t) h.3 ∙ ap (λ b. reason_on None b k t) h.4
is_reason aw bs es s (End n) t h =
    ap (reason_at aw bs n s) (slice_get_past es n (omega (arith, h.0))) ∙ ap (λ u. Some (End n, u)) (sym h.1)

-- no reason before a place

pub none_before_first : (aw : Awaited) (bs : List Breakpoint) (s : State) (es : List Event) → NoneBefore aw bs s es 0
none_before_first aw bs s es stop t less has = omega (arith, less)

none_more : (aw : Awaited) (bs : List Breakpoint) (s : State) (es : List Event) (k : ℕ) (u : State)
    → IsBefore s es k u → reason_at aw bs k u (slice_get es k) ≡ None → NoneBefore aw bs s es k → NoneBefore aw bs s es (k + 1)
none_more aw bs s es k u here nothing none stop t less has = elim (cases_lt (place_of stop) k) [
  | inl lower ↦ none stop t lower has
  | inr above ↦ let same : place_of stop ≡ k = omega (arith, less, above) in
      let state : has.0 ≡ u = before_is_one s es k has.0 u (subst (λ i. IsBefore s es i has.0) same has.1) here in
      none_some (stop, t) (sym nothing ∙ (λ i. reason_at aw bs (sym same i) (sym state i) (slice_get es (sym same i))) ∙ is_reason aw bs es has.0 stop t has.2)
]

pub goes_on : (aw : Awaited) (bs : List Breakpoint) (m n t : History) (es : List Event) (k : ℕ) (e : Event) (o : Outcome) → IsAt es k e
    → Continues m (take k es) n → NoneBefore aw bs m.state es k → Passes bs k n.state e
    → Answers n e (Ok o) t → off_stop k o ≡ None → aw e o t.state ≡ false → NoneBefore aw bs m.state es (k + 1)
goes_on aw bs m n t es k e o at made none passes answer on unmet =
    none_more aw bs m.state es k n.state (before m n es k made)
    (passed aw bs es k n.state e (Ok (o, t.state)) (at.1, passes, answer.0) ∙ ap (λ x. reason_on x (aw e o t.state) k t.state) on ∙ ap (λ b. reason_on None b k t.state) unmet) none

pub made_more : (m n t : History) (es : List Event) (k : ℕ) (e : Event) (o : Outcome) → IsAt es k e
    → Continues m (take k es) n → Answers n e (Ok o) t → Continues m (take (k + 1) es) t
made_more m n t es k e o at made answer =
    let P : List Event → Type 0 = λ l. Continues m l t in
    subst P (sym (take_at_more es k e at)) (continues_more m n t (take k es) e o made answer)

-- an event that is refused by `next`, or for want of memory
by_refusal : (aw : Awaited) (bs : List Breakpoint) (m n : History) (es : List Event) (k : ℕ) (e : Event) (refusal : Refusal) (x : Result Given Refusal)
    → next n.state e ≡ x → slice_get es k ≡ Some e → Continues m (take k es) n → NoneBefore aw bs m.state es k → Passes bs k n.state e
    → Refuses x e refusal → StopsBy aw bs m es (Refused k refusal) n
by_refusal aw bs m n es k e refusal (Err first) is event made none passes refused = record {
  made = made;
  is_first = none;
  reason = inl (n.state, before m n es k made, (e, (event, passes, is ∙ ap (λ r. Err r) (sym refused)), refl));
}
by_refusal aw bs m n es k e refusal (Ok given) is event made none passes refused = record {
  made = made;
  is_first = none;
  reason = inr (
    k,
    ap (Refused k) refused.0,
    event ∙ ap (λ v. Some v) refused.1,
    subst (λ y. IsOk (next n.state y)) refused.1 (subst IsOk (sym is) refl),
  );
}

pub refused : (aw : Awaited) (bs : List Breakpoint) (m n t : History) (es : List Event) (k : ℕ) (e : Event) (refusal : Refusal) → IsAt es k e
    → Continues m (take k es) n → NoneBefore aw bs m.state es k → Passes bs k n.state e
    → Answers n e (Err refusal) t → StopsBy aw bs m es (Refused k refusal) t
refused aw bs m n t es k e refusal at made none passes answer =
    let P : History → Type 0 = λ u. StopsBy aw bs m es (Refused k refusal) u in
    subst P (sym answer.1) (by_refusal aw bs m n es k e refusal (next n.state e) refl at.1 made none passes answer.0)

-- a breakpoint before event k
pub stops_at_break : (aw : Awaited) (bs : List Breakpoint) (m n : History) (es : List Event) (k : ℕ) (e : Event) → IsAt es k e
    → Continues m (take k es) n → NoneBefore aw bs m.state es k → breaks bs k n.state e ≡ true → StopsBy aw bs m es (Break k) n
stops_at_break aw bs m n es k e at made none here = record {
  made = made;
  is_first = none;
  reason = inl (n.state, before m n es k made, (e, at.1, here, refl));
}

-- event k switches the machine off
pub switches_off : (aw : Awaited) (bs : List Breakpoint) (m n t : History) (es : List Event) (k : ℕ) (e : Event) (o : Outcome) (stop : StopReason) → IsAt es k e
    → Continues m (take k es) n → NoneBefore aw bs m.state es k → Passes bs k n.state e
    → Answers n e (Ok o) t → off_stop k o ≡ Some stop → StopsBy aw bs m es stop t
switches_off aw bs m n t es k e o stop at made none passes answer off = by o answer off
  where
    by : (o : Outcome) → Answers n e (Ok o) t → off_stop k o ≡ Some stop → StopsBy aw bs m es stop t
    by outcomes.Ran answer off = absurd (none_some stop off)
    by (outcomes.Trapped code vector) answer off = absurd (none_some stop off)
    by outcomes.Idle answer off = absurd (none_some stop off)
    by outcomes.PoweredOff answer off =
        let same : Off k ≡ stop = cc in
        subst (λ x. StopsBy aw bs m es x t) same (record {
          made = made_more m n t es k e outcomes.PoweredOff at made answer;
          is_first = none;
          reason = inl (n.state, before m n es k made, (e, (at.1, passes, answer.0)));
        })
    by (outcomes.Conflict row other) answer off =
        let same : Conflict k ≡ stop = cc in
        subst (λ x. StopsBy aw bs m es x t) same (record {
          made = made_more m n t es k e (outcomes.Conflict row other) at made answer;
          is_first = none;
          reason = inl (n.state, before m n es k made, (e, row, other, (at.1, passes, answer.0)));
        })
    by outcomes.Taken answer off = absurd (none_some stop off)

-- after event k, what the run waits for holds
pub waits_no_more : (aw : Awaited) (bs : List Breakpoint) (m n t : History) (es : List Event) (k : ℕ) (e : Event) (o : Outcome) → IsAt es k e
    → Continues m (take k es) n → NoneBefore aw bs m.state es k → Passes bs k n.state e
    → Answers n e (Ok o) t → off_stop k o ≡ None → aw e o t.state ≡ true → StopsBy aw bs m es (Until k) t
waits_no_more aw bs m n t es k e o at made none passes answer on met = record {
  made = made_more m n t es k e o at made answer;
  is_first = none;
  reason = inl (n.state, before m n es k made, (e, o, (at.1, passes, answer.0), on, met));
}

-- there are no more events
pub ends : (aw : Awaited) (bs : List Breakpoint) (m n : History) (es : List Event) (k last : ℕ) → k ≡ length es → k ≡ last
    → Continues m (take k es) n → NoneBefore aw bs m.state es k → StopsBy aw bs m es (End last) n
ends aw bs m n es k last all same made none =
    let P : ℕ → Type 0 = λ i. StopsBy aw bs m es (End i) n in
    subst P same (record {
      made = made;
      is_first = none;
      reason = inl (n.state, before m n es k made, (all, refl));
    })

-- a run has one stop

one_reason : (x : Reason) (y z : StopReason × State) → x ≡ Some y → x ≡ Some z → y ≡ z
one_reason x y z h k = let both : ◌≡◌ {A = Reason} (Some y) (Some z) = sym h ∙ k in cc

at_one_place : (aw : Awaited) (bs : List Breakpoint) (s : State) (es : List Event) (stop other : StopReason) (t u : State)
    → place_of stop ≡ place_of other → HasReason aw bs s es stop t → HasReason aw bs s es other u → ◌≡◌ {A = StopReason × State} (stop, t) (other, u)
at_one_place aw bs s es stop other t u same a b =
    let state : a.0 ≡ b.0 = before_is_one s es (place_of other) a.0 b.0 (subst (λ i. IsBefore s es i a.0) same a.1) b.1 in
    one_reason (reason_at aw bs (place_of other) b.0 (slice_get es (place_of other))) (stop, t) (other, u)
    ((λ i. reason_at aw bs (sym same i) (sym state i) (slice_get es (sym same i))) ∙ is_reason aw bs es a.0 stop t a.2)
    (is_reason aw bs es b.0 other u b.2)

pub has_one_stop : HasOneStop
has_one_stop aw bs s es stop other t u none_a a none_b b = elim (cases_order (place_of stop) (place_of other)) [
  | inl same ↦ let both = at_one_place aw bs s es stop other t u same a b in
      (ap (λ (x : StopReason × State). x.0) both, ap (λ (x : StopReason × State). x.1) both)
  | inr (inl less) ↦ absurd (none_b stop t less a)
  | inr (inr less) ↦ absurd (none_a other u less b)
]
