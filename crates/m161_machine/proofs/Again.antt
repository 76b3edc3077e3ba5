use Rattle.std.proofs.Common.{◌≡◌, ◌∙◌, refl, ap, sym, subst, ℕ, zero, suc, ◌+◌, ◌<◌, ◌≤◌, ◌⊎◌, inl, inr, true, false, List, [], ◌∷◌, length, take, drop, replicate, take_all, Result, Ok, Err, arith}
use Rattle.std.specs.Prelude.{◌≢◌}
use Rattle.std.proofs.lemmas.List.{length-take-le}
use Rattle.m161_cpu.specs.declared.processor.Outcome.{Outcome}
use Rattle.m161_machine.specs.declared.event.Entry.{Entry}
use Rattle.m161_machine.specs.declared.event.Event.{Event}
use Rattle.m161_machine.specs.declared.event.Event.TheVariants.{Step, Done}
use Rattle.m161_machine.specs.declared.event.Refusal.{Refusal}
use Rattle.m161_machine.specs.declared.event.Refusal.TheVariants.{NoMemory}
use Rattle.m161_machine.specs.State.{State, next}
use Rattle.m161_machine.specs.History.{Leads, Makes, Refuses, events_of}
use Rattle.m161_machine.specs.Stretch.{Advances}
use Rattle.m161_machine.specs.helpers.Window.{BeginsWithStep}
use Rattle.m161_machine.proofs.Accepting.{open_step}
use Rattle.m161_machine.proofs.Made.{counted, fits}

-- Events that are made again.

-- an accepted event gives one outcome and one state
pub one_answer : (x : Result (Outcome × State) Refusal) (o q : Outcome) (u v : State) → x ≡ Ok (o, u) → x ≡ Ok (q, v) → (o ≡ q) × (u ≡ v)
one_answer x o q u v h k =
    let both : ◌≡◌ {A = Result (Outcome × State) Refusal} (Ok (o, u)) (Ok (q, v)) = sym h ∙ k in
    let pair : ◌≡◌ {A = Outcome × State} (o, u) (q, v) = cc in
    (ap (λ (p : Outcome × State). p.0) pair, ap (λ (p : Outcome × State). p.1) pair)

-- an input that is accepted, made again
pub input_again : (s u v : State) (e : Event) (o : Outcome) (result : Result Outcome Refusal) → Makes s e result u → next s e ≡ Ok (o, v) →
    (e ≡ Done → result ≢ Err NoMemory) → next s e ≡ Ok (o, u)
input_again s u v e o (Ok q) made h other =
    let same = one_answer (next s e) o q v u h made in
    made ∙ ap (λ x. Ok (x, u)) (sym same.0)
input_again s u v e o (Err refusal) made h other =
    let given : Refuses (Ok (o, v)) e refusal = subst (λ x. Refuses x e refusal) h made.0 in
    absurd (other given.1 (ap Err given.0))

-- the first entry of a run, and its Step
pub first_step : (p : ℕ) (s t : State) (es : List Entry) → BeginsWithStep p es → Leads s es t →
    (p < length s.processors) × (s.board.off ≡ false) × (s.made + length es ≤ 9223372036854775807)
first_step p s t [] begins h = absurd begins
first_step p s t (e ∷ es) begins h =
    let gives : next s (Step p) ≡ Ok (e.outcome, h.0) = subst (λ x. next s x ≡ Ok (e.outcome, h.0)) begins h.1 in
    let opened = open_step s p e.outcome h.0 gives in
    let few = opened.few in
    let count = counted (e ∷ es) s t h in
    let most = fits (e ∷ es) s t (omega (arith, few)) h in
    (opened.place, opened.on, omega (arith, count, most))

-- two runs of the same events have the same entries and end in the same state
same_run : (fs es : List Entry) (s u t : State) → Leads s fs u → Leads s es t → length fs ≤ length es →
    events_of fs ≡ events_of (take (length fs) es) → (fs ≡ take (length fs) es) × Leads u (drop (length fs) es) t
same_run [] es s u t h k long events = (refl, subst (λ v. Leads v es t) (sym h) k)
same_run (f ∷ fs) [] s u t h k long events = absurd (let bad : ⊥ = omega (arith, long) in bad)
same_run (f ∷ fs) (e ∷ es) s u t h k long events =
    let pair : ◌≡◌ {A = List Event} (f.event ∷ events_of fs) (e.event ∷ events_of (take (length fs) es)) = events in
    let event_is : f.event ≡ e.event = cc in
    let rest_is : events_of fs ≡ events_of (take (length fs) es) = cc in
    let gives : next s f.event ≡ Ok (e.outcome, k.0) = ap (next s) event_is ∙ k.1 in
    let same = one_answer (next s f.event) f.outcome e.outcome h.0 k.0 h.1 gives in
    let entry_is : f ≡ e = λ i. record { event = event_is i; outcome = same.0 i } in
    let rest = same_run fs es h.0 u t h.2 (subst (λ v. Leads v es t) (sym same.1) k.2) (omega (arith, long)) rest_is in
    (λ i. entry_is i ∷ rest.0 i, rest.1)

-- the events of the first entries
take_events : (n m : ℕ) (es : List Entry) (p : ℕ) → n ≤ m → events_of (take m es) ≡ replicate m (Step p) → events_of (take n es) ≡ replicate n (Step p)
take_events zero m es p less h = refl
take_events (suc n) zero es p less h = absurd (let bad : ⊥ = omega (arith, less) in bad)
take_events (suc n) (suc m) [] p less h = absurd (let bad : ◌≡◌ {A = List Event} [] (Step p ∷ replicate m (Step p)) = h in cc)
take_events (suc n) (suc m) (e ∷ es) p less h =
    let pair : ◌≡◌ {A = List Event} (e.event ∷ events_of (take m es)) (Step p ∷ replicate m (Step p)) = h in
    let event_is : e.event ≡ Step p = cc in
    let rest_is : events_of (take m es) ≡ replicate m (Step p) = cc in
    let rest = take_events n m es p (omega (arith, less)) rest_is in
    λ i. event_is i ∷ rest i

-- the entry after the first ones of several Steps is a Step
next_step : (n m : ℕ) (es : List Entry) (p : ℕ) (u t : State) → n < m → events_of (take m es) ≡ replicate m (Step p) → Leads u (drop n es) t → u.board.off ≡ false
next_step n zero es p u t less h k = absurd (let bad : ⊥ = omega (arith, less) in bad)
next_step n (suc m) [] p u t less h k = absurd (let bad : ◌≡◌ {A = List Event} [] (Step p ∷ replicate m (Step p)) = h in cc)
next_step zero (suc m) (e ∷ es) p u t less h k =
    let pair : ◌≡◌ {A = List Event} (e.event ∷ events_of (take m es)) (Step p ∷ replicate m (Step p)) = h in
    let event_is : e.event ≡ Step p = cc in
    (first_step p u t (e ∷ es) event_is k).1
next_step (suc n) (suc m) (e ∷ es) p u t less h k =
    let pair : ◌≡◌ {A = List Event} (e.event ∷ events_of (take m es)) (Step p ∷ replicate m (Step p)) = h in
    let rest_is : events_of (take m es) ≡ replicate m (Step p) = cc in
    next_step n m es p u t (omega (arith, less)) rest_is k

-- Steps that were made again: all of them, with the same entries
pub steps_again : (p n made : ℕ) (s u t : State) (es kept : List Entry) → Leads s es t → n ≤ length es → events_of (take n es) ≡ replicate n (Step p) →
    Advances p s (take made kept) u → length kept ≡ n → made ≤ n → (made ≡ n ⊎ (made < n) × (u.board.off ≡ true)) →
    (kept ≡ take n es) × Leads s (take n es) u
steps_again p n made s u t es kept h within events a long less (inl all) =
    let whole : take made kept ≡ kept = take_all made kept (omega (arith, all, long)) in
    let b : Advances p s kept u = subst (λ xs. Advances p s xs u) whole a in
    let same = same_run kept es s u t b.0 h (omega (arith, within, long))
    (b.1 ∙ ap (λ k. replicate k (Step p)) long ∙ sym events ∙ ap (λ k. events_of (take k es)) (sym long)) in
    let kept_is : kept ≡ take n es = same.0 ∙ ap (λ k. take k es) long in
    (kept_is, subst (λ xs. Leads s xs u) kept_is b.0)
steps_again p n made s u t es kept h within events a long less (inr fewer) =
    let number : length (take made kept) ≡ made = length-take-le made kept (omega (arith, less, long)) in
    let first = take_events made n es p less events in
    let same = same_run (take made kept) es s u t a.0 h (omega (arith, within, number, less))
    (a.1 ∙ ap (λ k. replicate k (Step p)) number ∙ sym first ∙ ap (λ k. events_of (take k es)) (sym number)) in
    let rest : Leads u (drop made es) t = subst (λ k. Leads u (drop k es) t) number same.1 in
    let on = next_step made n es p u t fewer.0 events rest in
    absurd (let bad : true ≡ false = sym fewer.1 ∙ on in cc)
