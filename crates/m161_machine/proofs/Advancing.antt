use Rattle.std.proofs.Common.{◌≡◌, ◌∙◌, refl, ap, sym, subst, ℕ, zero, suc, ◌+◌, ◌<◌, ◌≤◌, false, List, [], ◌∷◌, length, replicate, get_or, take, Ok, arith}
use Rattle.std.proofs.lemmas.List.{length-replicate, length-take-le, take-replicate}
use Rattle.m161_cpu.specs.declared.processor.Outcome.{Outcome}
use Rattle.m161_cpu.specs.declared.processor.Outcome.TheVariants.{Ran}
use Rattle.m161_machine.specs.declared.event.Entry.{Entry}
use Rattle.m161_machine.specs.declared.event.Event.{Event}
use Rattle.m161_machine.specs.declared.event.Event.TheVariants.{Step}
use Rattle.m161_machine.specs.State.{KeepsSizes, State, next, step_result, with_step}
use Rattle.m161_machine.specs.Uses.{MakesStep}
use Rattle.m161_machine.specs.History.{Leads, entry, events_of}
use Rattle.m161_machine.specs.Stretch.{Advances, planned}
use Rattle.m161_machine.proofs.Accepting.{step_made}

-- Several Steps of one processor.

events_replicate : (n : ℕ) (e : Entry) → events_of (replicate n e) ≡ replicate n e.event
events_replicate zero e = refl
events_replicate (suc n) e = ap (λ (es : List Event). e.event ∷ es) (events_replicate n e)

-- those that were planned
pub advances_planned : (p : ℕ) (s t : State) (places plan kept : List Entry) (made : ℕ) → plan ≡ replicate (length places) (planned p) →
    made ≤ length plan → length kept ≡ length plan → Leads s (take made kept) t → events_of (take made kept) ≡ events_of (take made plan) →
    Advances p s (take made kept) t
advances_planned p s t places plan kept made is within long leads events =
    let plan_long : length plan ≡ length places = ap length is ∙ length-replicate (length places) (planned p) in
    let number : length (take made kept) ≡ made = length-take-le made kept (omega (arith, within, long)) in (
      leads,
      events
          ∙ ap (λ (es : List Entry). events_of (take made es)) is
          ∙ ap events_of (take-replicate made (length places) (planned p) (omega (arith, within, plan_long)))
          ∙ events_replicate made (planned p)
          ∙ ap (λ n. replicate n (Step p)) (sym number),
    )

-- a Step that isn't refused
pub step_gives : (p most made : ℕ) (s t u : State) (o : Outcome) →
    KeepsSizes s t → p < length s.processors → t.board.off ≡ false → t.made ≡ s.made + made → s.made + most ≤ 9223372036854775807 →
    made < most → o ≡ (step_result p t).outcome → u ≡ with_step p (step_result p t) t → next t (Step p) ≡ Ok (o, u)
step_gives p most made s t u o sizes place on made_is room inside o_is u_is =
    step_made t p o u (omega (arith, place, sizes.1)) on (omega (arith, made_is, room, inside)) o_is u_is

-- one Step, and the entry that is read back
pub one_made : (p : ℕ) (s t : State) (kept : List Entry) (made : ℕ) (x d : Entry) → made ≡ 1 → length kept ≡ 1 → Advances p s (take made kept) t →
    x ≡ get_or kept 0 d → next s (Step p) ≡ Ok (x.outcome, t)
one_made p s t [] made x d one long h is = absurd (let bad : ⊥ = omega (arith, long) in bad)
one_made p s t (k ∷ rest) made x d one long h is =
    let first : Advances p s (k ∷ []) t = subst (λ n. Advances p s (take n (k ∷ rest)) t) one h in
    let events_are : ◌≡◌ {A = List Event} (k.event ∷ []) (Step p ∷ []) = first.1 in
    let event_is : k.event ≡ Step p = cc in
    ap (next s) (sym event_is) ∙ first.0.1 ∙ (λ i. Ok ((sym is i).outcome, sym first.0.2 i))

-- and that entry is of this Step
pub one_entry : (p : ℕ) (s t : State) (kept : List Entry) (made : ℕ) (x d : Entry) → made ≡ 1 → length kept ≡ 1 → Advances p s (take made kept) t →
    x ≡ get_or kept 0 d → x.event ≡ Step p
one_entry p s t [] made x d one long h is = absurd (let bad : ⊥ = omega (arith, long) in bad)
one_entry p s t (k ∷ rest) made x d one long h is =
    let first : Advances p s (k ∷ []) t = subst (λ n. Advances p s (take n (k ∷ rest)) t) one h in
    let events_are : ◌≡◌ {A = List Event} (k.event ∷ []) (Step p ∷ []) = first.1 in
    let event_is : k.event ≡ Step p = cc in
    ap (λ (e : Entry). e.event) is ∙ event_is

pub step_is_made : (p : ℕ) (s t : State) (kept : List Entry) (made : ℕ) → made ≡ 1 → length kept ≡ 1 → Advances p s (take made kept) t → MakesStep s p t
step_is_made p s t kept made one long h =
    let blank = entry (Step p) Ran in
    ((get_or kept 0 blank).outcome, one_made p s t kept made (get_or kept 0 blank) blank one long h refl)
