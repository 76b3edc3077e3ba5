use Rattle.std.proofs.Common.{◌≡◌, ◌∙◌, refl, ap, sym, subst, List, [], ◌∷◌, ◌++◌, Result, Ok}
use Rattle.m161_cpu.specs.declared.processor.Outcome.{Outcome}
use Rattle.m161_machine.specs.declared.event.Entry.{Entry}
use Rattle.m161_machine.specs.declared.event.Refusal.{Refusal}
use Rattle.m161_machine.specs.State.{State, next}
use Rattle.m161_machine.specs.History.{Leads}

-- Runs that follow one another.

pub leads_on : (es fs : List Entry) (s u t : State) → Leads s es u → Leads u fs t → Leads s (es ++ fs) t
leads_on [] fs s u t h k = subst (λ v. Leads v fs t) h k
leads_on (e ∷ es) fs s u t h k = (h.0, h.1, leads_on es fs h.0 u t h.2 k)

-- one event more at the end
pub leads_more : (es : List Entry) (e : Entry) (s u t : State) → Leads s es u → next u e.event ≡ Ok (e.outcome, t) → Leads s (es ++ e ∷ []) t
leads_more es e s u t h n = leads_on es (e ∷ []) s u t h (t, n, refl)

-- an event leads to one state
one_state : (x : Result (Outcome × State) Refusal) (o : Outcome) (u v : State) → x ≡ Ok (o, u) → x ≡ Ok (o, v) → u ≡ v
one_state x o u v h k =
    let both : ◌≡◌ {A = Result (Outcome × State) Refusal} (Ok (o, u)) (Ok (o, v)) = sym h ∙ k in
    let pair : ◌≡◌ {A = Outcome × State} (o, u) (o, v) = cc in ap (λ (p : Outcome × State). p.1) pair

-- the rest of a run, from the state that its beginning leads to
pub leads_rest : (es fs : List Entry) (s u t : State) → Leads s es u → Leads s (es ++ fs) t → Leads u fs t
leads_rest [] fs s u t h k = subst (λ v. Leads v fs t) (sym h) k
leads_rest (e ∷ es) fs s u t h k =
    let same : h.0 ≡ k.0 = one_state (next s e.event) e.outcome h.0 k.0 h.1 k.1 in
    leads_rest es fs h.0 u t h.2 (subst (λ v. Leads v (es ++ fs) t) (sym same) k.2)

-- a run ends in one state
pub leads_to_one : (es : List Entry) (s t u : State) → Leads s es t → Leads s es u → t ≡ u
leads_to_one [] s t u h k = h ∙ sym k
leads_to_one (e ∷ es) s t u h k =
    let same : h.0 ≡ k.0 = one_state (next s e.event) e.outcome h.0 k.0 h.1 k.1 in
    leads_to_one es h.0 t u h.2 (subst (λ v. Leads v es u) (sym same) k.2)

-- a run, and where its beginning leads
pub leads_split : (es fs : List Entry) (s t : State) → Leads s (es ++ fs) t → (u : State) × Leads s es u × Leads u fs t
leads_split [] fs s t h = (s, refl, h)
leads_split (e ∷ es) fs s t h = let r = leads_split es fs h.0 t h.2 in (r.0, (h.0, h.1, r.1), r.2)
