use Rattle.std.proofs.Common.{◌≡◌, ◌∙◌, refl, ap, sym, subst, ℕ, ◌+◌, ◌<◌, ◌≤◌, arith, Bool, true, false, List, [], ◌∷◌, ◌++◌, drop, get_or, length, take, Option, None, Some, ◌⊎◌, inl, inr}
use Rattle.std.specs.Prelude.{MatchBool}
use Rattle.std.proofs.Math.Nat.{min-le_left, min-le_right}
use Rattle.std.proofs.lemmas.List.{drop_more, length-take, take-append-drop, take-take, take_all, take_more}
use Rattle.m161_cpu.specs.declared.processor.Outcome.{Outcome}
use Rattle.m161_judge.specs.Verdict.{Criteria}
use Rattle.m161_machine.specs.declared.event.Event.{Event}
use Rattle.m161_explore.specs.Lists.{Leads}
use Rattle.m161_states.specs.Question.{Question}
use Rattle.m161_states.specs.System.{Explored, accepted, behind, event_of, next, next_by, start}
use Rattle.m161_states.specs.Verdicts.{is_end}
use Rattle.m161_reach.specs.From.{IsFreeFrom, IsHungFrom}
use Rattle.m161_reach.specs.Hangs.{EndsEarly, GoesAlong, IsFreeAt, IsHungAt, IsOverAt, is_over}
use Rattle.m161_reach.specs.helpers.MetFrom.{behind_met, start_met, unmade_met}
use Rattle.m161_reach.specs.Reach.{IsMet, rules_of}
use Rattle.m161_reach.specs.helpers.Advance.{TakesNext, unmade}
use Rattle.m161_reach.specs.helpers.Onward.{behind_all, origin_of}
use Rattle.m161_reach.specs.declared.walk.Walk.{Walk}
use Rattle.m161_reach.specs.helpers.Walk.{Goes, GoesOnBelow, LeadsTo, Walks}
use Rattle.m161_reach.proofs.Behind.{behind_unmade, free_behind, free_before, hung_behind, leads_append, leads_behind, leads_one, leads_split, next_same, over_same, unmade_behind}

-- Walks along lists of events.

-- an event that was taken

took_by : (goal : Criteria) (x t : Explored) (e : Option Event) (o : Outcome) → TakesNext goal x e t (Some o) →
    (u : Explored) × (next_by goal x e ≡ Some u) × (t ≡ unmade u)
took_by goal x t None o h = absurd (let bad : ◌≡◌ {A = Option Outcome} (Some o) None = h.0 in cc)
took_by goal x t (Some e) o h = (behind goal x e h.0, ap (accepted goal x e) h.1, h.2)

pub took : (q : Question) (x : Explored) (n : ℕ) (t : Explored) (o : Outcome) → TakesNext q.goal x (event_of q x n) t (Some o) →
    (u : Explored) × (next q x n ≡ Some u) × (t ≡ unmade u)
took q x n t o h = took_by q.goal x t (event_of q x n) o h

refused_by : (goal : Criteria) (x t : Explored) (e : Option Event) → TakesNext goal x e t None → next_by goal x e ≡ None
refused_by goal x t None h = refl
refused_by goal x t (Some e) h = ap (accepted goal x e) h.1

pub refused : (q : Question) (x : Explored) (n : ℕ) (t : Explored) → TakesNext q.goal x (event_of q x n) t None → next q x n ≡ None
refused q x n t h = refused_by q.goal x t (event_of q x n) h

same_by : (goal : Criteria) (x t : Explored) (e : Option Event) → TakesNext goal x e t None → t ≡ x
same_by goal x t None h = h.1
same_by goal x t (Some e) h = h.2

pub stays : (q : Question) (x : Explored) (n : ℕ) (t : Explored) → TakesNext q.goal x (event_of q x n) t None → t ≡ x
stays q x n t h = same_by q.goal x t (event_of q x n) h

-- the state to which a list leads

pub leads_origin : (q : Question) (es : List ℕ) (t : Explored) → LeadsTo q es t → t ≡ origin_of q es
leads_origin q es t h = h.2 ∙ ap unmade (leads_behind q (start q) h.0 es h.1)

pub leads_met : (q : Question) (es : List ℕ) (t : Explored) → LeadsTo q es t → IsMet q t
leads_met q es t h =
    subst (IsMet q) (sym (leads_origin q es t h)) (unmade_met q (behind_all q (start q) es) (behind_met q (start q) es (start_met q)))

pub leads_none : (q : Question) (t : Explored) → t ≡ start q → LeadsTo q [] t
leads_none q t h = (start q, refl, h)

-- one event more

pub leads_more : (q : Question) (es : List ℕ) (i e : ℕ) (t new : Explored) → i < length es → get_or es i 0 ≡ e → LeadsTo q (take i es) t → Goes q t e new true →
    LeadsTo q (take (i + 1) es) new
unfolding rules_of
leads_more q es i e t new inside at h goes =
    let x = h.0 in
    let step : next q x e ≡ Some goes.0 = sym (next_same q x e) ∙ ap (λ y. next q y e) (sym h.2) ∙ goes.2 in
    let more : take (i + 1) es ≡ take i es ++ e ∷ [] = take_more es i 0 inside ∙ ap (λ n. take i es ++ n ∷ []) at in (
      goes.0,
      subst (λ l. Leads (rules_of q) (start q) l goes.0) (sym more)
          (leads_append q (start q) x goes.0 (take i es) (e ∷ []) h.1 (goes.0, goes.1, step, refl)),
      goes.3,
    )

-- a list that goes on with an event that isn't accepted

split_at : (es : List ℕ) (i : ℕ) → i < length es → es ≡ take i es ++ (get_or es i 0 ∷ drop (i + 1) es)
split_at es i inside = sym (take-append-drop i es) ∙ ap (λ l. take i es ++ l) (drop_more es i 0 inside)

pub leads_not : (q : Question) (es : List ℕ) (i e : ℕ) (t new : Explored) → i < length es → get_or es i 0 ≡ e → LeadsTo q (take i es) t → Goes q t e new false →
    (x : Explored) → Leads (rules_of q) (start q) es x → ⊥
unfolding rules_of
leads_not q es i e t new inside at h goes x leads =
    let whole : es ≡ take i es ++ (e ∷ drop (i + 1) es) = split_at es i inside ∙ ap (λ n. take i es ++ (n ∷ drop (i + 1) es)) at in
    let parts = leads_split q (start q) x (take i es) (e ∷ drop (i + 1) es) (subst (λ l. Leads (rules_of q) (start q) l x) whole leads) in
    let same : parts.0 ≡ h.0 = leads_one q (start q) parts.0 h.0 (take i es) parts.1 h.1 in
    let step : next q h.0 e ≡ Some parts.2.0 = ap (λ y. next q y e) (sym same) ∙ parts.2.2 in
    let none : next q h.0 e ≡ None = sym (next_same q h.0 e) ∙ ap (λ y. next q y e) (sym h.2) ∙ goes parts.2.1 in
    let bad : ◌≡◌ {A = Option Explored} None (Some parts.2.0) = sym none ∙ step in absurd (cc)

-- the machine is over, or goes on

over_at : (q : Question) (x t : Explored) (b : Bool) → t ≡ unmade x → is_over q t ≡ b → is_over q x ≡ b
over_at q x t b is h = sym (over_same q x) ∙ ap (is_over q) (sym is) ∙ h

pub over_so : (q : Question) (es : List ℕ) (i : ℕ) (t : Explored) → i ≤ length es → LeadsTo q (take i es) t → is_over q t ≡ true → (n : ℕ) × IsOverAt q es n
over_so q es i t inside h over = (i, (inside, (h.0, h.1, over_at q h.0 t true h.2 over)))

not_over : (q : Question) (es : List ℕ) (i : ℕ) (t : Explored) → LeadsTo q (take i es) t → is_over q t ≡ false → IsOverAt q es i → ⊥
not_over q es i t h on at =
    let same : at.1.0 ≡ h.0 = leads_one q (start q) at.1.0 h.0 (take i es) at.1.1 h.1 in
    let bad : true ≡ false = sym at.1.2 ∙ ap (is_over q) same ∙ over_at q h.0 t false h.2 on in absurd (cc)

below_or_at : (n i : ℕ) → n < i + 1 → (n < i) ⊎ (n ≡ i)
below_or_at n i h = grind (arith, h)

pub goes_more : (q : Question) (es : List ℕ) (i : ℕ) (t : Explored) → GoesOnBelow q es i → LeadsTo q (take i es) t → is_over q t ≡ false → GoesOnBelow q es (i + 1)
goes_more q es i t before h on = λ n below at.
    elim (below_or_at n i below) [
      | inl less ↦ before n less at
      | inr same ↦ not_over q es i t h on (subst (IsOverAt q es) same at)
    ]

pub goes_none : (q : Question) (es : List ℕ) → GoesOnBelow q es 0
goes_none q es = λ n below at. absurd (let bad : ⊥ = omega (arith, below) in bad)

-- all of a list
pub leads_all : (q : Question) (es : List ℕ) (t : Explored) → LeadsTo q (take (length es) es) t → LeadsTo q es t
leads_all q es t h = subst (λ l. LeadsTo q l t) (take_all (length es) es (omega arith)) h

-- whether it hangs

hung_here : (q : Question) (limit : ℕ) (es : List ℕ) (x t : Explored) → Leads (rules_of q) (start q) es x → t ≡ unmade x → IsHungFrom q limit t → IsHungAt q limit es
hung_here q limit es x t leads is h =
    (x, leads, hung_behind q limit (unmade x) x (behind_unmade q x) (unmade_behind q x) (subst (IsHungFrom q limit) is h))

free_here : (q : Question) (limit : ℕ) (es : List ℕ) (x t : Explored) → Leads (rules_of q) (start q) es x → t ≡ unmade x → IsFreeFrom q limit t → IsFreeAt q limit es
free_here q limit es x t leads is h = (x, leads, free_behind q limit (unmade x) x (behind_unmade q x) (subst (IsFreeFrom q limit) is h))

pub hangs_here : (q : Question) (limit : ℕ) (es : List ℕ) (t : Explored) (b : Bool) → LeadsTo q es t → MatchBool b (IsHungFrom q limit t) (IsFreeFrom q limit t) →
    MatchBool b (IsHungAt q limit es) (IsFreeAt q limit es)
hangs_here q limit es t true h is = hung_here q limit es h.0 t h.1 h.2 is
hangs_here q limit es t false h is = free_here q limit es h.0 t h.1 h.2 is

-- of a list that doesn't hang no first part hangs

pub free_less : (q : Question) (limit : ℕ) (es : List ℕ) (k m : ℕ) → k ≤ m → IsFreeAt q limit (take m es) → IsFreeAt q limit (take k es)
free_less q limit es k m h free =
    let parts : take m es ≡ take k es ++ drop k (take m es) =
    sym (take-append-drop k (take m es)) ∙ ap (λ l. l ++ drop k (take m es)) (take-take k m es h) in
    free_before q limit (take k es) (drop k (take m es)) (subst (IsFreeAt q limit) parts free)

-- what a walk came to, of what was asked
pub walks_at : (q m : Question) (es : List ℕ) (t : Explored) (walk came : Walk) → m ≡ q → walk ≡ came → Walks m es t walk → Walks q es t came
walks_at q m es t walk came same is h = subst (λ r. Walks r es t came) same (subst (Walks m es t) is h)

-- the machine is over nowhere

pub goes_along : (q : Question) (es : List ℕ) (t : Explored) → LeadsTo q es t → GoesOnBelow q es (length es + 1) → GoesAlong q es
goes_along q es t leads goes = record {
  accepted = (leads.0, leads.1);
  goes_on = λ k at. goes k (let inside = at.0 in omega (arith, inside)) at;
}

-- nor along the first events
pub goes_less : (q : Question) (es : List ℕ) (m : ℕ) → GoesAlong q es → GoesAlong q (take m es)
goes_less q es m h =
    let whole = subst (λ l. Leads (rules_of q) (start q) l h.accepted.0) (sym (take-append-drop m es)) h.accepted.1 in
    let parts = leads_split q (start q) h.accepted.0 (take m es) (drop m es) whole in
    record {
      accepted = (parts.0, parts.1);
      goes_on = λ k at.
          let inside : k ≤ length (take m es) = at.0 in
          let long = length-take m es in
          let few = min-le_left m (length es) in
          let some = min-le_right m (length es) in
          let first : take k (take m es) ≡ take k es = take-take k m es (omega (arith, inside, long, few)) in
          h.goes_on k (omega (arith, inside, long, some), (at.1.0, subst (λ l. Leads (rules_of q) (start q) l at.1.0) first at.1.1, at.1.2));
    }

pub ends_not : (q : Question) (es : List ℕ) → GoesAlong q es → EndsEarly q es → ⊥
ends_not q es h (inl none) = none h.accepted.0 h.accepted.1
ends_not q es h (inr over) = h.goes_on over.0 over.1

-- what goes on with a list that hangs is at no end
pub hung_never_ends : (q : Question) (limit : ℕ) (es more : List ℕ) (y : Explored) → IsHungAt q limit es →
    Leads (rules_of q) (start q) (es ++ more) y → is_end q y ≡ true → ⊥
unfolding rules_of
hung_never_ends q limit es more y h leads end =
    let parts = leads_split q (start q) y es more leads in
    let same : parts.0 ≡ h.0 = leads_one q (start q) parts.0 h.0 es parts.1 h.1 in
    h.2.no_end (more, y, subst (λ x. Leads (rules_of q) x more y) same parts.2, end)
