use Rattle.std.proofs.Common.{◌≡◌, ◌∙◌, refl, sym, ap, subst, ℕ, ◌+◌, ◌-◌, ◌<◌, inl, inr, true, List, take, arith}
use Rattle.std.specs.Prelude.{None, Some}
use Rattle.std.proofs.lemmas.Bool.Decides.{eqb_tells}
use Rattle.m161_cpu.specs.declared.uses.Via.{Via}
use Rattle.m161_machine.specs.declared.event.Conflict.{Conflict as ConflictOf}
use Rattle.m161_machine.specs.declared.event.Event.{Event}
use Rattle.m161_machine.specs.declared.event.Event.TheVariants.{Step}
use Rattle.m161_machine.specs.State.{State, processor_at}
use Rattle.m161_machine.specs.StoreHistory.{StoreState, without_stores}
use Rattle.m161_audit.specs.declared.watch.Watch.{Watch}
use Rattle.m161_audit.specs.Stale.{IsStaleAt, UsesStale, after_events}
use Rattle.m161_judge.specs.declared.verdict.Judged.{Judged}
use Rattle.m161_judge.specs.declared.verdict.Verdict.{Verdict}
use Rattle.m161_judge.specs.declared.verdict.Verdict.TheVariants.{Stale, Reached, Conflict, Stuck, Output, End}
use Rattle.m161_judge.specs.Verdict.{Criteria, Holds, IsJudged, IsReachAt, IsStuckBadly, LeadsTo, rank}
use Rattle.m161_judge.specs.Laws.{IsOneVerdict}
use Rattle.m161_judge.proofs.Running.{leads_to_one, none_past_off, some_is_one}

-- A run has one verdict.

-- the least number of its kind
least_is_one : (P : ℕ → Type 0) (a b : ℕ) → P a → ((k : ℕ) → k < a → P k → ⊥) → P b → ((k : ℕ) → k < b → P k → ⊥) → a ≡ b
least_is_one P a b at before on below = elim (eqb_tells a b) as (λ _. a ≡ b) [
  | inl e ↦ e.1
  | inr e ↦ absurd (elim (eqb_tells (a + 1 + (b - (a + 1))) b) as (λ _. ⊥) [
    | inl less ↦ below a (omega (arith, less.1)) at
    | inr not ↦ before b (omega (arith, not.1, e.1)) on
  ])
]

step_is_one : (p q : ℕ) → ◌≡◌ {A = Event} (Step p) (Step q) → p ≡ q
step_is_one p q h = cc

-- a stale use is one use
uses_one : (s : StoreState) (watches : List Watch) (p : ℕ) (v w : Via) → UsesStale s watches p v → UsesStale s watches p w → v ≡ w
uses_one s watches p v w (inl a) (inl b) = some_is_one v w (sym a.0 ∙ b.0)
uses_one s watches p v w (inl a) (inr b) = absurd (b.0 v a.0 a.1)
uses_one s watches p v w (inr a) (inl b) = absurd (a.0 w b.0 b.1)
uses_one s watches p v w (inr a) (inr b) = some_is_one v w (sym a.1 ∙ b.1)

-- and one event
stale_at_one : (s : StoreState) (events : List Event) (watches : List Watch) (k p q : ℕ) (v w : Via) →
    IsStaleAt s events watches k p v → IsStaleAt s events watches k q w → (p ≡ q) × (v ≡ w)
stale_at_one s events watches k p q v w a b =
    let event : a.0 ≡ b.0 = some_is_one a.0 b.0 (sym a.1 ∙ b.1) in
    let same : p ≡ q = step_is_one p q (sym a.2.event_is ∙ event ∙ b.2.event_is) in
    let t = after_events s (take k events) in
    (same, uses_one t watches q v w (subst (λ x. UsesStale t watches x v) same a.2.uses) b.2.uses)

abbrev IsStaleIn : StoreState → List Event → List Watch → ℕ → Type 0
IsStaleIn s events watches k = (p : ℕ) × (v : Via) × IsStaleAt s events watches k p v

stale_verdict : (goal : Criteria) (s : State) (events : List Event) (k p a r j q b l n m : ℕ) →
    Holds goal s events (Stale k p a r) n → Holds goal s events (Stale j q b l) m →
    ◌≡◌ {A = Judged} (record { verdict = Stale k p a r; events = n }) (record { verdict = Stale j q b l; events = m })
stale_verdict goal s events k p a r j q b l n m h i =
    let f = h.0.1 in
    let g = i.0.1 in
    let start = without_stores s in
    let place : k ≡ j =
    least_is_one (IsStaleIn start events goal.watches) k j (p, f.0, f.3)
    (λ x less at. h.0.0 x less at.0 at.1 at.2) (q, g.0, g.3) (λ x less at. i.0.0 x less at.0 at.1 at.2) in
    let one = stale_at_one start events goal.watches j p q f.0 g.0 (subst (λ x. IsStaleAt start events goal.watches x p f.0) place f.3) g.3 in
    let address : a ≡ b = sym f.1 ∙ ap (λ (v : Via). v.address) one.1 ∙ g.1 in
    let row : r ≡ l = sym f.2 ∙ ap (λ (v : Via). v.row) one.1 ∙ g.2 in
    let all : n ≡ m = h.1 ∙ ap (λ x. x + 1) place ∙ sym i.1 in
    λ i. record { verdict = Stale (place i) (one.0 i) (address i) (row i); events = all i }

-- a reach is one Step
abbrev IsReachIn : List ℕ → State → List Event → ℕ → Type 0
IsReachIn never s events k = (p : ℕ) × (address : ℕ) × IsReachAt never s events k p address

reach_at_one : (never : List ℕ) (s : State) (events : List Event) (k p a q b : ℕ) → IsReachAt never s events k p a → IsReachAt never s events k q b → (p ≡ q) × (a ≡ b)
reach_at_one never s events k p a q b h i =
    let same : p ≡ q = step_is_one p q (some_is_one (Step p) (Step q) (sym h.event_is ∙ i.event_is)) in
    let state = leads_to_one s events k h.state i.state h.leads i.leads in
    (same, h.address_is ∙ (λ j. (processor_at (same j) (state j).processors).pc) ∙ sym i.address_is)

reached_verdict : (goal : Criteria) (s : State) (events : List Event) (k p a j q b n m : ℕ) →
    Holds goal s events (Reached k p a) n → Holds goal s events (Reached j q b) m →
    ◌≡◌ {A = Judged} (record { verdict = Reached k p a; events = n }) (record { verdict = Reached j q b; events = m })
reached_verdict goal s events k p a j q b n m h i =
    let place : k ≡ j =
    least_is_one (IsReachIn goal.never s events) k j (p, a, h.0)
    (λ x less at. h.2 x at.0 at.1 less at.2) (q, b, i.0) (λ x less at. i.2 x at.0 at.1 less at.2) in
    let one = reach_at_one goal.never s events j p a q b (subst (λ x. IsReachAt goal.never s events x p a) place h.0) i.0 in
    let all : n ≡ m = h.1 ∙ ap (λ x. x + 1) place ∙ sym i.1 in
    λ i. record { verdict = Reached (place i) (one.0 i) (one.1 i); events = all i }

off_once : (s : State) (events : List Event) (n m : ℕ) (t u : State) → LeadsTo s events n t → LeadsTo s events m u → t.board.off ≡ true → n < m → ⊥
off_once s events n m t u at on off less = none_past_off events n m s t u less (omega (arith, less, on.0)) off at.1 on.1

-- so it is off after one number of events
off_is_one : (s : State) (events : List Event) (n m : ℕ) (t u : State) → LeadsTo s events n t → LeadsTo s events m u → t.board.off ≡ true → u.board.off ≡ true → n ≡ m
off_is_one s events n m t u at on t_off u_off = elim (eqb_tells n m) as (λ _. n ≡ m) [
  | inl e ↦ e.1
  | inr e ↦ absurd (elim (eqb_tells (n + 1 + (m - (n + 1))) m) as (λ _. ⊥) [
    | inl less ↦ off_once s events n m t u at on t_off (omega (arith, less.1))
    | inr not ↦ off_once s events m n u t on at u_off (omega (arith, not.1, e.1))
  ])
]

output_is_one : (goal : Criteria) (s : State) (events : List Event) (n m : ℕ) → Holds goal s events Output n → Holds goal s events Output m → n ≡ m
output_is_one goal s events n m h k = off_is_one s events n m h.1.0 k.1.0 h.1.1 k.1.1 h.1.2 k.1.2

-- and one conflict
some_conflict : (a b : ConflictOf) → Some a ≡ Some b → a ≡ b
some_conflict a b h = cc

conflict_is_one : (goal : Criteria) (s : State) (events : List Event) (a b : ConflictOf) (n m : ℕ) → Holds goal s events (Conflict a) n → Holds goal s events (Conflict b) m →
    ◌≡◌ {A = Judged} (record { verdict = Conflict a; events = n }) (record { verdict = Conflict b; events = m })
conflict_is_one goal s events a b n m h k =
    let place : n ≡ m = off_is_one s events n m h.0 k.0 h.1 k.1 h.2 k.2 in
    let same : h.0 ≡ k.0 = leads_to_one s events m h.0 k.0 (subst (λ j. LeadsTo s events j h.0) place h.1) k.1 in
    let conflict : a ≡ b = some_conflict a b (sym h.3 ∙ ap (λ (t : State). t.conflict) same ∙ k.3) in
    λ i. record { verdict = Conflict (conflict i); events = place i }

with_events : (v : Verdict) (n m : ℕ) → n ≡ m → ◌≡◌ {A = Judged} (record { verdict = v; events = n }) (record { verdict = v; events = m })
with_events v n m h = λ i. record { verdict = v; events = h i }

-- verdicts of one rank
same_kind : (goal : Criteria) (s : State) (events : List Event) (v w : Verdict) (n m : ℕ) → rank v ≡ rank w → Holds goal s events v n → Holds goal s events w m →
    ◌≡◌ {A = Judged} (record { verdict = v; events = n }) (record { verdict = w; events = m })
same_kind goal s events (Stale k p a r) (Stale j q b l) n m e h i = stale_verdict goal s events k p a r j q b l n m h i
same_kind goal s events (Stale k p a r) (Reached j q b) n m e h i = absurd (omega (arith, e))
same_kind goal s events (Stale k p a r) (Conflict d) n m e h i = absurd (omega (arith, e))
same_kind goal s events (Stale k p a r) Stuck n m e h i = absurd (omega (arith, e))
same_kind goal s events (Stale k p a r) Output n m e h i = absurd (omega (arith, e))
same_kind goal s events (Stale k p a r) End n m e h i = absurd (omega (arith, e))
same_kind goal s events (Reached k p a) (Stale j q b l) n m e h i = absurd (omega (arith, e))
same_kind goal s events (Reached k p a) (Reached j q b) n m e h i = reached_verdict goal s events k p a j q b n m h i
same_kind goal s events (Reached k p a) (Conflict d) n m e h i = absurd (omega (arith, e))
same_kind goal s events (Reached k p a) Stuck n m e h i = absurd (omega (arith, e))
same_kind goal s events (Reached k p a) Output n m e h i = absurd (omega (arith, e))
same_kind goal s events (Reached k p a) End n m e h i = absurd (omega (arith, e))
same_kind goal s events (Conflict c) (Stale j q b l) n m e h i = absurd (omega (arith, e))
same_kind goal s events (Conflict c) (Reached j q b) n m e h i = absurd (omega (arith, e))
same_kind goal s events (Conflict c) (Conflict d) n m e h i = conflict_is_one goal s events c d n m h i
same_kind goal s events (Conflict c) Stuck n m e h i = absurd (omega (arith, e))
same_kind goal s events (Conflict c) Output n m e h i = absurd (omega (arith, e))
same_kind goal s events (Conflict c) End n m e h i = absurd (omega (arith, e))
same_kind goal s events Stuck (Stale j q b l) n m e h i = absurd (omega (arith, e))
same_kind goal s events Stuck (Reached j q b) n m e h i = absurd (omega (arith, e))
same_kind goal s events Stuck (Conflict d) n m e h i = absurd (omega (arith, e))
same_kind goal s events Stuck Stuck n m e h i = with_events Stuck n m (least_is_one (IsStuckBadly goal s events) n m h.0 h.1 i.0 i.1)
same_kind goal s events Stuck Output n m e h i = absurd (omega (arith, e))
same_kind goal s events Stuck End n m e h i = absurd (omega (arith, e))
same_kind goal s events Output (Stale j q b l) n m e h i = absurd (omega (arith, e))
same_kind goal s events Output (Reached j q b) n m e h i = absurd (omega (arith, e))
same_kind goal s events Output (Conflict d) n m e h i = absurd (omega (arith, e))
same_kind goal s events Output Stuck n m e h i = absurd (omega (arith, e))
same_kind goal s events Output Output n m e h i = with_events Output n m (output_is_one goal s events n m h i)
same_kind goal s events Output End n m e h i = absurd (omega (arith, e))
same_kind goal s events End (Stale j q b l) n m e h i = absurd (omega (arith, e))
same_kind goal s events End (Reached j q b) n m e h i = absurd (omega (arith, e))
same_kind goal s events End (Conflict d) n m e h i = absurd (omega (arith, e))
same_kind goal s events End Stuck n m e h i = absurd (omega (arith, e))
same_kind goal s events End Output n m e h i = absurd (omega (arith, e))
same_kind goal s events End End n m e h i = with_events End n m (h.1 ∙ sym i.1)

same_rank : (goal : Criteria) (s : State) (events : List Event) (a b : Judged) → IsJudged goal s events (Some a) → IsJudged goal s events (Some b) →
    rank a.verdict ≡ rank b.verdict
same_rank goal s events a b h k =
    let x = rank a.verdict in
    let y = rank b.verdict in
    elim (eqb_tells x y) as (λ _. rank a.verdict ≡ rank b.verdict) [
      | inl e ↦ e.1
      | inr e ↦ absurd (elim (eqb_tells (x + 1 + (y - (x + 1))) y) as (λ _. ⊥) [
        | inl less ↦ k.2 a.verdict a.events (omega (arith, less.1)) h.1
        | inr not ↦ h.2 b.verdict b.events (omega (arith, not.1, e.1)) k.1
      ])
    ]

-- none, and one
not_both : (goal : Criteria) (s : State) (events : List Event) (a : Judged) → IsJudged goal s events (Some a) → IsJudged goal s events None → ⊥
not_both goal s events a h (inl refused) = h.0 refused
not_both goal s events a h (inr none) = none a.verdict a.events h.1

pub one_verdict : (goal : Criteria) (s : State) (events : List Event) → IsOneVerdict goal s events
one_verdict goal s events None None h k = refl
one_verdict goal s events None (Some b) h k = absurd (not_both goal s events b k h)
one_verdict goal s events (Some a) None h k = absurd (not_both goal s events a h k)
one_verdict goal s events (Some a) (Some b) h k =
    ap Some (same_kind goal s events a.verdict b.verdict a.events b.events (same_rank goal s events a b h k) h.1 k.1)
