use Rattle.std.proofs.Common.{◌≡◌, ◌∙◌, sym, subst, ℕ, ◌<◌, ◌≤◌, true, List, length, take, arith}
use Rattle.std.specs.Prelude.{Some}
use Rattle.std.proofs.lemmas.List.{length-take-le, take-take}
use Rattle.std.proofs.lemmas.Option.{slice_get_within}
use Rattle.circular_buffer.proofs.Places.{slice_get-take}
use Rattle.m161_cpu.specs.declared.uses.Via.{Via}
use Rattle.m161_machine.specs.declared.event.Event.{Event}
use Rattle.m161_machine.specs.declared.event.Event.TheVariants.{Step}
use Rattle.m161_machine.specs.State.{State}
use Rattle.m161_machine.specs.StoreHistory.{StoreState, without_stores}
use Rattle.m161_audit.specs.declared.watch.Watch.{Watch}
use Rattle.m161_audit.specs.Stale.{IsStale, IsStaleAt, after_events}
use Rattle.m161_judge.specs.declared.verdict.Judged.{Judged}
use Rattle.m161_judge.specs.declared.verdict.Verdict.{Verdict}
use Rattle.m161_judge.specs.declared.verdict.Verdict.TheVariants.{Stale, Reached, Conflict, Stuck, Output, End}
use Rattle.m161_judge.specs.Laws.{CutKeepsVerdict, FirstIsNoWorse}
use Rattle.m161_judge.specs.Verdict.{Criteria, Holds, IsReachAt, IsRefused, IsStuckAfter, IsStuckBadly, LeadsTo, after, has_keys, is_stuck, rank}

-- A list that is cut behind its verdict.

-- the events up to a place are the same

cut_length : (events : List Event) (n : ℕ) → n ≤ length events → length (take n events) ≡ n
cut_length events n few = length-take-le n events few

leads_up : (s : State) (events : List Event) (n k : ℕ) (t : State) → n ≤ length events → LeadsTo s (take n events) k t → (k ≤ n) × LeadsTo s events k t
leads_up s events n k t few h =
    let less : k ≤ n = let all = cut_length events n few in omega (arith, all, h.0) in
    (less, (omega (arith, less, few), subst (λ es. after s es ≡ Some t) (take-take k n events less) h.1))

leads_down : (s : State) (events : List Event) (n k : ℕ) (t : State) → n ≤ length events → k ≤ n → LeadsTo s events k t → LeadsTo s (take n events) k t
leads_down s events n k t few less h =
    let all = cut_length events n few in
    (omega (arith, less, all), subst (λ es. after s es ≡ Some t) (sym (take-take k n events less)) h.1)

pub stuck_up : (goal : Criteria) (s : State) (events : List Event) (n k : ℕ) (t : State) → n ≤ length events → IsStuckAfter goal s (take n events) k t →
    (k ≤ n) × IsStuckAfter goal s events k t
stuck_up goal s events n k t few h =
    let at = leads_up s events n k t few h.0 in
    (at.0, (at.1, subst (λ es. is_stuck (has_keys goal.keys es) t ≡ true) (take-take k n events at.0) h.1))

pub stuck_down : (goal : Criteria) (s : State) (events : List Event) (n k : ℕ) (t : State) → n ≤ length events → k ≤ n → IsStuckAfter goal s events k t →
    IsStuckAfter goal s (take n events) k t
stuck_down goal s events n k t few less h =
    (leads_down s events n k t few less h.0, subst (λ es. is_stuck (has_keys goal.keys es) t ≡ true) (sym (take-take k n events less)) h.1)

pub badly_up : (goal : Criteria) (s : State) (events : List Event) (n k : ℕ) → n ≤ length events → IsStuckBadly goal s (take n events) k →
    (k ≤ n) × IsStuckBadly goal s events k
badly_up goal s events n k few h =
    let at = stuck_up goal s events n k h.0 few h.1 in
    (at.0, (h.0, at.1, h.2))

pub badly_down : (goal : Criteria) (s : State) (events : List Event) (n k : ℕ) → n ≤ length events → k ≤ n → IsStuckBadly goal s events k →
    IsStuckBadly goal s (take n events) k
badly_down goal s events n k few less h = (h.0, stuck_down goal s events n k h.0 few less h.1, h.2)

stale_up : (s : StoreState) (events : List Event) (watches : List Watch) (n k p : ℕ) (v : Via) → n ≤ length events →
    IsStaleAt s (take n events) watches k p v → (k < n) × IsStaleAt s events watches k p v
stale_up s events watches n k p v few h =
    let within = slice_get_within (take n events) k h.0 h.1 in
    let less : k < n = let all = cut_length events n few in omega (arith, all, within) in
    let most : k ≤ n = omega (arith, less) in
    (less, (h.0, sym (slice_get-take n events k less) ∙ h.1, subst (λ es. IsStale (after_events s es) watches h.0 p v) (take-take k n events most) h.2))

stale_down : (s : StoreState) (events : List Event) (watches : List Watch) (n k p : ℕ) (v : Via) → k < n →
    IsStaleAt s events watches k p v → IsStaleAt s (take n events) watches k p v
stale_down s events watches n k p v less h =
    let most : k ≤ n = omega (arith, less) in
    (h.0, slice_get-take n events k less ∙ h.1, subst (λ es. IsStale (after_events s es) watches h.0 p v) (sym (take-take k n events most)) h.2)

reach_up : (never : List ℕ) (s : State) (events : List Event) (n k p address : ℕ) → n ≤ length events →
    IsReachAt never s (take n events) k p address → (k < n) × IsReachAt never s events k p address
reach_up never s events n k p address few h =
    let within = slice_get_within (take n events) k (Step p) h.event_is in
    let less : k < n = let all = cut_length events n few in omega (arith, all, within) in (
      less,
      record {
        event_is = sym (slice_get-take n events k less) ∙ h.event_is;
        state = h.state;
        leads = (leads_up s events n k h.state few h.leads).1;
        given = h.given;
        accepted = h.accepted;
        fetches = h.fetches;
        address_is = h.address_is;
        is_among = h.is_among;
      },
    )

reach_down : (never : List ℕ) (s : State) (events : List Event) (n k p address : ℕ) → n ≤ length events → k < n →
    IsReachAt never s events k p address → IsReachAt never s (take n events) k p address
reach_down never s events n k p address few less h = record {
  event_is = slice_get-take n events k less ∙ h.event_is;
  state = h.state;
  leads = leads_down s events n k h.state few (omega (arith, less)) h.leads;
  given = h.given;
  accepted = h.accepted;
  fetches = h.fetches;
  address_is = h.address_is;
  is_among = h.is_among;
}

refused_up : (s : State) (events : List Event) (n : ℕ) → n ≤ length events → IsRefused s (take n events) → IsRefused s events
refused_up s events n few r =
    let within = slice_get_within (take n events) r.place r.event r.event_is in
    let less : r.place < n = let all = cut_length events n few in omega (arith, all, within) in
    record {
      place = r.place;
      event = r.event;
      event_is = sym (slice_get-take n events r.place less) ∙ r.event_is;
      state = r.state;
      leads = (leads_up s events n r.place r.state few r.leads).1;
      is_on = r.is_on;
      refusal = r.refusal;
      refused = r.refused;
    }

-- what holds of the cut list holds of the whole, but for End
up : (goal : Criteria) (s : State) (events : List Event) (n : ℕ) (v : Verdict) (k : ℕ) → n ≤ length events → rank v < 5 →
    Holds goal s (take n events) v k → Holds goal s events v k
up goal s events n (Stale place p address row) k few low h =
    let use_is = h.0.1 in
    let at = stale_up (without_stores s) events goal.watches n place p use_is.0 few use_is.3 in (
      (
        λ j less q v stale. h.0.0 j less q v (stale_down (without_stores s) events goal.watches n j q v (omega (arith, less, at.0)) stale),
        (use_is.0, use_is.1, use_is.2, at.1),
      ),
      h.1,
    )
up goal s events n (Reached place p address) k few low h =
    let at = reach_up goal.never s events n place p address few h.0 in
    (at.1, h.1, λ j q b less reach. h.2 j q b less (reach_down goal.never s events n j q b few (omega (arith, less, at.0)) reach))
up goal s events n (Conflict conflict) k few low h =
    (h.0, (leads_up s events n k h.0 few h.1).1, h.2, h.3)
up goal s events n Stuck k few low h =
    let at = badly_up goal s events n k few h.0 in
    (at.1, λ j less bad. h.1 j less (badly_down goal s events n j few (omega (arith, less, at.0)) bad))
up goal s events n Output k few low h =
    (h.0, (h.1.0, (leads_up s events n k h.1.0 few h.1.1).1, h.1.2, h.1.3))
up goal s events n End k few low h = absurd (omega (arith, low))

-- the verdict holds of the list that is cut behind it
down : (goal : Criteria) (s : State) (events : List Event) (n : ℕ) (v : Verdict) → n ≤ length events → Holds goal s events v n → Holds goal s (take n events) v n
down goal s events n (Stale place p address row) few h =
    let use_is = h.0.1 in
    let less : place < n = omega (arith, h.1) in (
      (
        λ j before q v stale. h.0.0 j before q v (stale_up (without_stores s) events goal.watches n j q v few stale).1,
        (use_is.0, use_is.1, use_is.2, stale_down (without_stores s) events goal.watches n place p use_is.0 less use_is.3),
      ),
      h.1,
    )
down goal s events n (Reached place p address) few h =
    let less : place < n = let all = h.1 in omega (arith, all) in
    (reach_down goal.never s events n place p address few less h.0, h.1, λ j q b before reach. h.2 j q b before (reach_up goal.never s events n j q b few reach).1)
down goal s events n (Conflict conflict) few h =
    (h.0, leads_down s events n n h.0 few (omega arith) h.1, h.2, h.3)
down goal s events n Stuck few h =
    (badly_down goal s events n n few (omega arith) h.0, λ j less bad. h.1 j less (badly_up goal s events n j few bad).1)
down goal s events n Output few h =
    (h.0, (h.1.0, leads_down s events n n h.1.0 few (omega arith) h.1.1, h.1.2, h.1.3))
down goal s events n End few h = (
  h.0,
  sym (cut_length events n few),
  (h.2.0, leads_down s events n n h.2.0 few (omega arith) h.2.1, h.2.2),
  λ k t stuck. h.3 k t (stuck_up goal s events n k t few stuck).1,
)

-- it needs no more events than there are
few_enough : (goal : Criteria) (s : State) (events : List Event) (v : Verdict) (n : ℕ) → Holds goal s events v n → n ≤ length events
few_enough goal s events (Stale place p address row) n h =
    let at = h.0.1.3 in
    let within = slice_get_within events place at.0 at.1 in omega (arith, h.1, within)
few_enough goal s events (Reached place p address) n h =
    let within = slice_get_within events place (Step p) h.0.event_is in
    let all = h.1 in omega (arith, all, within)
few_enough goal s events (Conflict conflict) n h = h.1.0
few_enough goal s events Stuck n h = h.0.1.0.0
few_enough goal s events Output n h = h.1.1.0
few_enough goal s events End n h = omega (arith, h.1)

rank_few : (v : Verdict) → rank v ≤ 5
rank_few (Stale place p address row) = omega arith
rank_few (Reached place p address) = omega arith
rank_few (Conflict conflict) = omega arith
rank_few Stuck = omega arith
rank_few Output = omega arith
rank_few End = omega arith

pub cut_keeps_verdict : (goal : Criteria) (s : State) (events : List Event) (judged : Judged) → CutKeepsVerdict goal s events judged
cut_keeps_verdict goal s events judged h =
    let n = judged.events in
    let few = few_enough goal s events judged.verdict n h.1 in (
      λ r. h.0 (refused_up s events n few r),
      down goal s events n judged.verdict few h.1,
      λ v k less holds. h.2 v k less (up goal s events n v k few (let most = rank_few judged.verdict in omega (arith, less, most)) holds),
    )

pub first_is_no_worse : (goal : Criteria) (s : State) (events : List Event) → FirstIsNoWorse goal s events
first_is_no_worse goal s events n v k few low h = up goal s events n v k few low h
