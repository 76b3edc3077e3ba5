use Rattle.std.proofs.Common.{◌≡◌, sym, subst, ℕ, ◌+◌, ◌<◌, ◌⊎◌, inl, inr, Bool, true, false, List, take, arith}
use Rattle.std.specs.Prelude.{Option, None, Some}
use Rattle.std.specs.Option.{option_or}
use Rattle.std.proofs.lemmas.Bool.Decides.{eqb_tells}
use Rattle.m161_machine.specs.declared.event.Event.{Event}
use Rattle.m161_machine.specs.State.{State}
use Rattle.m161_judge.specs.declared.seen.Seen.{Seen}
use Rattle.m161_judge.specs.Verdict.{Criteria, HasSent, IsStuckAfter, IsStuckBadly, LeadsTo, has_keys, is_stuck}
use Rattle.m161_judge.specs.Seen.{HasSeen, IsFirstBad, WasStuck}
use Rattle.m161_judge.proofs.Running.{leads_to_one}

-- What is seen at one more state.

-- a number below n + 1 is below n, or is n
pub below : (k n : ℕ) → k < n + 1 → (k < n) ⊎ (k ≡ n)
below k n h = elim (eqb_tells k n) as (λ _. (k < n) ⊎ (k ≡ n)) [
  | inl e ↦ inr e.1
  | inr e ↦ inl (omega (arith, e.1, h))
]

true_is_not : (b : Bool) → b ≡ true → b ≡ false → ⊥
true_is_not true h k = let bad : true ≡ false = k in cc
true_is_not false h k = let bad : false ≡ true = h in cc

-- what isn't so below n, and not at n
none_more : (P : ℕ → Type 0) (n : ℕ) → ((k : ℕ) → k < n → P k → ⊥) → (P n → ⊥) → (k : ℕ) → k < n + 1 → P k → ⊥
none_more P n before here k less h = elim (below k n less) as (λ _. ⊥) [
  | inl l ↦ before k l h
  | inr e ↦ here (subst P e h)
]

-- no bad stop at n
first_kept : (goal : Criteria) (s : State) (events : List Event) (n : ℕ) (first : Option ℕ) →
    IsFirstBad goal s events n first → (IsStuckBadly goal s events n → ⊥) → IsFirstBad goal s events (n + 1) first
first_kept goal s events n None before here = none_more (IsStuckBadly goal s events) n before here
first_kept goal s events n (Some first) before here = (omega (arith, before.0), before.1, before.2)

-- no stop at n
stuck_kept : (goal : Criteria) (s : State) (events : List Event) (n : ℕ) (was : Bool) →
    WasStuck goal s events n was → ((t : State) → IsStuckAfter goal s events n t → ⊥) → WasStuck goal s events (n + 1) was
stuck_kept goal s events n true before here = before
stuck_kept goal s events n false before here = λ k t less h.
    elim (below k n less) as (λ _. ⊥) [
      | inl l ↦ before k t l h
      | inr e ↦ here t (subst (λ j. IsStuckAfter goal s events j t) e h)
    ]

-- the state after n events isn't stuck
not_stuck_at : (goal : Criteria) (s : State) (events : List Event) (n : ℕ) (t : State) (left : Bool) → left ≡ has_keys goal.keys (take n events) →
    LeadsTo s events n t → is_stuck left t ≡ false → (u : State) → IsStuckAfter goal s events n u → ⊥
not_stuck_at goal s events n t left keys at not u h =
    let same : t ≡ u = leads_to_one s events n t u at h.0 in
    let is : is_stuck left t ≡ true = subst (λ v. is_stuck left v ≡ true) (sym same) (subst (λ b. is_stuck b u ≡ true) (sym keys) h.1) in
    true_is_not (is_stuck left t) is not

pub seen_free : (goal : Criteria) (s : State) (events : List Event) (n : ℕ) (t : State) (left : Bool) (seen : Seen) → left ≡ has_keys goal.keys (take n events) →
    LeadsTo s events n t → is_stuck left t ≡ false → HasSeen goal s events n seen → HasSeen goal s events (n + 1) seen
seen_free goal s events n t left seen keys at not before =
    let none = not_stuck_at goal s events n t left keys at not in (
      first_kept goal s events n seen.stuck before.0 (λ h. none h.0 h.1),
      stuck_kept goal s events n seen.was_stuck before.1 none,
    )

stuck_at : (goal : Criteria) (s : State) (events : List Event) (n : ℕ) (t : State) (left : Bool) → left ≡ has_keys goal.keys (take n events) →
    LeadsTo s events n t → is_stuck left t ≡ true → IsStuckAfter goal s events n t
stuck_at goal s events n t left keys at is = (at, subst (λ b. is_stuck b t ≡ true) keys is)

-- it is, but has sent what is asked for
pub seen_sent : (goal : Criteria) (s : State) (events : List Event) (n : ℕ) (t : State) (left : Bool) (seen : Seen) → left ≡ has_keys goal.keys (take n events) →
    LeadsTo s events n t → is_stuck left t ≡ true → HasSent goal t → HasSeen goal s events n seen →
    HasSeen goal s events (n + 1) (record { stuck = seen.stuck; was_stuck = true })
seen_sent goal s events n t left seen keys at is sent before = (
  first_kept goal s events n seen.stuck before.0
      (λ h. h.2 (subst (HasSent goal) (leads_to_one s events n t h.0 at h.1.0) sent)),
  (n, t, stuck_at goal s events n t left keys at is),
)

-- it is badly stuck
first_bad : (goal : Criteria) (s : State) (events : List Event) (n : ℕ) (first : Option ℕ) →
    IsFirstBad goal s events n first → IsStuckBadly goal s events n → IsFirstBad goal s events (n + 1) (option_or first (Some n))
first_bad goal s events n None before here = (omega arith, here, before)
first_bad goal s events n (Some first) before here = (omega (arith, before.0), before.1, before.2)

pub seen_bad : (goal : Criteria) (s : State) (events : List Event) (n : ℕ) (t : State) (left : Bool) (seen : Seen) → left ≡ has_keys goal.keys (take n events) →
    LeadsTo s events n t → is_stuck left t ≡ true → (HasSent goal t → ⊥) → HasSeen goal s events n seen →
    HasSeen goal s events (n + 1) (record { stuck = option_or seen.stuck (Some n); was_stuck = true })
seen_bad goal s events n t left seen keys at is not before =
    let here = stuck_at goal s events n t left keys at is in (
      first_bad goal s events n seen.stuck before.0 (t, here, not),
      (n, t, here),
    )

pub nothing_seen : (goal : Criteria) (s : State) (events : List Event) → HasSeen goal s events 0 (record { stuck = None; was_stuck = false })
nothing_seen goal s events = (λ k less h. omega (arith, less), λ k t less h. omega (arith, less))
