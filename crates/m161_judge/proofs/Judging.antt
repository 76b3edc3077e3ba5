use Rattle.std.proofs.Common.{◌≡◌, ◌≢◌, ◌∙◌, refl, sym, subst, ℕ, ◌+◌, ◌-◌, ◌<◌, ◌⊎◌, inl, inr, Bool, true, false, not, List, length, arith}
use Rattle.std.proofs.Common.{Bor}
use Rattle.std.specs.Prelude.{Option, None, Some, Result, Ok, Err, is_some, option_map, slice_get}
use Rattle.std.specs.Option.{option_or}
use Rattle.std.proofs.lemmas.Bool.Decides.{eqb_tells}
use Rattle.std.proofs.lemmas.Option.{slice_get_within}
use Rattle.m161_cpu.specs.declared.processor.Outcome.{Outcome}
use Rattle.m161_machine.specs.declared.event.Conflict.{Conflict as ConflictOf}
use Rattle.m161_machine.specs.declared.event.Event.{Event}
use Rattle.m161_machine.specs.declared.event.Refusal.{Refusal}
use Rattle.m161_machine.specs.State.{State, next}
use Rattle.m161_machine.specs.StoreHistory.{without_stores}
use Rattle.m161_audit.specs.declared.finding.Finding.{Finding}
use Rattle.m161_audit.specs.declared.finding.Finding.TheVariants as finding
use Rattle.m161_audit.specs.Stale.{IsBelow, IsFinding}
use Rattle.m161_judge.specs.declared.seen.Seen.{Seen}
use Rattle.m161_judge.specs.declared.verdict.Judged.{Judged}
use Rattle.m161_judge.specs.declared.verdict.Verdict.{Verdict}
use Rattle.m161_judge.specs.declared.verdict.Verdict.TheVariants.{Stale, Reached, Conflict, Stuck, Output, End}
use Rattle.m161_judge.specs.Judge.{bytes_of}
use Rattle.m161_judge.specs.Verdict.{Criteria, HasSent, Holds, IsRefused, IsStuckAfter, IsStuckBadly, LeadsTo, rank}
use Rattle.m161_judge.specs.declared.reach.Reach.{Reach}
use Rattle.m161_judge.specs.Memory.{IsFirstReach}
use Rattle.m161_judge.specs.Seen.{HasSeen, IsFirstBad, WasStuck}
use Rattle.m161_judge.specs.helpers.Walk.{Ends, IsConflictOff, IsJudgedBehind, IsJudgedBeside, Joins, JoinsSteps, judged_reach}
use Rattle.m161_judge.proofs.Running.{leads_to_one, made_within, none_past_off}

-- Verdicts of runs that have ended.

off_or_on : (b : Bool) → (b ≡ true) ⊎ (b ≡ false)
off_or_on true = inl refl
off_or_on false = inr refl

-- no more events are accepted than those that were made
no_further : (s : State) (events : List Event) (n : ℕ) (t : State) → Ends s events n t → (k : ℕ) (u : State) → LeadsTo s events k u → k < n + 1
no_further s events n t ends k u h = elim (off_or_on t.board.off) as (λ _. k < n + 1) [
  | inr on ↦ let last = ends.is_last on in omega (arith, h.0, last)
  | inl off ↦ elim (eqb_tells (n + 1 + (k - (n + 1))) k) as (λ _. k < n + 1) [
    | inl past ↦ absurd (none_past_off events n k s t u (omega (arith, past.1)) (omega (arith, past.1, h.0)) off ends.leads.1 h.1)
    | inr not ↦ omega (arith, not.1)
  ]
]

-- the machine isn't off before the end
off_at_end : (s : State) (events : List Event) (n : ℕ) (t : State) → Ends s events n t → (k : ℕ) (u : State) → LeadsTo s events k u →
    u.board.off ≡ true → (k ≡ n) × (u ≡ t)
off_at_end s events n t ends k u h off =
    let most = no_further s events n t ends k u h in
    elim (eqb_tells k n) as (λ _. (k ≡ n) × (u ≡ t)) [
      | inl e ↦ (e.1, leads_to_one s events n u t (subst (λ j. LeadsTo s events j u) e.1 h) ends.leads)
      | inr e ↦ absurd (none_past_off events k n s u t (omega (arith, most, e.1)) (omega (arith, most, e.1, ends.leads.0)) off h.1 ends.leads.1)
    ]

ok_is_not : (given : Outcome × State) (refusal : Refusal) → ◌≡◌ {A = Result (Outcome × State) Refusal} (Err refusal) (Ok given) → ⊥
ok_is_not given refusal h = cc

none_is_not : (e : Event) → ◌≡◌ {A = Option Event} None (Some e) → ⊥
none_is_not e h = cc

-- none of the events was refused
pub none_refused : (s : State) (events : List Event) (n : ℕ) (t : State) → Ends s events n t → IsRefused s events → ⊥
none_refused s events n t ends r =
    let most = no_further s events n t ends r.place r.state r.leads in
    elim (eqb_tells r.place n) as (λ _. ⊥) [
      | inr e ↦
          let g = made_within events r.place n r.event s r.state t (omega (arith, most, e.1)) r.event_is r.leads.1 ends.leads.1 in
          ok_is_not g.0 r.refusal (sym r.refused ∙ g.1)
      | inl e ↦
          let same : r.state ≡ t = leads_to_one s events n r.state t (subst (λ j. LeadsTo s events j r.state) e.1 r.leads) ends.leads in
          let last : n ≡ length events = ends.is_last (subst (λ v. v.board.off ≡ false) same r.is_on) in
          let within = slice_get_within events r.place r.event r.event_is in
          omega (arith, last, e.1, within)
    ]

-- an event that is refused before the machine is off
pub refused_at : (s : State) (events : List Event) (n : ℕ) (e : Event) (t : State) (refusal : Refusal) → LeadsTo s events n t → slice_get events n ≡ Some e →
    t.board.off ≡ false → next t e ≡ Err refusal → IsRefused s events
refused_at s events n e t refusal at event on refused = record {
  place = n;
  event = e;
  event_is = event;
  state = t;
  leads = at;
  is_on = on;
  refusal = refusal;
  refused = refused;
}

-- what an end with these looks says
pub record Ended (goal : Criteria) (s : State) (events : List Event) (n : ℕ) (t : State) (seen : Seen) : Type 0 where
  pub ends : Ends s events n t
  pub looked : HasSeen goal s events (n + 1) seen

none_bad : (goal : Criteria) (s : State) (events : List Event) (n : ℕ) (t : State) (seen : Seen) → Ended goal s events n t seen → seen.stuck ≡ None →
    (k : ℕ) → IsStuckBadly goal s events k → ⊥
none_bad goal s events n t seen e none k h =
    let before : IsFirstBad goal s events (n + 1) None = subst (IsFirstBad goal s events (n + 1)) none e.looked.0 in
    before k (no_further s events n t e.ends k h.0 h.1.0) h

none_stuck : (goal : Criteria) (s : State) (events : List Event) (n : ℕ) (t : State) (seen : Seen) → Ended goal s events n t seen → seen.was_stuck ≡ false →
    (k : ℕ) (u : State) → IsStuckAfter goal s events k u → ⊥
none_stuck goal s events n t seen e none k u h =
    let before : WasStuck goal s events (n + 1) false = subst (WasStuck goal s events (n + 1)) none e.looked.1 in
    before k u (no_further s events n t e.ends k u h.0) h

-- each kind

none_between : (v : Verdict) → 2 < rank v → rank v < 3 → ⊥
none_between v a b = omega (arith, a, b)

pub judged_stuck : (goal : Criteria) (s : State) (events : List Event) (n first : ℕ) (t : State) (seen : Seen) → Ended goal s events n t seen →
    seen.stuck ≡ Some first → IsJudgedBehind goal s events (Some (record { verdict = Stuck; events = first }))
judged_stuck goal s events n first t seen e some =
    let at : IsFirstBad goal s events (n + 1) (Some first) = subst (IsFirstBad goal s events (n + 1)) some e.looked.0 in
    (omega arith, (at.1, at.2), λ v k a b h. none_between v a b)

-- of those behind Conflict
behind : (goal : Criteria) (s : State) (events : List Event) → ((n : ℕ) → Holds goal s events Stuck n → ⊥) → ((n : ℕ) → Holds goal s events Output n → ⊥) →
    ((n : ℕ) → Holds goal s events End n → ⊥) → (v : Verdict) (n : ℕ) → 2 < rank v → Holds goal s events v n → ⊥
behind goal s events stuck output end (Stale place p address row) n a h = omega (arith, a)
behind goal s events stuck output end (Reached place p address) n a h = omega (arith, a)
behind goal s events stuck output end (Conflict conflict) n a h = omega (arith, a)
behind goal s events stuck output end Stuck n a h = stuck n h
behind goal s events stuck output end Output n a h = output n h
behind goal s events stuck output end End n a h = end n h

pub judged_unasked : (goal : Criteria) (s : State) (events : List Event) (n : ℕ) (t : State) (seen : Seen) → Ended goal s events n t seen →
    seen.stuck ≡ None → goal.output ≡ None → IsJudgedBehind goal s events None
judged_unasked goal s events n t seen e none unasked =
    behind goal s events (λ k h. none_bad goal s events n t seen e none k h.0) (λ k h. h.0 unasked) (λ k h. h.0 unasked)

true_is_not : (b : Bool) → b ≡ true → b ≡ false → ⊥
true_is_not true h k = let bad : true ≡ false = k in cc
true_is_not false h k = let bad : false ≡ true = h in cc

-- the verdicts between
only_stuck : (goal : Criteria) (s : State) (events : List Event) → ((n : ℕ) → Holds goal s events Stuck n → ⊥) →
    (v : Verdict) (n : ℕ) → 2 < rank v → rank v < 4 → Holds goal s events v n → ⊥
only_stuck goal s events stuck (Stale place p address row) n a b h = omega (arith, a)
only_stuck goal s events stuck (Reached place p address) n a b h = omega (arith, a)
only_stuck goal s events stuck (Conflict conflict) n a b h = omega (arith, a)
only_stuck goal s events stuck Stuck n a b h = stuck n h
only_stuck goal s events stuck Output n a b h = omega (arith, b)
only_stuck goal s events stuck End n a b h = omega (arith, b)

-- it is off
no_end : (goal : Criteria) (s : State) (events : List Event) (n : ℕ) (t : State) (seen : Seen) → Ended goal s events n t seen → t.board.off ≡ true →
    (k : ℕ) → Holds goal s events End k → ⊥
no_end goal s events n t seen e off k h =
    let most = no_further s events n t e.ends k h.2.0 h.2.1 in
    let all : n ≡ k = omega (arith, most, h.1, e.ends.leads.0) in
    let same : t ≡ h.2.0 = leads_to_one s events k t h.2.0 (subst (λ j. LeadsTo s events j t) all e.ends.leads) h.2.1 in
    true_is_not t.board.off off (subst (λ v. v.board.off ≡ false) (sym same) h.2.2)

pub judged_sent : (goal : Criteria) (s : State) (events : List Event) (n : ℕ) (t : State) (seen : Seen) → Ended goal s events n t seen →
    seen.stuck ≡ None → t.board.off ≡ true → HasSent goal t → IsJudgedBehind goal s events None
judged_sent goal s events n t seen e none off sent =
    behind goal s events (λ k h. none_bad goal s events n t seen e none k h.0)
    (λ k h. h.1.3 (subst (HasSent goal) (sym (off_at_end s events n t e.ends k h.1.0 h.1.1 h.1.2).1) sent))
    (no_end goal s events n t seen e off)

pub judged_output : (goal : Criteria) (s : State) (events : List Event) (n : ℕ) (t : State) (seen : Seen) → Ended goal s events n t seen →
    seen.stuck ≡ None → (goal.output ≢ None) → t.board.off ≡ true → (HasSent goal t → ⊥) →
    IsJudgedBehind goal s events (Some (record { verdict = Output; events = n }))
judged_output goal s events n t seen e none asked off not =
    let lower : (v : Verdict) (k : ℕ) → 2 < rank v → rank v < 4 → Holds goal s events v k → ⊥ = only_stuck goal s events (λ k h. none_bad goal s events n t seen e none k h.0) in
    (omega arith, (asked, (t, e.ends.leads, off, not)), lower)

-- it isn't off
no_output : (goal : Criteria) (s : State) (events : List Event) (n : ℕ) (t : State) (seen : Seen) → Ended goal s events n t seen → t.board.off ≡ false →
    (k : ℕ) → Holds goal s events Output k → ⊥
no_output goal s events n t seen e on k h =
    let at = off_at_end s events n t e.ends k h.1.0 h.1.1 h.1.2 in
    true_is_not t.board.off (subst (λ v. v.board.off ≡ true) at.1 h.1.2) on

pub judged_waiting : (goal : Criteria) (s : State) (events : List Event) (n : ℕ) (t : State) (seen : Seen) → Ended goal s events n t seen →
    seen.stuck ≡ None → t.board.off ≡ false → seen.was_stuck ≡ true → IsJudgedBehind goal s events None
judged_waiting goal s events n t seen e none on was =
    let at : WasStuck goal s events (n + 1) true = subst (WasStuck goal s events (n + 1)) was e.looked.1 in
    behind goal s events (λ k h. none_bad goal s events n t seen e none k h.0) (no_output goal s events n t seen e on)
    (λ k h. h.3 at.0 at.1 at.2)

not_behind : (goal : Criteria) (s : State) (events : List Event) → ((n : ℕ) → Holds goal s events Stuck n → ⊥) → ((n : ℕ) → Holds goal s events Output n → ⊥) →
    (v : Verdict) (n : ℕ) → 2 < rank v → rank v < 5 → Holds goal s events v n → ⊥
not_behind goal s events stuck output (Stale place p address row) n a b h = omega (arith, a)
not_behind goal s events stuck output (Reached place p address) n a b h = omega (arith, a)
not_behind goal s events stuck output (Conflict conflict) n a b h = omega (arith, a)
not_behind goal s events stuck output Stuck n a b h = stuck n h
not_behind goal s events stuck output Output n a b h = output n h
not_behind goal s events stuck output End n a b h = omega (arith, b)

pub judged_end : (goal : Criteria) (s : State) (events : List Event) (n : ℕ) (t : State) (seen : Seen) → Ended goal s events n t seen →
    seen.stuck ≡ None → (goal.output ≢ None) → t.board.off ≡ false → seen.was_stuck ≡ false →
    IsJudgedBehind goal s events (Some (record { verdict = End; events = n }))
judged_end goal s events n t seen e none asked on was = (
  omega arith,
  (asked, e.ends.is_last on, (t, e.ends.leads, on), none_stuck goal s events n t seen e was),
  not_behind goal s events (λ k h. none_bad goal s events n t seen e none k h.0) (no_output goal s events n t seen e on),
)

-- a conflict comes before them

pub judged_conflict : (goal : Criteria) (s : State) (events : List Event) (n : ℕ) (t : State) (conflict : ConflictOf) → Ends s events n t →
    IsConflictOff t (Some conflict) → IsJudgedBeside goal s events (Some (record { verdict = Conflict conflict; events = n }))
judged_conflict goal s events n t conflict ends h =
    (omega arith, (t, ends.leads, h.0, h.1), λ v k a b x. omega (arith, a, b))

no_conflict : (conflict : ConflictOf) (o : Option ConflictOf) → o ≡ None → o ≡ Some conflict → ⊥
no_conflict conflict o none some = let bad : ◌≡◌ {A = Option ConflictOf} None (Some conflict) = sym none ∙ some in cc

-- without one
unconflicted : (goal : Criteria) (s : State) (events : List Event) (n : ℕ) (t : State) → Ends s events n t → IsConflictOff t None →
    (conflict : ConflictOf) (k : ℕ) → Holds goal s events (Conflict conflict) k → ⊥
unconflicted goal s events n t ends none conflict k h =
    let same = (off_at_end s events n t ends k h.0 h.1 h.2).1 in
    no_conflict conflict t.conflict (none (subst (λ v. v.board.off ≡ true) same h.2)) (subst (λ v. v.conflict ≡ Some conflict) same h.3)

beside_by : (goal : Criteria) (s : State) (events : List Event) → ((conflict : ConflictOf) (k : ℕ) → Holds goal s events (Conflict conflict) k → ⊥) →
    (high : (v : Verdict) (n : ℕ) → 2 < rank v → Holds goal s events v n → ⊥) → (v : Verdict) (n : ℕ) → 1 < rank v → Holds goal s events v n → ⊥
beside_by goal s events none high (Stale place p address row) n a h = omega (arith, a)
beside_by goal s events none high (Reached place p address) n a h = omega (arith, a)
beside_by goal s events none high (Conflict conflict) n a h = none conflict n h
beside_by goal s events none high Stuck n a h = high Stuck n (omega arith) h
beside_by goal s events none high Output n a h = high Output n (omega arith) h
beside_by goal s events none high End n a h = high End n (omega arith) h

before_by : (goal : Criteria) (s : State) (events : List Event) (r : ℕ) → ((conflict : ConflictOf) (k : ℕ) → Holds goal s events (Conflict conflict) k → ⊥) →
    (high : (v : Verdict) (n : ℕ) → 2 < rank v → rank v < r → Holds goal s events v n → ⊥) → (v : Verdict) (n : ℕ) → 1 < rank v → rank v < r → Holds goal s events v n → ⊥
before_by goal s events r none high (Stale place p address row) n a b h = omega (arith, a)
before_by goal s events r none high (Reached place p address) n a b h = omega (arith, a)
before_by goal s events r none high (Conflict conflict) n a b h = none conflict n h
before_by goal s events r none high Stuck n a b h = high Stuck n (omega arith) b h
before_by goal s events r none high Output n a b h = high Output n (omega arith) b h
before_by goal s events r none high End n a b h = high End n (omega arith) b h

pub judged_behind : (goal : Criteria) (s : State) (events : List Event) (n : ℕ) (t : State) (behind : Option Judged) → Ends s events n t → IsConflictOff t None →
    IsJudgedBehind goal s events behind → IsJudgedBeside goal s events behind
judged_behind goal s events n t None ends none b = beside_by goal s events (unconflicted goal s events n t ends none) b
judged_behind goal s events n t (Some judged) ends none b =
    (omega (arith, b.0), b.1, before_by goal s events (rank judged.verdict) (unconflicted goal s events n t ends none) b.2)

-- a finding comes first

is_place : (goal : Criteria) (s : State) (events : List Event) → IsFinding (without_stores s) events goal.watches finding.Clean →
    (v : Verdict) (n : ℕ) → rank v < 1 → Holds goal s events v n → ⊥
is_place goal s events clean (Stale place p address row) n less h =
    let use_is = h.0.1 in
    let at = use_is.3 in
    clean place (slice_get_within events place at.0 at.1) p use_is.0 at
is_place goal s events clean (Reached place p address) n less h = omega (arith, less)
is_place goal s events clean (Conflict conflict) n less h = omega (arith, less)
is_place goal s events clean Stuck n less h = omega (arith, less)
is_place goal s events clean Output n less h = omega (arith, less)
is_place goal s events clean End n less h = omega (arith, less)

-- without a stale use, and without a reach
no_step : (goal : Criteria) (s : State) (events : List Event) → IsFinding (without_stores s) events goal.watches finding.Clean →
    IsFirstReach goal.never s events None → (v : Verdict) (n : ℕ) → rank v < 2 → Holds goal s events v n → ⊥
no_step goal s events clean none (Stale place p address row) n less h = is_place goal s events clean (Stale place p address row) n (omega arith) h
no_step goal s events clean none (Reached place p address) n less h = none place p address h.0
no_step goal s events clean none (Conflict conflict) n less h = omega (arith, less)
no_step goal s events clean none Stuck n less h = omega (arith, less)
no_step goal s events clean none Output n less h = omega (arith, less)
no_step goal s events clean none End n less h = omega (arith, less)

pub steps_clean : (goal : Criteria) (s : State) (events : List Event) (reach : Option Reach) →
    JoinsSteps goal s events finding.Clean reach (option_map judged_reach reach)
steps_clean goal s events None clean none = no_step goal s events clean none
steps_clean goal s events (Some reach) clean first =
    (omega arith, (first.0, refl, first.1), λ v n less h. is_place goal s events clean v n less h)

pub steps_stale : (goal : Criteria) (s : State) (events : List Event) (place p address row : ℕ) (reach : Option Reach) →
    JoinsSteps goal s events (finding.Stale place p address row) reach (Some (record { verdict = Stale place p address row; events = place + 1 }))
steps_stale goal s events place p address row reach found first =
    (omega arith, (found, refl), λ v n less h. omega (arith, less))

-- a verdict of Steps comes first

low_or_high : (v : Verdict) → (rank v < 2) ⊎ (1 < rank v)
low_or_high (Stale place p address row) = inl (omega arith)
low_or_high (Reached place p address) = inl (omega arith)
low_or_high (Conflict conflict) = inr (omega arith)
low_or_high Stuck = inr (omega arith)
low_or_high Output = inr (omega arith)
low_or_high End = inr (omega arith)

either : (P : Verdict → Type 0) → ((v : Verdict) → rank v < 2 → P v → ⊥) → ((v : Verdict) → 1 < rank v → P v → ⊥) → (v : Verdict) → P v → ⊥
either P low high v h = elim (low_or_high v) as (λ _. ⊥) [
  | inl less ↦ low v less h
  | inr more ↦ high v more h
]

pub joins_or : (goal : Criteria) (s : State) (events : List Event) (of_steps beside : Option Judged) →
    Joins goal s events of_steps beside (option_or of_steps beside)
joins_or goal s events (Some judged) beside made of_steps b = (made, of_steps.1, of_steps.2)
joins_or goal s events None None made none b =
    inr (λ v n. either (λ x. Holds goal s events x n) (λ x less. none x n less) (λ x more. b x n more) v)
joins_or goal s events None (Some judged) made none b = (
  made,
  b.1,
  λ v n less h. either (λ x. (rank x < rank judged.verdict) × Holds goal s events x n)
      (λ x low k. none x n low k.1) (λ x more k. b.2 x n more k.0 k.1) v (less, h),
)

pub place_is_below : (goal : Criteria) (s : State) (events : List Event) (found : Finding) → IsFinding (without_stores s) events goal.watches found → IsBelow (length events) found
place_is_below goal s events finding.Clean h = tt
place_is_below goal s events (finding.Stale place p address row) h =
    let at = h.1.3 in slice_get_within events place at.0 at.1

-- whether an output is asked for
pub unasked_for : (output : Option (Bor (List ℕ))) (b : Bool) → is_some output ≡ not b → b ≡ true → bytes_of output ≡ None
unasked_for None b h k = refl
unasked_for (Some bytes) true h k = let bad : true ≡ false = h in absurd cc
unasked_for (Some bytes) false h k = let bad : false ≡ true = k in absurd cc

some_is_not : (bytes : List ℕ) → ◌≡◌ {A = Option (List ℕ)} (Some bytes) None → ⊥
some_is_not bytes h = cc

pub asked_for : (output : Option (Bor (List ℕ))) (b : Bool) → is_some output ≡ not b → b ≡ false → bytes_of output ≡ None → ⊥
asked_for None true h k e = let bad : true ≡ false = k in cc
asked_for None false h k e = let bad : false ≡ true = h in cc
asked_for (Some bytes) b h k e = some_is_not bytes.now e
