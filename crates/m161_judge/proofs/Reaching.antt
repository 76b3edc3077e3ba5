use Rattle.std.proofs.Common.{◌≡◌, ◌∙◌, refl, sym, ap, subst, ℕ, zero, suc, ◌+◌, ◌-◌, ◌<◌, ◌≤◌, ◌⊎◌, inl, inr, Bool, true, false, List, [], ◌∷◌, ◌++◌, length, get_or, append-nil, arith}
use Rattle.std.proofs.lemmas.List.{get_or_append_left, length-append, take-append-le}
use Rattle.std.specs.Prelude.{Option, None, Some, Result, Ok, Err, IfSome, MatchOption, if◌then◌else◌, is_some, nat_le, slice_get}
use Rattle.std.proofs.lemmas.Bool.Decides.{eqb_tells, nat_tests}
use Rattle.std.proofs.lemmas.Option.{slice_get-get_or, slice_get_within}
use Rattle.m161_cpu.specs.declared.processor.Outcome.{Outcome}
use Rattle.m161_cpu.specs.Fetch.{fetched_word}
use Rattle.m161_isa.specs.Choice.{first_answer}
use Rattle.m161_machine.specs.declared.event.Event.{Event}
use Rattle.m161_machine.specs.declared.event.Event.TheVariants.{Step}
use Rattle.m161_machine.specs.declared.event.Refusal.{Refusal}
use Rattle.m161_machine.specs.declared.event.Refusal.TheVariants.{BadProcessor, Off, Worn}
use Rattle.m161_machine.specs.Fetched.{fetches_none}
use Rattle.m161_machine.specs.State.{State, answer, is_worn, next, processor_at, unless}
use Rattle.m161_judge.specs.declared.reach.Reach.{Reach}
use Rattle.m161_judge.specs.declared.reach.Sought.{Sought}
use Rattle.m161_judge.specs.declared.reach.Sought.TheVariants.{Open, Over}
use Rattle.m161_judge.specs.Verdict.{IsReachAt, LeadsTo, NoneReachBefore, after}
use Rattle.m161_judge.specs.Memory.{IsFirstReach, IsSought, Reaching}
use Rattle.m161_judge.specs.helpers.Reach.{IsReachBy, IsSoughtBelow, WouldReach, reach_at, reach_in}
use Rattle.m161_judge.specs.helpers.Walk.{MakesWith}
use Rattle.m161_judge.proofs.Running.{leads_more, leads_to_one, made_within, some_is_one}

-- The first Step that reaches an address.

-- an accepted Step is one of a processor that there is
step_place : (none off worn : Bool) (x : Result (Outcome × State) Refusal) (given : Outcome × State) →
    unless (first_answer ((none, BadProcessor) ∷ (off, Off) ∷ (worn, Worn) ∷ [])) x ≡ Ok given → none ≡ false
step_place true off worn x given h = absurd (let bad : ◌≡◌ {A = Result (Outcome × State) Refusal} (Err BadProcessor) (Ok given) = h in cc)
step_place false off worn x given h = refl

place_of : (p : ℕ) (s : State) (given : Outcome × State) → next s (Step p) ≡ Ok given → p < length s.processors
unfolding next
place_of p s given h =
    let there = step_place (nat_le (length s.processors) p) s.board.off (is_worn s.made) (answer s (Step p)) given h in
    grind (arith, nat_tests, there)

-- a word was fetched
has_fetched : (none : Bool) (word : Option ℕ) → is_some (if none then None else word) ≡ true → (none ≡ false) × (is_some word ≡ true)
has_fetched true word h = absurd (let bad : false ≡ true = h in cc)
has_fetched false word h = (refl, h)

-- a reach, by the state before it and the outcome
would_by : (never : List ℕ) (s : State) (events : List Event) (k p address : ℕ) (t : State) → LeadsTo s events k t →
    IsReachAt never s events k p address → WouldReach never t (Step p) p address
would_by never s events k p address t at h =
    let state : h.state ≡ t = leads_to_one s events k h.state t h.leads at in
    let word = has_fetched (fetches_none h.given.0) (fetched_word h.state.memory (processor_at p h.state.processors).pc (processor_at p h.state.processors)) h.fetches in
    let address_is : address ≡ (processor_at p t.processors).pc = h.address_is ∙ ap (λ (u : State). (processor_at p u.processors).pc) state in
    record {
      event_is = refl;
      place = subst (λ (u : State). p < length u.processors) state (place_of p h.state h.given h.accepted);
      address_is = address_is;
      has_word = subst (λ a. is_some (fetched_word t.memory a (processor_at p t.processors)) ≡ true) (sym address_is)
          (subst (λ (u : State). is_some (fetched_word u.memory (processor_at p u.processors).pc (processor_at p u.processors)) ≡ true) state word.1);
      is_among = h.is_among;
    }

given_of : (never : List ℕ) (s : State) (events : List Event) (k p address : ℕ) (e : Event) (o : Outcome) (t u : State) → LeadsTo s events k t →
    slice_get events k ≡ Some e → next t e ≡ Ok (o, u) → (h : IsReachAt never s events k p address) → (e ≡ Step p) × (h.given ≡ (o, u))
given_of never s events k p address e o t u at event made h =
    let state : h.state ≡ t = leads_to_one s events k h.state t h.leads at in
    let same : e ≡ Step p = some_is_one e (Step p) (sym event ∙ h.event_is) in
    let both : Ok h.given ≡ Ok (o, u) = sym h.accepted ∙ (λ i. next (state i) (sym same i)) ∙ made in
    (same, ok_is_one h.given (o, u) both)
  where
    ok_is_one : (x y : Outcome × State) → ◌≡◌ {A = Result (Outcome × State) Refusal} (Ok x) (Ok y) → x ≡ y
    ok_is_one x y h = cc

none_some : (p : ℕ × ℕ) → ◌≡◌ {A = Option (ℕ × ℕ)} None (Some p) → ⊥
none_some p h = cc

-- what the code found of one event
abbrev pub FoundWould : List ℕ → State → Event → Option (ℕ × ℕ) → Type 0
FoundWould never t e None = (p address : ℕ) → WouldReach never t e p address → ⊥
FoundWould never t e (Some would) = WouldReach never t e would.0 would.1

pair_one : (never : List ℕ) (t : State) (p a q b : ℕ) → WouldReach never t (Step p) p a → (w : WouldReach never t (Step p) q b) → (p ≡ q) × (a ≡ b)
pair_one never t p a q b v w =
    let same : p ≡ q = step_one p q w.event_is in
    (same, v.address_is ∙ (λ i. (processor_at (same i) t.processors).pc) ∙ sym w.address_is)
  where
    step_one : (x y : ℕ) → ◌≡◌ {A = Event} (Step x) (Step y) → x ≡ y
    step_one x y h = cc

-- no reach at this event
pub none_here : (never : List ℕ) (s : State) (events : List Event) (k : ℕ) (e : Event) (o : Outcome) (t u : State) (would : Option (ℕ × ℕ)) (found : Option Reach) →
    LeadsTo s events k t → slice_get events k ≡ Some e → next t e ≡ Ok (o, u) → FoundWould never t e would → IsReachBy k would o found → found ≡ None →
    (p address : ℕ) → IsReachAt never s events k p address → ⊥
none_here never s events k e o t u None found at event made w by none p address h =
    let g = given_of never s events k p address e o t u at event made h in
    w p address (subst (λ x. WouldReach never t x p address) (sym g.0) (would_by never s events k p address t at h))
none_here never s events k e o t u (Some would) found at event made w by none p address h =
    let g = given_of never s events k p address e o t u at event made h in
    let fetches = (has_fetched (fetches_none h.given.0) (fetched_word h.state.memory (processor_at p h.state.processors).pc (processor_at p h.state.processors)) h.fetches).0 in
    let here : fetches_none o ≡ false = ap (λ (x : Outcome × State). fetches_none x.0) (sym g.1) ∙ fetches in
    some_reach (reach_at k would.0 would.1) (sym none ∙ by ∙ ap (λ b. if b then None else Some (reach_at k would.0 would.1)) here)
  where
    some_reach : (r : Reach) → ◌≡◌ {A = Option Reach} None (Some r) → ⊥
    some_reach r h = cc

if_some : (b : Bool) (r found : Reach) → ◌≡◌ {A = Option Reach} (Some found) (if b then None else Some r) → (b ≡ false) × (found ≡ r)
if_some true r found h = absurd (let bad : ◌≡◌ {A = Option Reach} (Some found) None = h in cc)
if_some false r found h = (refl, some_is_one found r h)

-- the reach of this event
pub reach_here : (never : List ℕ) (s : State) (events : List Event) (k : ℕ) (e : Event) (o : Outcome) (t u : State) (would : Option (ℕ × ℕ)) (found : Reach) →
    LeadsTo s events k t → slice_get events k ≡ Some e → next t e ≡ Ok (o, u) → FoundWould never t e would → IsReachBy k would o (Some found) →
    (found.place ≡ k) × IsReachAt never s events found.place found.processor found.address
reach_here never s events k e o t u None found at event made w by = absurd (some_none found by)
  where
    some_none : (r : Reach) → ◌≡◌ {A = Option Reach} (Some r) None → ⊥
    some_none r h = cc
reach_here never s events k e o t u (Some would) found at event made w by =
    let p = would.0 in
    let is = if_some (fetches_none o) (reach_at k p would.1) found by in
    let here : IsReachAt never s events k p would.1 = record {
      event_is = event ∙ ap Some w.event_is;
      state = t;
      leads = at;
      given = (o, u);
      accepted = subst (λ x. next t x ≡ Ok (o, u)) w.event_is made;
      fetches = subst (λ b. is_some (if b then None else fetched_word t.memory (processor_at p t.processors).pc (processor_at p t.processors)) ≡ true) (sym is.0)
          (subst (λ a. is_some (fetched_word t.memory a (processor_at p t.processors)) ≡ true) w.address_is w.has_word);
      address_is = w.address_is;
      is_among = w.is_among;
    } in
    (ap (λ (r : Reach). r.place) is.1, subst (λ (r : Reach). IsReachAt never s events r.place r.processor r.address) (sym is.1) here)

-- a walk so far

pub reaching_none : (never : List ℕ) (s : State) (events : List Event) → Reaching never s events 0 s
reaching_none never s events = record {
  leads = (omega arith, refl);
  none = λ j p address less h. omega (arith, less);
}

below : (k n : ℕ) → k < n + 1 → (k < n) ⊎ (k ≡ n)
below k n h = elim (eqb_tells k n) as (λ _. (k < n) ⊎ (k ≡ n)) [
  | inl e ↦ inr e.1
  | inr e ↦ inl (omega (arith, e.1, h))
]

pub reaching_more : (never : List ℕ) (s : State) (events : List Event) (n : ℕ) (e : Event) (o : Outcome) (t u : State) →
    n < length events → slice_get events n ≡ Some e → next t e ≡ Ok (o, u) → Reaching never s events n t →
    ((p address : ℕ) → IsReachAt never s events n p address → ⊥) → Reaching never s events (n + 1) u
reaching_more never s events n e o t u less event made r none = record {
  leads = leads_more events n e o s t u event less r.leads made;
  none = λ j p address before h. elim (below j n before) as (λ _. ⊥) [
    | inl l ↦ r.none j p address l h
    | inr is ↦ none p address (subst (λ k. IsReachAt never s events k p address) is h)
  ];
}

-- nothing is reached behind the end, and behind a refused event

pub none_past : (never : List ℕ) (s : State) (events : List Event) (t : State) (n : ℕ) → n ≡ length events → Reaching never s events n t →
    IsFirstReach never s events None
none_past never s events t n all r k p address h =
    let within = slice_get_within events k (Step p) h.event_is in
    r.none k p address (omega (arith, within, all)) h

ok_is_not : (given : Outcome × State) (refusal : Refusal) → ◌≡◌ {A = Result (Outcome × State) Refusal} (Err refusal) (Ok given) → ⊥
ok_is_not given refusal h = cc

refused_on : (never : List ℕ) (s : State) (events : List Event) (n : ℕ) (e : Event) (t : State) (refusal : Refusal) → slice_get events n ≡ Some e →
    next t e ≡ Err refusal → LeadsTo s events n t → (k p address : ℕ) → n < k → IsReachAt never s events k p address → ⊥
refused_on never s events n e t refusal event refused at k p address less h =
    let g = made_within events n k e s t h.state less event at.1 h.leads.1 in
    ok_is_not g.0 refusal (sym refused ∙ g.1)

refused_here : (never : List ℕ) (s : State) (events : List Event) (n : ℕ) (e : Event) (t : State) (refusal : Refusal) → slice_get events n ≡ Some e →
    next t e ≡ Err refusal → LeadsTo s events n t → (p address : ℕ) → IsReachAt never s events n p address → ⊥
refused_here never s events n e t refusal event refused at p address h =
    let state : h.state ≡ t = leads_to_one s events n h.state t h.leads at in
    let same : Step p ≡ e = some_is_one (Step p) e (sym h.event_is ∙ event) in
    ok_is_not h.given refusal (sym refused ∙ (λ i. next (sym state i) (sym same i)) ∙ h.accepted)

order : (k n : ℕ) → (k < n) ⊎ ((k ≡ n) ⊎ (n < k))
order k n = elim (eqb_tells k n) as (λ _. (k < n) ⊎ ((k ≡ n) ⊎ (n < k))) [
  | inl e ↦ inr (inl e.1)
  | inr e ↦ elim (eqb_tells (k + 1 + (n - (k + 1))) n) as (λ _. (k < n) ⊎ ((k ≡ n) ⊎ (n < k))) [
    | inl less ↦ inl (omega (arith, less.1))
    | inr not ↦ inr (inr (omega (arith, e.1, not.1)))
  ]
]

pub none_refused : (never : List ℕ) (s : State) (events : List Event) (n : ℕ) (e : Event) (t : State) (refusal : Refusal) → slice_get events n ≡ Some e →
    next t e ≡ Err refusal → Reaching never s events n t → IsFirstReach never s events None
none_refused never s events n e t refusal event refused r k p address h = elim (order k n) as (λ _. ⊥) [
  | inl less ↦ r.none k p address less h
  | inr (inl is) ↦ refused_here never s events n e t refusal event refused r.leads p address (subst (λ j. IsReachAt never s events j p address) is h)
  | inr (inr more) ↦ refused_on never s events n e t refusal event refused r.leads k p address more h
]

-- one event of the walk, as the code makes it

found_would : (never : List ℕ) (t : State) (e : Event) (would : Option (ℕ × ℕ)) →
    MatchOption would ((p address : ℕ) → WouldReach never t e p address → ⊥) (λ w. WouldReach never t e w.0 w.1) → FoundWould never t e would
found_would never t e None h = h
found_would never t e (Some would) h = h

with_outcome : (t u : State) (e : Event) (made : Option Outcome) (o : Outcome) → MakesWith t e (Ok made) u → made ≡ Some o → next t e ≡ Ok (o, u)
with_outcome t u e made o h is = subst (λ m. MakesWith t e (Ok m) u) is h

pub walk_more : (never : List ℕ) (s : State) (events : List Event) (n : ℕ) (d : Event) (t u : State) (made : Option Outcome) (o : Outcome) (would : Option (ℕ × ℕ))
    (found : Option Reach) → n < length events → Reaching never s events n t →
    MatchOption would ((p address : ℕ) → WouldReach never t (get_or events n d) p address → ⊥) (λ w. WouldReach never t (get_or events n d) w.0 w.1) →
    MakesWith t (get_or events n d) (Ok made) u → made ≡ Some o → IsReachBy n would o found → found ≡ None → Reaching never s events (n + 1) u
walk_more never s events n d t u made o would found less r w makes is by none =
    let e = get_or events n d in
    let event : slice_get events n ≡ Some e = slice_get-get_or events n d less in
    let step = with_outcome t u e made o makes is in
    reaching_more never s events n e o t u less event step r
    (none_here never s events n e o t u would found r.leads event step (found_would never t e would w) by none)

pub walk_found : (never : List ℕ) (s : State) (events : List Event) (n : ℕ) (d : Event) (t u : State) (made : Option Outcome) (o : Outcome) (would : Option (ℕ × ℕ))
    (found : Option Reach) (reach : Reach) → n < length events → Reaching never s events n t →
    MatchOption would ((p address : ℕ) → WouldReach never t (get_or events n d) p address → ⊥) (λ w. WouldReach never t (get_or events n d) w.0 w.1) →
    MakesWith t (get_or events n d) (Ok made) u → made ≡ Some o → IsReachBy n would o found → found ≡ Some reach →
    (reach.place ≡ n) × IsFirstReach never s events (Some reach)
walk_found never s events n d t u made o would found reach less r w makes is by some =
    let e = get_or events n d in
    let event : slice_get events n ≡ Some e = slice_get-get_or events n d less in
    let step = with_outcome t u e made o makes is in
    let here = reach_here never s events n e o t u would reach r.leads event step (found_would never t e would w) (subst (IsReachBy n would o) some by) in
    (here.0, (here.1, subst (NoneReachBefore never s events) (sym here.0) r.none))

pub walk_refused : (never : List ℕ) (s : State) (events : List Event) (n : ℕ) (d : Event) (t u : State) (made : Option Outcome) → n < length events →
    Reaching never s events n t → MakesWith t (get_or events n d) (Ok made) u → made ≡ None → IsFirstReach never s events None
walk_refused never s events n d t u made less r makes is =
    let e = get_or events n d in
    let event : slice_get events n ≡ Some e = slice_get-get_or events n d less in
    let refused : MakesWith t e (Ok None) u = subst (λ m. MakesWith t e (Ok m) u) is makes in
    none_refused never s events n e t refused.0 event refused.1 r

-- whatever comes behind

within_longer : (xs ys : List Event) (k : ℕ) → k < length xs → slice_get (xs ++ ys) k ≡ slice_get xs k
within_longer [] ys k less = absurd (omega (arith, less))
within_longer (x ∷ xs) ys zero less = refl
within_longer (x ∷ xs) ys (suc k) less = within_longer xs ys k (omega (arith, less))

reach_shorter : (never : List ℕ) (s : State) (xs ys : List Event) (k p address : ℕ) → k < length xs → IsReachAt never s (xs ++ ys) k p address →
    IsReachAt never s xs k p address
reach_shorter never s xs ys k p address less h =
    let few : k ≤ length xs = omega (arith, less) in
    let first = take-append-le k xs ys few in
    record {
      event_is = sym (within_longer xs ys k less) ∙ h.event_is;
      state = h.state;
      leads = (few, subst (λ es. after s es ≡ Some h.state) first h.leads.1);
      given = h.given;
      accepted = h.accepted;
      fetches = h.fetches;
      address_is = h.address_is;
      is_among = h.is_among;
    }

pub reaching_longer : (never : List ℕ) (s : State) (xs ys : List Event) (n : ℕ) (t : State) → Reaching never s xs n t → Reaching never s (xs ++ ys) n t
reaching_longer never s xs ys n t r =
    let few : n ≤ length xs = r.leads.0 in
    let long = length-append xs ys in
    record {
      leads = (omega (arith, few, long), subst (λ es. after s es ≡ Some t) (sym (take-append-le n xs ys few)) r.leads.1);
      none = λ j p address less h. r.none j p address less (reach_shorter never s xs ys j p address (omega (arith, few, less)) h);
    }

pub sought_found : (never : List ℕ) (s : State) (events : List Event) (n : ℕ) (d : Event) (t u : State) (made : Option Outcome) (o : Outcome) (would : Option (ℕ × ℕ))
    (found : Option Reach) (reach : Reach) → n < length events → Reaching never s events n t →
    MatchOption would ((p address : ℕ) → WouldReach never t (get_or events n d) p address → ⊥) (λ w. WouldReach never t (get_or events n d) w.0 w.1) →
    MakesWith t (get_or events n d) (Ok made) u → made ≡ Some o → IsReachBy n would o found → found ≡ Some reach → IsSought never s events (Over (Some reach)) u
sought_found never s events n d t u made o would found reach less r w makes is by some rest =
    let longer = events ++ rest in
    let size = length-append events rest in
    let same : get_or events n d ≡ get_or longer n d = sym (get_or_append_left events rest d n less) in
    (walk_found never s longer n d t u made o would found reach (omega (arith, less, size)) (reaching_longer never s events rest n t r)
    (subst (λ e. MatchOption would ((p address : ℕ) → WouldReach never t e p address → ⊥) (λ x. WouldReach never t e x.0 x.1)) same w)
    (subst (λ e. MakesWith t e (Ok made) u) same makes) is by some).1

pub sought_refused : (never : List ℕ) (s : State) (events : List Event) (n : ℕ) (d : Event) (t u : State) (made : Option Outcome) → n < length events →
    Reaching never s events n t → MakesWith t (get_or events n d) (Ok made) u → made ≡ None → IsSought never s events (Over None) u
sought_refused never s events n d t u made less r makes is rest =
    let longer = events ++ rest in
    let size = length-append events rest in
    let same : get_or events n d ≡ get_or longer n d = sym (get_or_append_left events rest d n less) in
    walk_refused never s longer n d t u made (omega (arith, less, size)) (reaching_longer never s events rest n t r)
    (subst (λ e. MakesWith t e (Ok made) u) same makes) is

pub sought_open : (never : List ℕ) (s : State) (events : List Event) (n : ℕ) (t : State) → length events ≤ n → Reaching never s events n t → IsSought never s events Open t
sought_open never s events n t all r =
    let few : n ≤ length events = r.leads.0 in
    let same : n ≡ length events = omega (arith, few, all) in
    subst (λ k. Reaching never s events k t) same r

pub first_sought : (never : List ℕ) (s : State) (events : List Event) (sought : Sought) (t : State) → IsSought never s events sought t →
    IsFirstReach never s events (reach_in sought)
first_sought never s events Open t h = none_past never s events t (length events) refl h
first_sought never s events (Over reach) t h = subst (λ es. IsFirstReach never s es reach) (append-nil events) (h [])

pub sought_below : (n : ℕ) (sought : Sought) → IsSoughtBelow n sought → IfSome (reach_in sought) (λ r. r.place < n)
sought_below n Open h = tt
sought_below n (Over None) h = tt
sought_below n (Over (Some reach)) h = h

pub sought_below_more : (n m : ℕ) (sought : Sought) → n ≤ m → IsSoughtBelow n sought → IsSoughtBelow m sought
sought_below_more n m Open few h = tt
sought_below_more n m (Over None) few h = tt
sought_below_more n m (Over (Some reach)) few h = omega (arith, few, h)
