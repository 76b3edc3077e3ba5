use Rattle.std.proofs.Common.{◌≡◌, ◌≢◌, ◌∙◌, refl, ap, sym, subst, arith, ℕ, zero, suc, ◌+◌, ◌-◌, ◌<◌, List, [], ◌∷◌, ◌++◌, length, take, drop, get_or, replicate, append_assoc, append-nil, Option, None, Some, Result, Ok, Err}
use Rattle.std.proofs.lemmas.List.{length-append, length-replicate, length-take-le, replicate-append-replicate, take_more, take-append-drop}
use Rattle.std.proofs.Math.Seq.{drop-cons}
use Rattle.m161_cpu.specs.declared.processor.Outcome.{Outcome}
use Rattle.m161_cpu.specs.declared.uses.Via.{Via}
use Rattle.m161_machine.specs.declared.event.Event.{Event}
use Rattle.m161_machine.specs.declared.event.Event.TheVariants.{Step, Key, Done}
use Rattle.m161_machine.specs.declared.event.Refusal.{Refusal}
use Rattle.m161_machine.specs.declared.event.Refusal.TheVariants as refusals
use Rattle.m161_machine.specs.State.{State, next, refusal, step_result, with_step}
use Rattle.m161_machine.specs.Uses.{MakesStep}
use Rattle.m161_machine.specs.History.{Refuses}
use Rattle.m161_machine.specs.StoreHistory.{StoreState, links_of, live_state, stores_after, stores_of, with_stores, with_stores_of}
use Rattle.m161_machine.proofs.Storing.{next_with_stores}
use Rattle.m161_audit.specs.declared.finding.Finding.TheVariants.{Clean, Stale}
use Rattle.m161_audit.specs.declared.shootdown.Shootdown.{Shootdown}
use Rattle.m161_audit.specs.declared.watch.Watch.{Watch}
use Rattle.m161_audit.specs.Stale.{IsFinding, IsStale, IsStaleAt, UsesStale, after_event, after_events, state_given}
use Rattle.m161_audit.specs.Tracking.{tracked}
use Rattle.m161_audit.specs.Tracking.{IsAt}
use Rattle.m161_audit.specs.helpers.Run.{Finds, IsInput, NoneStale, Passes}

-- One event on a machine's state, and runs of them.

-- a refused event changes nothing, and isn't a stale use

pub refused_next : (s : State) (e : Event) (r : Refusal) → refusal s e ≡ Some r → next s e ≡ Err r
unfolding next
refused_next s e r h = rw h refl

not_both : (r : Result (Outcome × State) Refusal) (e : Refusal) (given : Outcome × State) → r ≡ Err e → r ≡ Ok given → ⊥
not_both r e given h k = let bad : ◌≡◌ {A = Result (Outcome × State) Refusal} (Err e) (Ok given) = sym h ∙ k in cc

refused_after : (s : StoreState) (e : Event) (r : Refusal) → next (live_state s) e ≡ Err r → after_event s e ≡ s
refused_after s e r h = ap (λ x. state_given s (with_stores_of e s x)) h

next_at : (watches : List Watch) (s : StoreState) (core : State) (items : List Shootdown) (e : Event) (r : Result (Outcome × State) Refusal) → IsAt watches s core items → next core e ≡ r → next (live_state s) e ≡ r
next_at watches s core items e r at h = ap (λ (c : State). next c e) (sym at.core_is) ∙ h

pub refused_passes : (watches : List Watch) (s : StoreState) (core new : State) (items after : List Shootdown) (e : Event) (r : Refusal) → IsAt watches s core items → next core e ≡ Err r → new ≡ core → after ≡ items →
    Passes watches s (e ∷ []) new after
refused_passes watches s core new items after e r at h same kept =
    let here = next_at watches s core items e (Err r) at h in (
      ((λ p v stale. not_both (next (live_state s) e) r stale.given here stale.accepted), tt),
      subst (λ (x : StoreState). IsAt watches x new after) (sym (refused_after s e r here))
          (record { core_is = same ∙ at.core_is; items_are = kept ∙ at.items_are; made = at.made }),
    )

-- what didn't change is where it was
pub still_at : (watches : List Watch) (s : StoreState) (core new : State) (items after : List Shootdown) → IsAt watches s core items → (new ≡ core) × (after ≡ items) → IsAt watches s new after
still_at watches s core new items after at same = record { core_is = same.0 ∙ at.core_is; items_are = same.1 ∙ at.items_are; made = at.made }

-- an accepted one leads to the state with its stores

made_after : (watches : List Watch) (s : StoreState) (core new : State) (items after : List Shootdown) (e : Event) (o : Outcome) → IsAt watches s core items → next core e ≡ Ok (o, new) →
    after ≡ tracked watches (stores_of e s) → IsAt watches (after_event s e) new after
made_after watches s core new items after e o at h kept =
    let law = next_with_stores e s o new at.made (next_at watches s core items e (Ok (o, new)) at h) in
    let is : after_event s e ≡ with_stores (stores_of e s) (links_of e s) new = ap (state_given s) law.0 in
    subst (λ (x : StoreState). IsAt watches x new after) (sym is) (record { core_is = sym law.1; items_are = kept; made = law.2 })

step_event : (p q : ℕ) → Step p ≡ Step q → p ≡ q
step_event p q h = cc

-- a Step without a stale use
pub step_passes : (watches : List Watch) (s : StoreState) (core new : State) (items after : List Shootdown) (p : ℕ) (stored : Option ℕ) → IsAt watches s core items → MakesStep core p new →
    stored ≡ (step_result p core).stored → ((v : Via) → UsesStale s watches p v → ⊥) →
    ((ws : List Watch) (stores : List ℕ) → items ≡ tracked ws stores → after ≡ tracked ws (stores_after stored stores)) → Passes watches s (Step p ∷ []) new after
step_passes watches s core new items after p stored at makes is none noted =
    let stored_is : stored ≡ (step_result p (live_state s)).stored = is ∙ ap (λ (c : State). (step_result p c).stored) at.core_is in
    let kept : after ≡ tracked watches (stores_of (Step p) s) = noted watches s.stores at.items_are ∙ ap (λ x. tracked watches (stores_after x s.stores)) stored_is in (
      (
        (λ q v stale.
            let same : p ≡ q = step_event p q stale.event_is in
            none v (subst (λ k. UsesStale s watches k v) (sym same) stale.uses)),
        tt,
      ),
      made_after watches s core new items after (Step p) makes.0 at makes.1 kept,
    )

-- and with one
pub step_is_stale : (watches : List Watch) (s : StoreState) (core : State) (items : List Shootdown) (p : ℕ) (v : Via) → IsAt watches s core items → refusal core (Step p) ≡ None → UsesStale s watches p v → IsStale s watches (Step p) p v
unfolding next
step_is_stale watches s core items p v at h u = record {
  event_is = refl;
  given = ((step_result p core).outcome, with_step p (step_result p core) core);
  accepted = next_at watches s core items (Step p) (Ok ((step_result p core).outcome, with_step p (step_result p core) core)) at (rw h refl);
  uses = u;
}

-- an input of a device

not_step : (e : Event) (p : ℕ) → IsInput e → e ≡ Step p → ⊥
not_step (Step q) p input h = input
not_step (Key byte) p input h = let bad : Key byte ≡ Step p = h in cc
not_step Done p input h = let bad : Done ≡ Step p = h in cc

input_stores : (e : Event) (s : StoreState) → IsInput e → stores_of e s ≡ s.stores
input_stores (Step p) s input = absurd input
input_stores (Key byte) s input = refl
input_stores Done s input = refl

pub input_passes : (watches : List Watch) (s : StoreState) (core new : State) (items : List Shootdown) (e : Event) (o : Outcome) → IsInput e → IsAt watches s core items → next core e ≡ Ok (o, new) → Passes watches s (e ∷ []) new items
input_passes watches s core new items e o input at h = (
  ((λ p v stale. not_step e p input stale.event_is), tt),
  made_after watches s core new items items e o at h (at.items_are ∙ ap (tracked watches) (sym (input_stores e s input))),
)

refused_input : (r : Result (Outcome × State) Refusal) (e : Event) (x : Refusal) → Refuses r e x → x ≢ refusals.NoMemory → (first : Refusal) × (r ≡ Err first)
refused_input (Err first) e x h other = (first, refl)
refused_input (Ok given) e x h other = absurd (other h.0)

pub input_refused : (watches : List Watch) (s : StoreState) (core new : State) (items : List Shootdown) (e : Event) (x : Refusal) → IsAt watches s core items → Refuses (next core e) e x × (new ≡ core) → x ≢ refusals.NoMemory →
    Passes watches s (e ∷ []) new items
input_refused watches s core new items e x at h other =
    let first = refused_input (next core e) e x h.0 other in
    refused_passes watches s core new items items e first.0 at first.1 h.1 refl

-- runs one after the other

after_append : (s : StoreState) (xs ys : List Event) → after_events s (xs ++ ys) ≡ after_events (after_events s xs) ys
after_append s [] ys = refl
after_append s (x ∷ xs) ys = after_append (after_event s x) xs ys

none_append : (watches : List Watch) (s : StoreState) (xs ys : List Event) → NoneStale watches s xs → NoneStale watches (after_events s xs) ys → NoneStale watches s (xs ++ ys)
none_append watches s [] ys none more = more
none_append watches s (x ∷ xs) ys none more = (none.0, none_append watches (after_event s x) xs ys none.1 more)

pub passes_more : (watches : List Watch) (s : StoreState) (xs ys : List Event) (core new : State) (items after : List Shootdown) → Passes watches s xs core items →
    (IsAt watches (after_events s xs) core items → Passes watches (after_events s xs) ys new after) → Passes watches s (xs ++ ys) new after
passes_more watches s xs ys core new items after h go =
    let more = go h.1 in (
      none_append watches s xs ys h.0 more.0,
      subst (λ (x : StoreState). IsAt watches x new after) (sym (after_append s xs ys)) more.1,
    )

pub finds_after : (watches : List Watch) (s : StoreState) (xs ys : List Event) (k p : ℕ) (v : Via) → NoneStale watches s xs → Finds watches (after_events s xs) ys k p v → Finds watches s (xs ++ ys) (length xs + k) p v
finds_after watches s xs ys k p v none f =
    let long : length (xs ++ f.before) ≡ length xs + k = length-append xs f.before ∙ ap (λ n. length xs + n) f.place_is in
    record {
      before = xs ++ f.before;
      event = f.event;
      rest = f.rest;
      events_are = ap (λ l. xs ++ l) f.events_are ∙ sym (append_assoc xs f.before (f.event ∷ f.rest));
      place_is = long;
      none = none_append watches s xs f.before none f.none;
      stale = subst (λ (x : StoreState). IsStale x watches f.event p v) (sym (after_append s xs f.before)) f.stale;
    }

pub finds_first : (watches : List Watch) (s : StoreState) (xs ys : List Event) (k p : ℕ) (v : Via) → Finds watches s xs k p v → Finds watches s (xs ++ ys) k p v
finds_first watches s xs ys k p v f = record {
  before = f.before;
  event = f.event;
  rest = f.rest ++ ys;
  events_are = ap (λ l. l ++ ys) f.events_are ∙ append_assoc f.before (f.event ∷ f.rest) ys;
  place_is = f.place_is;
  none = f.none;
  stale = f.stale;
}

-- one event of a list

pub passes_next : (watches : List Watch) (s : StoreState) (events : List Event) (k : ℕ) (d : Event) (core new : State) (items after : List Shootdown) → k < length events →
    Passes watches s (take k events) core items →
    (IsAt watches (after_events s (take k events)) core items → Passes watches (after_events s (take k events)) (get_or events k d ∷ []) new after) →
    Passes watches s (take (k + 1) events) new after
passes_next watches s events k d core new items after below h go =
    subst (λ es. Passes watches s es new after) (sym (take_more events k d below))
    (passes_more watches s (take k events) (get_or events k d ∷ []) core new items after h go)

pub finds_next : (watches : List Watch) (s : StoreState) (events : List Event) (k p : ℕ) (d : Event) (v : Via) → k < length events → NoneStale watches s (take k events) →
    IsStale (after_events s (take k events)) watches (get_or events k d) p v → Finds watches s events k p v
finds_next watches s events k p d v below none stale = record {
  before = take k events;
  event = get_or events k d;
  rest = drop (suc k) events;
  events_are = sym (take-append-drop k events) ∙ ap (λ l. take k events ++ l) (drop-cons events k d below);
  place_is = length-take-le k events (omega (arith, below));
  none = none;
  stale = stale;
}

-- one event so many times

pub passes_again : (watches : List Watch) (s : StoreState) (e : Event) (n : ℕ) (core new : State) (items after : List Shootdown) → Passes watches s (replicate n e) core items →
    (IsAt watches (after_events s (replicate n e)) core items → Passes watches (after_events s (replicate n e)) (e ∷ []) new after) → Passes watches s (replicate (n + 1) e) new after
passes_again watches s e n core new items after h go =
    subst (λ es. Passes watches s es new after) (replicate-append-replicate n 1 e) (passes_more watches s (replicate n e) (e ∷ []) core new items after h go)

pub finds_again : (watches : List Watch) (s : StoreState) (e : Event) (n times p : ℕ) (v : Via) → n < times → NoneStale watches s (replicate n e) → IsStale (after_events s (replicate n e)) watches e p v →
    Finds watches s (replicate times e) n p v
finds_again watches s e n times p v below none stale =
    let rest = times - (n + 1) in
    let all : n + suc rest ≡ times = omega (arith, below) in
    record {
      before = replicate n e;
      event = e;
      rest = replicate rest e;
      events_are = sym (replicate-append-replicate n (suc rest) e ∙ ap (λ k. replicate k e) all);
      place_is = length-replicate n e;
      none = none;
      stale = stale;
    }

-- the finding

none_at : (watches : List Watch) (s : StoreState) (xs ys : List Event) → NoneStale watches s xs → (k : ℕ) → k < length xs → (p : ℕ) (v : Via) → IsStaleAt s (xs ++ ys) watches k p v → ⊥
none_at watches s [] ys none k less p v at = omega (arith, less)
none_at watches s (x ∷ xs) ys none zero less p v at =
    let same : at.0 ≡ x = let e : ◌≡◌ {A = Option Event} (Some x) (Some at.0) = at.1 in cc in
    none.0 p v (subst (λ e. IsStale s watches e p v) same at.2)
none_at watches s (x ∷ xs) ys none (suc k) less p v at =
    none_at watches (after_event s x) xs ys none.1 k (omega (arith, less)) p v (at.0, at.1, at.2)

stale_at : (watches : List Watch) (s : StoreState) (xs : List Event) (e : Event) (ys : List Event) (p : ℕ) (v : Via) → IsStale (after_events s xs) watches e p v → IsStaleAt s (xs ++ e ∷ ys) watches (length xs) p v
stale_at watches s [] e ys p v stale = (e, refl, stale)
stale_at watches s (x ∷ xs) e ys p v stale =
    let rest = stale_at watches (after_event s x) xs e ys p v stale in
    (rest.0, rest.1, rest.2)

pub clean : (watches : List Watch) (s : StoreState) (events : List Event) → NoneStale watches s events → IsFinding s events watches Clean
clean watches s events none k less p v at =
    none_at watches s events [] none k less p v (subst (λ es. IsStaleAt s es watches k p v) (sym (append-nil events)) at)

pub found : (watches : List Watch) (s : StoreState) (events : List Event) (k p : ℕ) (v : Via) (row : ℕ) → Finds watches s events k p v → row ≡ v.row → IsFinding s events watches (Stale k p v.address row)
found watches s events k p v row f row_is =
    let there : IsStaleAt s (f.before ++ f.event ∷ f.rest) watches (length f.before) p v = stale_at watches s f.before f.event f.rest p v f.stale in (
      λ j less q u at. none_at watches s f.before (f.event ∷ f.rest) f.none j (omega (arith, less, f.place_is)) q u (subst (λ es. IsStaleAt s es watches j q u) f.events_are at),
      (v, refl, sym row_is, subst (λ n. IsStaleAt s events watches n p v) f.place_is (subst (λ es. IsStaleAt s es watches (length f.before) p v) (sym f.events_are) there)),
    )
