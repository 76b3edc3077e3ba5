use Rattle.std.proofs.Common.{◌≡◌, ◌∙◌, refl, ap, sym, subst, ℕ, ◌+◌, ◌<◌, Bool, true, false, not, List, length, ◌⊎◌, inl, inr}
use Rattle.std.specs.Prelude.{Option, None, Some, ◌&&◌, ◌||◌, nat_lt, if◌then◌else◌, is_some}
use Rattle.m161_machine.specs.Resting.{rests}
use Rattle.m161_machine.specs.declared.event.Event.{Event}
use Rattle.m161_machine.specs.declared.event.Event.TheVariants.{Step, Key, Done}
use Rattle.m161_machine.specs.State.{State}
use Rattle.m161_order.specs.Delays.{behind}
use Rattle.m161_drive.specs.declared.cursor.Cursor.{Cursor}
use Rattle.m161_drive.specs.declared.orders.OrderState.TheVariants.{InTurns, ByDelays}
use Rattle.m161_drive.specs.declared.turns.Turns.{Turns}
use Rattle.m161_drive.specs.Choice.{chosen_with, gap_is_over, next_step, ordered, tick, transfer_ends, type_key, wants_key}
use Rattle.m161_drive.specs.Delayed.{passed, turned}
use Rattle.m161_drive.specs.Orders.{begun, by_turns, delayed, goes_on}
use Rattle.m161_drive.specs.Policy.{Rules}
use Rattle.m161_drive.specs.Ready.{is_ready, is_ticking, next_behind, some_ready}
use Rattle.m161_drive.proofs.Fitting.{and_first, order_ready}
use Rattle.m161_drive.proofs.Sleeping.{less_in}
use Rattle.m161_places.specs.Laws.{with_delays}
use Rattle.m161_delays.specs.Lists.{times}
use Rattle.m161_places.specs.Places.{is_place, is_step}
use Rattle.m161_places.proofs.Ranges.{any_here, found_ready}

-- A choice by turns with delays: what it is whatever delays are left.

-- the delays have no part in it
pub record Aside (choice : List ℕ → Option Event × Cursor) (s : State) : Type 0 where
  pub event : Option Event
  pub turns : Turns
  pub cursor : Cursor
  pub chosen : (left : List ℕ) → choice left ≡ (event, with_delays turns left cursor)
  pub elsewhere : is_place event s ≡ false

-- from processor p on as many ready ones are passed over as delays come
abbrev pub passing : ℕ → Turns → Cursor → State → List ℕ → Option Event × Cursor
passing p turns c s left =
    let q = passed (times 0 left) p s in
    (Some (Step q), with_delays (turned p q turns) (behind 1 left) (record c { last = Some q }))

pub record Passing (choice : List ℕ → Option Event × Cursor) (c : Cursor) (s : State) : Type 0 where
  pub processor : ℕ
  pub turns : Turns
  pub is_there : processor < length s.processors
  pub is_ready_there : is_ready s processor ≡ true
  pub some : some_ready s ≡ true
  pub chosen : (left : List ℕ) → choice left ≡ passing processor turns c s left

abbrev pub Splits : (List ℕ → Option Event × Cursor) → Cursor → State → Type 0
Splits choice c s = Aside choice s ⊎ Passing choice c s

nowhere : (b : Bool) (e : Option Event) → b ≡ false → (is_step e && b) ≡ false
nowhere b None h = refl
nowhere b (Some (Step p)) h = h
nowhere b (Some (Key byte)) h = refl
nowhere b (Some Done) h = refl

-- no processor is ready
ticks_aside : (o : Option ℕ) (turns : Turns) (c : Cursor) (s : State) → some_ready s ≡ false →
    Aside (λ left. tick o (with_delays turns left c)) s
ticks_aside None turns c s none = record {
  event = None;
  turns = turns;
  cursor = c;
  chosen = λ left. refl;
  elsewhere = refl;
}
ticks_aside (Some p) turns c s none = record {
  event = Some (Step p);
  turns = record turns { made = 0 };
  cursor = record c { last = Some p };
  chosen = λ left. refl;
  elsewhere = none;
}

begun_none : (o : Option ℕ) (t : Turns) → (begun o t).0 ≡ None → o ≡ None
begun_none None t h = refl
begun_none (Some p) t h = let bad : ◌≡◌ {A = Option ℕ} (Some p) None = h in absurd cc

turns_none : (b : Bool) (last : Option ℕ) (t : Turns) (o : Option ℕ) (s : State) → goes_on t last s ≡ b →
    (if b then (last, record t { made = t.made + 1 }) else begun o t).0 ≡ None → o ≡ None
turns_none true None t o s g h = let bad : false ≡ true = g in absurd cc
turns_none true (Some p) t o s g h = let bad : ◌≡◌ {A = Option ℕ} (Some p) None = h in absurd cc
turns_none false last t o s g h = begun_none o t h

none_ready : (t : Turns) (last : Option ℕ) (s : State) → (by_turns t last s).0 ≡ None → some_ready s ≡ false
none_ready t last s h =
    found_ready last s ∙ ap is_some (turns_none (goes_on t last s) last t (next_behind (is_ready s) last s) s refl h)

found_some : (o : Option ℕ) (p : ℕ) → o ≡ Some p → is_some o ≡ true
found_some o p h = ap is_some h

-- what the order chooses
stepping : (o : Option ℕ) (u t : Turns) (c : Cursor) (s : State) → (by_turns t c.last s).0 ≡ o →
    Splits (λ left. ordered (delayed o u (record { turns = t; left = left }) s).0 (ByDelays (delayed o u (record { turns = t; left = left }) s).1)
    (with_delays t left c) s) c s
stepping None u t c s h = inl (ticks_aside (next_behind (is_ticking s) c.last s) t c s (none_ready t c.last s h))
stepping (Some p) u t c s h =
    let ready_there : is_ready s p ≡ true = order_ready (InTurns t) c.last s p h in
    let here = less_in p (length s.processors) (and_first (nat_lt p (length s.processors)) (not (rests p s)) ready_there) in
    inr (record {
      processor = p;
      turns = u;
      is_there = here;
      is_ready_there = ready_there;
      some = any_here (is_ready s) p (length s.processors) here ready_there;
      chosen = λ left. refl;
    })

steps_split : (t : Turns) (c : Cursor) (s : State) → Splits (λ left. next_step (with_delays t left c) s) c s
steps_split t c s = stepping (by_turns t c.last s).0 (by_turns t c.last s).1 t c s refl

keys_split : (key : Option ℕ) (t : Turns) (c : Cursor) (s : State) → Splits (λ left. type_key key (with_delays t left c) s) c s
keys_split None t c s = steps_split t c s
keys_split (Some byte) t c s = inl (record {
  event = Some (Key byte);
  turns = t;
  cursor = record c { typed = c.typed + 1 };
  chosen = λ left. refl;
  elsewhere = refl;
})

if_splits : (ends wants : Bool) (key : Option ℕ) (t : Turns) (c : Cursor) (s : State) →
    Splits (λ left. if ends then (Some Done, with_delays t left c) else if wants then type_key key (with_delays t left c) s else next_step (with_delays t left c) s) c s
if_splits true wants key t c s = inl (record {
  event = Some Done;
  turns = t;
  cursor = c;
  chosen = λ left. refl;
  elsewhere = refl;
})
if_splits false true key t c s = keys_split key t c s
if_splits false false key t c s = steps_split t c s

-- whether a key is typed doesn't depend on the delays
gap_same : (gap : Option ℕ) (t : Turns) (left : List ℕ) (c : Cursor) (s : State) → gap_is_over gap (with_delays t left c) s ≡ gap_is_over gap c s
gap_same None t left c s = refl
gap_same (Some gap) t left c s = refl

pub wants_same : (rules : Rules) (t : Turns) (left : List ℕ) (c : Cursor) (s : State) → wants_key rules (with_delays t left c) s ≡ wants_key rules c s
wants_same rules t left c s =
    ap (λ over. not (transfer_ends rules c s) && (nat_lt (length s.board.console.waiting) 256 && (over || not (some_ready s))))
    (gap_same rules.gap t left c s)

pub splits : (rules : Rules) (key : Option ℕ) (t : Turns) (c : Cursor) (s : State) →
    Splits (λ left. chosen_with rules key (with_delays t left c) s) c s
unfolding chosen_with
splits rules key t c s =
    subst (λ (wants : List ℕ → Bool). Splits (λ left. if transfer_ends rules c s then (Some Done, with_delays t left c)
    else if wants left then type_key key (with_delays t left c) s else next_step (with_delays t left c) s) c s)
    (λ i left. sym (wants_same rules t left c s) i)
    (if_splits (transfer_ends rules c s) (wants_key rules c s) key t c s)
