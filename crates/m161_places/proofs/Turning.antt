use Rattle.std.proofs.Common.{◌≡◌, ◌∙◌, refl, ap, sym, subst, ℕ, ◌+◌, Bool, true, false, not, [], ◌∷◌, length}
use Rattle.std.specs.Prelude.{Option, None, Some, if◌then◌else◌, ◌&&◌, ◌||◌, nat_lt}
use Rattle.m161_machine.specs.Resting.{rests}
use Rattle.m161_machine.specs.declared.event.Event.{Event}
use Rattle.m161_machine.specs.declared.event.Event.TheVariants.{Step, Key, Done}
use Rattle.m161_machine.specs.State.{State}
use Rattle.m161_drive.specs.declared.cursor.Cursor.{Cursor}
use Rattle.m161_drive.specs.declared.orders.OrderState.TheVariants.{InTurns, ByDelays}
use Rattle.m161_drive.specs.declared.turns.Turns.{Turns}
use Rattle.m161_drive.specs.Choice.{chosen_with, gap_is_over, next_step, ordered, taken, tick, transfer_ends, type_key, wants_key}
use Rattle.m161_drive.specs.Delayed.{passed, turned}
use Rattle.m161_drive.specs.Drive.{Chooses}
use Rattle.m161_drive.specs.Orders.{begun, by_turns, delayed, goes_on}
use Rattle.m161_drive.specs.Policy.{Rules}
use Rattle.m161_drive.specs.Ready.{is_ready, is_ticking, next_behind, some_ready}
use Rattle.m161_drive.proofs.Fitting.{and_first, order_ready}
use Rattle.m161_drive.proofs.Passing.{passed_none, turned_same}
use Rattle.m161_drive.proofs.Sleeping.{less_in}
use Rattle.m161_places.specs.Laws.{IsByTurns, with_delays}
use Rattle.m161_places.proofs.Splitting.{wants_same}

-- Without delays the order is that of turns.

abbrev in_turns : Turns → Cursor → Cursor
in_turns turns c = record c { order = InTurns turns }

-- both choose the same event, and go on alike
record Both (of_turns of_delays : Option Event × Cursor) : Type 0 where
  pub event : Option Event
  pub turns : Turns
  pub cursor : Cursor
  pub by_turns_is : of_turns ≡ (event, in_turns turns cursor)
  pub by_delays_is : of_delays ≡ (event, with_delays turns [] cursor)

both_tick : (o : Option ℕ) (t : Turns) (c : Cursor) → Both (tick o (in_turns t c)) (tick o (with_delays t [] c))
both_tick None t c = record { event = None; turns = t; cursor = c; by_turns_is = refl; by_delays_is = refl }
both_tick (Some p) t c = record {
  event = Some (Step p);
  turns = record t { made = 0 };
  cursor = record c { last = Some p };
  by_turns_is = refl;
  by_delays_is = refl;
}

begun_kept : (o : Option ℕ) (t : Turns) → (begun o t).0 ≡ None → (begun o t).1 ≡ t
begun_kept None t h = refl
begun_kept (Some p) t h = let bad : ◌≡◌ {A = Option ℕ} (Some p) None = h in absurd cc

turns_kept : (b : Bool) (last : Option ℕ) (t : Turns) (o : Option ℕ) (s : State) → goes_on t last s ≡ b →
    (if b then (last, record t { made = t.made + 1 }) else begun o t).0 ≡ None →
    (if b then (last, record t { made = t.made + 1 }) else begun o t).1 ≡ t
turns_kept true None t o s g h = let bad : false ≡ true = g in absurd cc
turns_kept true (Some p) t o s g h = let bad : ◌≡◌ {A = Option ℕ} (Some p) None = h in absurd cc
turns_kept false last t o s g h = begun_kept o t h

both_order : (o : Option ℕ) (u t : Turns) (c : Cursor) (s : State) → (by_turns t c.last s).0 ≡ o → (by_turns t c.last s).1 ≡ u →
    Both (ordered o (InTurns u) (in_turns t c) s)
    (ordered (delayed o u (record { turns = t; left = [] }) s).0 (ByDelays (delayed o u (record { turns = t; left = [] }) s).1) (with_delays t [] c) s)
both_order None u t c s h k =
    let kept : t ≡ u = sym (turns_kept (goes_on t c.last s) c.last t (next_behind (is_ready s) c.last s) s refl h) ∙ k in
    subst (λ x. Both (tick (next_behind (is_ticking s) c.last s) (in_turns x c)) (tick (next_behind (is_ticking s) c.last s) (with_delays t [] c))) kept
    (both_tick (next_behind (is_ticking s) c.last s) t c)
both_order (Some p) u t c s h k =
    let ready_there : is_ready s p ≡ true = order_ready (InTurns t) c.last s p h in
    let here = less_in p (length s.processors) (and_first (nat_lt p (length s.processors)) (not (rests p s)) ready_there) in
    let same : passed 0 p s ≡ p = passed_none p s ready_there here in
    record {
      event = Some (Step p);
      turns = u;
      cursor = record c { last = Some p };
      by_turns_is = refl;
      by_delays_is =
          (λ i. (Some (Step (same i)), with_delays (turned p (same i) u) [] (record c { last = Some (same i) })))
          ∙ ap (λ x. (Some (Step p), with_delays x [] (record c { last = Some p }))) (turned_same p p u refl);
    }

both_steps : (t : Turns) (c : Cursor) (s : State) → Both (next_step (in_turns t c) s) (next_step (with_delays t [] c) s)
both_steps t c s = both_order (by_turns t c.last s).0 (by_turns t c.last s).1 t c s refl refl

both_keys : (key : Option ℕ) (t : Turns) (c : Cursor) (s : State) → Both (type_key key (in_turns t c) s) (type_key key (with_delays t [] c) s)
both_keys None t c s = both_steps t c s
both_keys (Some byte) t c s = record {
  event = Some (Key byte);
  turns = t;
  cursor = record c { typed = c.typed + 1 };
  by_turns_is = refl;
  by_delays_is = refl;
}

both_if : (ends wants : Bool) (key : Option ℕ) (t : Turns) (c : Cursor) (s : State) →
    Both (if ends then (Some Done, in_turns t c) else if wants then type_key key (in_turns t c) s else next_step (in_turns t c) s)
    (if ends then (Some Done, with_delays t [] c) else if wants then type_key key (with_delays t [] c) s else next_step (with_delays t [] c) s)
both_if true wants key t c s = record { event = Some Done; turns = t; cursor = c; by_turns_is = refl; by_delays_is = refl }
both_if false true key t c s = both_keys key t c s
both_if false false key t c s = both_steps t c s

gap_turns : (gap : Option ℕ) (t : Turns) (c : Cursor) (s : State) → gap_is_over gap c s ≡ gap_is_over gap (in_turns t c) s
gap_turns None t c s = refl
gap_turns (Some gap) t c s = refl

wants_turns : (rules : Rules) (t : Turns) (c : Cursor) (s : State) → wants_key rules c s ≡ wants_key rules (in_turns t c) s
wants_turns rules t c s =
    ap (λ over. not (transfer_ends rules c s) && (nat_lt (length s.board.console.waiting) 256 && (over || not (some_ready s))))
    (gap_turns rules.gap t c s)

both_choose : (rules : Rules) (key : Option ℕ) (t : Turns) (c : Cursor) (s : State) →
    Both (chosen_with rules key (in_turns t c) s) (chosen_with rules key (with_delays t [] c) s)
unfolding chosen_with
both_choose rules key t c s =
    subst (λ wants. Both (if transfer_ends rules c s then (Some Done, in_turns t c) else if wants then type_key key (in_turns t c) s else next_step (in_turns t c) s)
    (if transfer_ends rules c s then (Some Done, with_delays t [] c)
    else if wants_key rules (with_delays t [] c) s then type_key key (with_delays t [] c) s else next_step (with_delays t [] c) s))
    (wants_turns rules t c s)
    (subst (λ wants. Both (if transfer_ends rules c s then (Some Done, in_turns t c) else if wants_key rules c s then type_key key (in_turns t c) s else next_step (in_turns t c) s)
    (if transfer_ends rules c s then (Some Done, with_delays t [] c) else if wants then type_key key (with_delays t [] c) s else next_step (with_delays t [] c) s))
    (sym (wants_same rules t [] c s))
    (both_if (transfer_ends rules c s) (wants_key rules c s) key t c s))

pub is_by_turns : (rules : Rules) (keys : ℕ → Option ℕ) (turns : Turns) (c : Cursor) (s : State) → IsByTurns rules keys turns c s
is_by_turns rules keys turns c s [] d t h = (turns, c, h.0, (refl, h.1))
is_by_turns rules keys turns c s (e ∷ es) d t h =
    let both = both_choose rules (keys c.typed) turns c s in
    let goes = h.2 in
    let of_turns : ◌≡◌ {A = Option Event} both.event (Some e.event) =
    sym (ap (λ (x : Option Event × Cursor). x.0) both.by_turns_is) ∙ goes.choice_is in
    let cursor : h.0 ≡ in_turns both.turns (taken e.event h.1 both.cursor) = goes.cursor_is ∙ ap (λ (x : Option Event × Cursor). taken e.event h.1 x.1) both.by_turns_is in
    let rest = is_by_turns rules keys both.turns (taken e.event h.1 both.cursor) h.1 es d t (subst (λ x. Chooses rules keys x h.1 es d t) cursor h.3) in (
      rest.0,
      rest.1,
      rest.2,
      (
        with_delays both.turns [] (taken e.event h.1 both.cursor),
        h.1,
        record {
          is_on = goes.is_on;
          choice_is = ap (λ (x : Option Event × Cursor). x.0) both.by_delays_is ∙ of_turns;
          accepted = goes.accepted;
          cursor_is = sym (ap (λ (x : Option Event × Cursor). taken e.event h.1 x.1) both.by_delays_is);
        },
        rest.3,
      ),
    )
