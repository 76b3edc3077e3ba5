use Rattle.std.proofs.Common.{◌≡◌, ◌≢◌, ◌⊎◌, inl, inr, ◌∙◌, refl, sym, ap, subst, ℕ, ◌<◌, ◌≤◌, Bool, true, false, [], ◌∷◌, length, get_or, set, Option, None, Some, Result, Ok, Err, arith}
use Rattle.std.specs.Prelude.{IfOk, not, nat_lt, ◌&&◌, ◌==◌, if◌then◌else◌, unwrap_or}
use Rattle.std.proofs.lemmas.Bool.Decides.{nat_tests}
use Rattle.std.proofs.lemmas.List.{length-set}
use Rattle.m161_cop0.specs.Control.{is_pending}
use Rattle.m161_bus.specs.Board.{BoardState}
use Rattle.m161_cpu.specs.declared.processor.Outcome.{Outcome}
use Rattle.m161_cpu.specs.declared.processor.Outcome.TheVariants as outcomes
use Rattle.m161_cpu.specs.declared.processor.ProcessorState.{ProcessorState}
use Rattle.m161_cpu.specs.declared.processor.ProcessorState.TheVariants.{Stopped, Running, Waiting}
use Rattle.m161_cpu.specs.Processor.{Processor, stopped_processor, with_state}
use Rattle.m161_cpu.specs.Links.{End, Keep, LinkAct, LinkState, LinkTo, links_after}
use Rattle.m161_cpu.specs.Scene.{Change, Scene, around, scene}
use Rattle.m161_cpu.specs.Step.{Stepped, change_of_step, conflict_of, count_step, idle, lines_in, outcome_after, running_step, step_by_conflict, step_by_state, step_of, step_of_result, tick, with_processor}
use Rattle.m161_cpu.proofs.Laws.{step_links}
use Rattle.m161_machine.specs.declared.event.Conflict.{Conflict}
use Rattle.m161_machine.specs.State.{State, conflict_after, processor_at, step_result, with_step}
use Rattle.m161_trace.specs.Items.{conflict, items, linked, off, outcome_items, starts, unlinked}
use Rattle.m161_trace.specs.Law.{Has, ItemsTell, StopsAt, Tells, Without, link_of}
use Rattle.m161_trace.proofs.Links.{other_link, other_stays, own_stays}
use Rattle.m161_trace.proofs.Moved.{Moves, moves}
use Rattle.m161_trace.proofs.Near.{accepted, is_far_at, kept_rows, near_instruction, none_written, rows_after, stored_is}
use Rattle.m161_trace.proofs.NearEffects.{NearChange}
use Rattle.m161_trace.proofs.Shown.{every_true}
use Rattle.m161_trace.proofs.Started.{as_many, is_new, other_kept, other_past, other_started}
use Rattle.m161_trace.proofs.Telling.{control_stays, has_linked, has_start, has_unlinked, hi_stays, in_outcome, latch_stays, lo_stays, ram_stays, register_stays, row_stays, state_stays, waiting_stays, word_stays}

-- The items of a Step tell what it changed.

-- A Step's outcome says whether it switched the machine off.

-- a conflict switches it off, starts no processor, and keeps the rows
record Stops (s : Scene) (x : Stepped) : Type 0 where
  off : x.after.around.board.off ≡ true
  started : x.after.around.board.started ≡ s.around.board.started
  rows : x.after.processor.rows ≡ s.processor.rows

record Powers (s : Scene) (x : Stepped) : Type 0 where
  on : s.around.board.off ≡ false → (x.outcome ≡ outcomes.PoweredOff → ⊥) → ((i j : ℕ) → x.outcome ≡ outcomes.Conflict i j → ⊥) → x.after.around.board.off ≡ s.around.board.off
  off : x.outcome ≡ outcomes.PoweredOff → x.after.around.board.off ≡ true
  conflict : (i j : ℕ) → x.outcome ≡ outcomes.Conflict i j → Stops s x

on_by : (before after : Bool) → before ≡ false → (outcome_after None (after && not before) ≡ outcomes.PoweredOff → ⊥) → after ≡ before
on_by true after on h = absurd (let bad : true ≡ false = on in cc)
on_by false true on h = absurd (h refl)
on_by false false on h = refl

off_by : (before after : Bool) → outcome_after None (after && not before) ≡ outcomes.PoweredOff → after ≡ true
off_by before true h = refl
off_by before false h = absurd (let bad : outcomes.Ran ≡ outcomes.PoweredOff = h in cc)

no_conflict : (off : Bool) (i j : ℕ) → outcome_after None off ≡ outcomes.Conflict i j → ⊥
no_conflict true i j h = absurd (let bad : outcomes.PoweredOff ≡ outcomes.Conflict i j = h in cc)
no_conflict false i j h = absurd (let bad : outcomes.Ran ≡ outcomes.Conflict i j = h in cc)

-- a change with a conflict has a row, and so leaves the board
board_left : (s : Scene) (c : Change) (rows : ℕ × ℕ) → (c.row ≡ None) ⊎ (c.board ≡ None) → conflict_of s c ≡ Some rows → c.board ≡ None
board_left s c rows (inl none) is =
    absurd (let bad : ◌≡◌ {A = Option (ℕ × ℕ)} (Some rows) None = sym is ∙ none_written s.around.strict s.processor.rows c.row none in cc)
board_left s c rows (inr none) is = none

of_change : (s : Scene) (c : Change) (found : Option (ℕ × ℕ)) → (c.row ≡ None) ⊎ (c.board ≡ None) → conflict_of s c ≡ found → Powers s (step_by_conflict found s c)
of_change s c None apart is = record {
  on = λ on h none. on_by s.around.board.off (unwrap_or c.board s.around.board).off on h;
  off = λ h. off_by s.around.board.off (unwrap_or c.board s.around.board).off h;
  conflict = λ i j h. absurd (no_conflict _ i j h);
}
of_change s c (Some rows) apart is = record {
  on = λ on h none. absurd (none rows.0 rows.1 refl);
  off = λ h. refl;
  conflict = λ i j h. record {
    off = refl;
    started = ap (λ (o : Option BoardState). (unwrap_or o s.around.board).started) (board_left s c rows apart is);
    rows = kept_rows (record c { row = None }) s.processor refl;
  };
}

still : (s : Scene) (x : Stepped) → x.after.around.board ≡ s.around.board → (x.outcome ≡ outcomes.PoweredOff → ⊥) → ((i j : ℕ) → x.outcome ≡ outcomes.Conflict i j → ⊥) → Powers s x
still s x board no_off no_conflict = record {
  on = λ on h none. ap (λ (b : BoardState). b.off) board;
  off = λ h. absurd (no_off h);
  conflict = λ i j h. absurd (no_conflict i j h);
}

of_result : (far : Bool) (s : Scene) (r : Result Change _) → IfOk r (NearChange far) → Powers s (step_of_result s r)
of_result far s (Ok c) f = of_change s c (conflict_of s c) f.apart refl
of_result far s (Err e) f = still s (step_of_result s (Err e)) refl (λ h. absurd (cc)) (λ i j h. absurd (cc))

of_running : (s : Scene) → Powers s (running_step s)
of_running s = of_result (is_far_at s) s (change_of_step s) (near_instruction s)

of_idle : (f : Processor → Processor) (s : Scene) → Powers s (idle f s)
of_idle f s = still s (idle f s) refl (λ h. absurd (cc)) (λ i j h. absurd (cc))

awake : (s : Scene) (x : Stepped) → Powers (with_processor (with_state Running) s) x → Powers s x
awake s x p = record {
  on = p.on;
  off = p.off;
  conflict = λ i j h. let stops = p.conflict i j h in record { off = stops.off; started = stops.started; rows = stops.rows };
}

of_waiting : (s : Scene) (pending : Bool) → Powers s (if pending then running_step (with_processor (with_state Running) s) else idle tick s)
of_waiting s true = awake s _ (of_running (with_processor (with_state Running) s))
of_waiting s false = of_idle tick s

of_state : (state : ProcessorState) (s : Scene) → Powers s (step_by_state state s)
of_state Stopped s = of_idle count_step s
of_state Running s = of_running s
of_state Waiting s = of_waiting s (is_pending (lines_in s) s.processor.control)

powers : (s : Scene) → Powers s (step_of s)
unfolding step_of
powers s = of_state s.processor.state s

result_powers : (p : ℕ) (s : State) → Powers (scene (processor_at p s.processors) (around p s.memory s.board s.links s.conf.strict)) (step_result p s)
unfolding step_result
result_powers p s = powers (scene (processor_at p s.processors) (around p s.memory s.board s.links s.conf.strict))

result_links : (p : ℕ) (s : State) → (step_result p s).after.around.links ≡ links_after p (step_result p s).link (step_result p s).stored s.links
unfolding step_result
result_links p s = step_links (scene (processor_at p s.processors) (around p s.memory s.board s.links s.conf.strict))

result_moves : (p : ℕ) (s : State) → Moves (scene (processor_at p s.processors) (around p s.memory s.board s.links s.conf.strict)) (step_result p s)
unfolding step_result
result_moves p s = moves (scene (processor_at p s.processors) (around p s.memory s.board s.links s.conf.strict))

same_unit : (p : ℕ) (act : LinkAct) (stored : Option ℕ) (links : LinkState) → (links_after p act stored links).unit ≡ links.unit
same_unit p Keep None links = refl
same_unit p (LinkTo at) None links = refl
same_unit p End None links = refl
same_unit p Keep (Some word) links = refl
same_unit p (LinkTo at) (Some word) links = refl
same_unit p End (Some word) links = refl

abbrev after : ℕ → State → State
after p s = with_step p (step_result p s) s

-- links

link_by : (t : Bool) (p q : ℕ) (s : State) → (q == p) ≡ t → q < length s.processors → (q ≡ p → Without linked (items p s (step_result p s).outcome (after p s))) →
    (Has (unlinked q) (items p s (step_result p s).outcome (after p s)) → ⊥) → link_of q (after p s) ≡ link_of q s
link_by true p q s is lt no_link no_end =
    let same : q ≡ p = grind (arith, nat_tests, is) in
    let there : p < length s.processors = subst (λ n. n < length s.processors) same lt in
    let P : ℕ → Type 0 = λ n. (Has (unlinked n) (items p s (step_result p s).outcome (after p s)) → ⊥) in
    let none : Has (unlinked p) (items p s (step_result p s).outcome (after p s)) → ⊥ = subst P same no_end in
    subst (λ n. link_of n (after p s) ≡ link_of n s) (sym same)
    (own_stays p (link_of p s) (link_of p (after p s))
    (λ word h. no_link same word (has_linked p s (step_result p s).outcome (after p s) _ h))
    (λ h. none (has_unlinked p s (step_result p s).outcome (after p s) p _ there h)))
link_by false p q s is lt no_link no_end =
    let ne : q ≢ p = grind (arith, nat_tests, is) in
    let E = ap (λ (links : LinkState). get_or links.live q None) (result_links p s) in
    other_stays q (link_of q s) (link_of q (after p s))
    (subst (λ y. (y ≡ link_of q s) ⊎ (y ≡ None)) (sym E) (other_link p (step_result p s).link (step_result p s).stored s.links q ne))
    (λ h. no_end (has_unlinked p s (step_result p s).outcome (after p s) q _ lt h))

-- whether the board is off

off_item : (x : Outcome) → x ≡ outcomes.PoweredOff → Has off (outcome_items x)
off_item x is = subst (λ y. Has off (outcome_items y)) (sym is) (inl refl)

-- a conflict

conflict_item : (x : Outcome) (i j : ℕ) → x ≡ outcomes.Conflict i j → Has (conflict i j) (outcome_items x)
conflict_item x i j is = subst (λ y. Has (conflict i j) (outcome_items y)) (sym is) (inl refl)

conflict_kept : (p : ℕ) (x : Outcome) (before : Option Conflict) → ((i j : ℕ) → x ≡ outcomes.Conflict i j → ⊥) → conflict_after p x before ≡ before
conflict_kept p outcomes.Ran before none = refl
conflict_kept p (outcomes.Trapped code vector) before none = refl
conflict_kept p outcomes.Idle before none = refl
conflict_kept p outcomes.PoweredOff before none = refl
conflict_kept p (outcomes.Conflict i j) before none = absurd (none i j refl)
conflict_kept p outcomes.Taken before none = refl

stops_at : (p : ℕ) (s : State) (i j : ℕ) → p < length s.processors → (step_result p s).outcome ≡ outcomes.Conflict i j → StopsAt p i j s (after p s)
stops_at p s i j place is =
    let f = (result_powers p s).conflict i j is in
    record {
      conflict_is = ap (λ x. conflict_after p x s.conflict) is;
      off = f.off;
      rows = rows_after p s (step_result p s) place f.started f.rows;
    }

-- the other processors

start_by : (t : Bool) (q : ℕ) → (Has (starts q) (if t then starts q ∷ [] else []) → ⊥) → t ≡ false
start_by true q none = absurd (none (inl refl))
start_by false q none = refl

other_by : (t : Bool) (p q : ℕ) (s : State) → nat_lt q (length s.processors) ≡ t → q ≢ p →
    (Has (starts q) (items p s (step_result p s).outcome (after p s)) → ⊥) → processor_at q (after p s).processors ≡ processor_at q s.processors
other_by true p q s is ne none =
    let lt : q < length s.processors = grind (arith, nat_tests, is) in
    other_kept s.board.started (after p s).board s.processors p q (step_result p s).after.processor stopped_processor ne lt
    (start_by (is_new s.board.started (after p s).board.started q) q (λ h. none (has_start p s (step_result p s).outcome (after p s) q _ lt h)))
other_by false p q s is ne none =
    let le : length s.processors ≤ q = grind (arith, nat_tests, is) in
    other_past s.board.started (after p s).board s.processors p q (step_result p s).after.processor stopped_processor le

tells_after : (p : ℕ) (s : State) → p < length s.processors → s.board.off ≡ false → Tells p s (step_result p s).outcome (after p s) (items p s (step_result p s).outcome (after p s))
tells_after p s place on =
    let o : Outcome = (step_result p s).outcome in
    let t : State = after p s in
    let f = result_powers p s in
    let m = result_moves p s in
    record {
      true_of = every_true p s o t (record {
        off = f.off;
        waiting = m.console.waiting;
        conflict = λ i j is. stops_at p s i j place is;
        starts = λ q lt new ne. other_started s.board.started t.board s.processors p q (step_result p s).after.processor stopped_processor ne lt new;
      });
      state_stays = state_stays p s o t;
      register_stays = register_stays p s o t;
      hi_stays = hi_stays p s o t;
      lo_stays = lo_stays p s o t;
      control_stays = control_stays p s o t;
      row_stays = row_stays p s o t;
      ram_stays = λ at. ram_stays p s o t at m.size (λ al other. m.word at al (λ is. other (stored_is p s ∙ is)));
      link_stays = λ q. link_by (q == p) p q s refl;
      latch_stays = latch_stays p s o t m.console.latch;
      waiting_stays = waiting_stays p s o t m.console.waiting;
      word_stays = word_stays p s o t;
      off_stays = λ none no_conflict.
          f.on on (λ is. none (in_outcome p s o t off (off_item o is)))
          (λ i j is. no_conflict (i, j) (in_outcome p s o t (conflict i j) (conflict_item o i j is)));
      conflict_stays = λ none.
          conflict_kept p o s.conflict (λ i j is. none (i, j) (in_outcome p s o t (conflict i j) (conflict_item o i j is)));
      other_stays = λ q. other_by (nat_lt q (length s.processors)) p q s refl;
      output_stays = m.console.output;
      as_large = m.size;
      unit_stays = ap (λ (links : LinkState). links.unit) (result_links p s) ∙ same_unit p (step_result p s).link (step_result p s).stored s.links;
      conf_stays = refl;
      as_many = as_many s.board.started t.board 0 (set s.processors p (step_result p s).after.processor) ∙ simp length-set;
    }

pub items_tell : ItemsTell
items_tell p s o t h =
    let a = accepted p s o t h in
    subst (λ (r : Outcome × State). Tells p s r.0 r.1 (items p s r.0 r.1)) a.given (tells_after p s a.place a.on)
