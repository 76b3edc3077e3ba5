use Rattle.std.proofs.Common.{◌≡◌, ◌≢◌, ◌∙◌, refl, ap, sym, subst, ℕ, zero, suc, List, [], ◌∷◌, length, arith, inl, inr}
use Rattle.std.specs.Prelude.{Option, None, Some, slice_get, if◌then◌else◌}
use Rattle.m161_machine.specs.declared.event.Entry.{Entry}
use Rattle.m161_machine.specs.declared.event.Event.{Event}
use Rattle.m161_machine.specs.declared.event.Refusal.{Refusal}
use Rattle.m161_machine.specs.State.{State}
use Rattle.m161_order.specs.declared.delays.Delays.{Delays}
use Rattle.m161_order.specs.declared.order.Order.{Order}
use Rattle.m161_order.specs.declared.order.Order.TheVariants.{Delayed}
use Rattle.m161_order.specs.Delays.{delays_of}
use Rattle.m161_drive.specs.declared.cursor.Cursor.{Cursor}
use Rattle.m161_drive.specs.declared.run.Driven.{Driven}
use Rattle.m161_drive.specs.declared.run.Stop.{Stop}
use Rattle.m161_drive.specs.declared.run.Stop.TheVariants.{Off, End, Stuck, Refused}
use Rattle.m161_drive.specs.declared.turns.Turns.{Turns}
use Rattle.m161_drive.specs.Choice.{chosen_with, cursor_at, taken}
use Rattle.m161_drive.specs.Drive.{Chooses, Stops}
use Rattle.m161_drive.specs.Policy.{Rules}
use Rattle.m161_drive.specs.Ready.{ready}
use Rattle.m161_places.specs.Places.{behind_choice, is_place, offers, with_place}
use Rattle.m161_places.specs.Laws.{HasRunOfPart, with_delays}
use Rattle.m161_places.proofs.Splitting.{Splits, splits}

-- The run of a part is the run of the whole list.

-- the order of the rules has no part in a choice: the cursor has it
order_apart : (rules : Rules) (order : Order) (key : Option ℕ) (c : Cursor) (s : State) →
    chosen_with (record rules { order = order }) key c s ≡ chosen_with rules key c s
unfolding chosen_with
order_apart rules order key c s = refl

pub other_order : (rules : Rules) (a b : Order) (keys : ℕ → Option ℕ) (es : List Entry) (c d : Cursor) (s t : State) →
    Chooses (record rules { order = a }) keys c s es d t → Chooses (record rules { order = b }) keys c s es d t
other_order rules a b keys [] c d s t h = h
other_order rules a b keys (e ∷ es) c d s t h =
    let same : chosen_with (record rules { order = b }) (keys c.typed) c s ≡ chosen_with (record rules { order = a }) (keys c.typed) c s =
    order_apart rules b (keys c.typed) c s ∙ sym (order_apart rules a (keys c.typed) c s) in (
      h.0,
      h.1,
      record {
        is_on = h.2.is_on;
        choice_is = ap (λ (x : Option Event × Cursor). x.0) same ∙ h.2.choice_is;
        accepted = h.2.accepted;
        cursor_is = h.2.cursor_is ∙ (λ i. taken e.event h.1 (sym same i).1);
      },
      other_order rules a b keys es h.0 d h.1 t h.3,
    )

some_none : {e : Event} → ◌≡◌ {A = Option Event} (Some e) None → ⊥
some_none h = cc

-- where no event is chosen, none is whatever delays are left
none_chosen : (choice : List ℕ → Option Event × Cursor) (c : Cursor) (s : State) → Splits choice c s → (a b : List ℕ) →
    (choice a).0 ≡ None → (choice b).0 ≡ None
none_chosen choice c s (inl aside) a b h =
    ap (λ (x : Option Event × Cursor). x.0) (aside.chosen b)
    ∙ sym (ap (λ (x : Option Event × Cursor). x.0) (aside.chosen a)) ∙ h
none_chosen choice c s (inr at) a b h =
    let some = ap (λ (x : Option Event × Cursor). x.0) (at.chosen a) in
    let bad = sym some ∙ h in
    absurd (some_none bad)

stops_alike : (rules : Rules) (a b : Order) (n made : ℕ) (end : Turns) (left rest : List ℕ) (c : Cursor) (s : State) (stop : Stop) →
    ((refusal : Refusal) → stop ≢ Refused refusal) →
    Stops (record rules { order = a }) n made (with_delays end left c) s stop → Stops (record rules { order = b }) n made (with_delays end rest c) s stop
stops_alike rules a b n made end left rest c s Off accepted h = h
stops_alike rules a b n made end left rest c s End accepted h = h
stops_alike rules a b n made end left rest c s Stuck accepted h =
    let key = slice_get rules.keys c.typed in (
      h.0,
      (
        h.1.0,
        ap (λ (x : Option Event × Cursor). x.0) (order_apart rules b key (with_delays end rest c) s)
            ∙ none_chosen (λ x. chosen_with rules key (with_delays end x c) s) c s (splits rules key end c s) left rest
            (ap (λ (x : Option Event × Cursor). x.0) (sym (order_apart rules a key (with_delays end left c) s)) ∙ h.1.1),
      ),
    )
stops_alike rules a b n made end left rest c s (Refused refusal) accepted h = absurd (accepted refusal refl)

pub run_of_part : (rules : Rules) (n steps : ℕ) (all part : Delays) (s : State) (driven : Driven) (entries : List Entry) (t : State) →
    HasRunOfPart rules n steps all part s driven entries t
run_of_part rules n steps all part s driven entries t effective drives accepted =
    let keys = slice_get rules.keys in
    let turns : Turns = record { steps = steps; made = 0 } in
    let start = cursor_at rules s in
    let made = drives.made_is in
    let few = drives.few in
    let chosen : Chooses rules keys (with_delays turns (delays_of part) start) s entries drives.cursor t =
    other_order rules (Delayed steps part) rules.order keys entries (with_delays turns (delays_of part) start) drives.cursor s t drives.chosen_are in
    let run = effective.is_run entries drives.cursor t (omega (arith, made, few)) chosen in
    let end = run.0 in
    let left = run.1 in
    let rest = run.2 in
    let c = run.3 in
    record {
      cursor = with_delays end rest c;
      made_is = drives.made_is;
      few = drives.few;
      chosen_are =
          other_order rules rules.order (Delayed steps all) keys entries (with_delays turns (delays_of all) start) (with_delays end rest c) s t run.5;
      stops =
          stops_alike rules (Delayed steps part) (Delayed steps all) n driven.made end left rest c t driven.stop accepted
          (subst (λ x. Stops (record rules { order = Delayed steps part }) n driven.made x t driven.stop) run.4 drives.stops);
    }

-- nor has it in what is offered
pub offers_apart : (rules : Rules) (order : Order) (keys : ℕ → Option ℕ) (n : ℕ) (c : Cursor) (s : State) →
    offers n (record rules { order = order }) keys c s ≡ offers n rules keys c s
unfolding offers
offers_apart rules order keys zero c s = refl
offers_apart rules order keys (suc n) c s =
    λ i.
    let choice = order_apart rules order (keys c.typed) c s i in
    if s.board.off then [] else with_place (is_place choice.0 s) (length (ready s)) (behind_choice choice.0 s choice.1 (λ d t. offers_apart rules order keys n d t i))
