use Rattle.std.proofs.Common.{◌≡◌, ◌∙◌, refl, ap, sym, subst, ℕ, suc, ◌+◌, ◌<◌, Bool, true, false, List, [], ◌∷◌, ◌++◌, length, arith, inl, inr}
use Rattle.std.specs.Prelude.{Option, None, Some, if◌then◌else◌}
use Rattle.m161_machine.specs.declared.event.Entry.{Entry}
use Rattle.m161_machine.specs.declared.event.Event.{Event}
use Rattle.m161_machine.specs.declared.event.Event.TheVariants.{Step}
use Rattle.m161_machine.specs.State.{State}
use Rattle.m161_order.specs.Delays.{behind}
use Rattle.m161_drive.specs.declared.cursor.Cursor.{Cursor}
use Rattle.m161_drive.specs.declared.turns.Turns.{Turns}
use Rattle.m161_drive.specs.Choice.{chosen_with, taken}
use Rattle.m161_drive.specs.Delayed.{passed, turned}
use Rattle.m161_drive.specs.Drive.{Chooses, Goes}
use Rattle.m161_drive.specs.Policy.{Rules}
use Rattle.m161_drive.proofs.Passing.{behind_all, behind_more, count_behind}
use Rattle.m161_delays.specs.Lists.{AgreeBelow, times}
use Rattle.m161_places.specs.Going.{GoAlike, Passes, place_number}
use Rattle.m161_places.specs.Laws.{with_delays}
use Rattle.m161_places.specs.Places.{is_place}
use Rattle.m161_places.proofs.Splitting.{Splits, passing, splits}

-- Going on along the run of a list of delays.

-- one event, by the runs of all lists that agree
record Moves
    (rules : Rules) (key : Option ℕ) (turns : Turns) (c : Cursor) (s : State) (a : List ℕ) (e : Entry) (d : Cursor) (t : State) (k : ℕ)
    : Type 0 where
  end : Turns
  cursor : Cursor
  is : d ≡ with_delays end (behind k a) cursor
  goes : (b : List ℕ) → AgreeBelow k a b → Goes rules key (with_delays turns b c) s e (with_delays end (behind k b) cursor) t

none_here : (b : Bool) → b ≡ false → ◌≡◌ {A = ℕ} (if b then 1 else 0) 0
none_here b h = ap (λ x. if x then 1 else 0) h

one_here : (b : Bool) → b ≡ true → ◌≡◌ {A = ℕ} (if b then 1 else 0) 1
one_here b h = ap (λ x. if x then 1 else 0) h

moves_so : (rules : Rules) (key : Option ℕ) (turns : Turns) (c : Cursor) (s : State) (a : List ℕ) (e : Entry) (d : Cursor) (t : State) →
    Splits (λ left. chosen_with rules key (with_delays turns left c) s) c s → Goes rules key (with_delays turns a c) s e d t →
    Moves rules key turns c s a e d t (place_number e.event s)
moves_so rules key turns c s a e d t (inl aside) h =
    let event : aside.event ≡ Some e.event = sym (ap (λ (x : Option Event × Cursor). x.0) (aside.chosen a)) ∙ h.choice_is in
    let nowhere : is_place (Some e.event) s ≡ false = ap (λ x. is_place x s) (sym event) ∙ aside.elsewhere in
    let after = taken e.event t aside.cursor in
    let all : (left : List ℕ) → with_delays aside.turns (behind 0 left) after ≡ taken e.event t (chosen_with rules key (with_delays turns left c) s).1 = λ left.
    ap (λ xs. with_delays aside.turns xs after) (behind_all left) ∙ sym (ap (λ (x : Option Event × Cursor). taken e.event t x.1) (aside.chosen left)) in
    subst (Moves rules key turns c s a e d t) (sym (none_here (is_place (Some e.event) s) nowhere)) (record {
      end = aside.turns;
      cursor = after;
      is = h.cursor_is ∙ sym (all a);
      goes = λ b agree. record {
        is_on = h.is_on;
        choice_is = ap (λ (x : Option Event × Cursor). x.0) (aside.chosen b) ∙ event;
        accepted = h.accepted;
        cursor_is = all b;
      };
    })
moves_so rules key turns c s a e d t (inr at) h =
    let p = at.processor in
    let q = passed (times 0 a) p s in
    let event : ◌≡◌ {A = Option Event} (Some (Step q)) (Some e.event) = sym (ap (λ (x : Option Event × Cursor). x.0) (at.chosen a)) ∙ h.choice_is in
    let here : is_place (Some e.event) s ≡ true = ap (λ x. is_place x s) (sym event) ∙ at.some in
    let end = turned p q at.turns in
    let after = taken e.event t (record c { last = Some q }) in
    subst (Moves rules key turns c s a e d t) (sym (one_here (is_place (Some e.event) s) here)) (record {
      end = end;
      cursor = after;
      is = h.cursor_is ∙ ap (λ (x : Option Event × Cursor). taken e.event t x.1) (at.chosen a);
      goes = λ b agree.
          let now : times 0 b ≡ times 0 a = sym (agree 0 (omega arith)) in
          let chosen : chosen_with rules key (with_delays turns b c) s
          ≡ (Some (Step q), with_delays end (behind 1 b) (record c { last = Some q })) =
          at.chosen b
          ∙ ap (λ m. (Some (Step (passed m p s)), with_delays (turned p (passed m p s) at.turns) (behind 1 b) (record c { last = Some (passed m p s) }))) now in
          record {
            is_on = h.is_on;
            choice_is = ap (λ (x : Option Event × Cursor). x.0) chosen ∙ event;
            accepted = h.accepted;
            cursor_is = sym (ap (λ (x : Option Event × Cursor). taken e.event t x.1) chosen);
          };
    })

-- the delays that are left behind an event
left_behind : (here : Bool) (j : ℕ) (ns : List ℕ) → behind j (behind (if here then 1 else 0) ns) ≡ behind ((if here then 1 else 0) + j) ns
left_behind true j ns = let next : suc j ≡ 1 + j = omega arith in behind_more j ns ∙ ap (λ m. behind m ns) next
left_behind false j ns = let same : j ≡ 0 + j = omega arith in ap (behind j) (behind_all ns) ∙ ap (λ m. behind m ns) same

agree_left : (here : Bool) (j k : ℕ) (a b : List ℕ) → k ≡ (if here then 1 else 0) + j → AgreeBelow k a b →
    AgreeBelow j (behind (if here then 1 else 0) a) (behind (if here then 1 else 0) b)
agree_left true j k a b is h i less = count_behind i a ∙ h (i + 1) (omega (arith, is, less)) ∙ sym (count_behind i b)
agree_left false j k a b is h i less =
    ap (times i) (behind_all a) ∙ h i (omega (arith, is, less)) ∙ sym (ap (times i) (behind_all b))

pub go_alike : (rules : Rules) (keys : ℕ → Option ℕ) (turns : Turns) (c : Cursor) (s : State) → GoAlike rules keys turns c s
go_alike rules keys turns c s a b [] d t k agree h =
    let same : (ns : List ℕ) → ns ≡ behind k ns = λ ns. sym (behind_all ns) ∙ ap (λ j. behind j ns) (sym h.2) in (
      turns,
      c,
      h.0 ∙ ap (λ ns. with_delays turns ns c) (same a),
      (sym (ap (λ ns. with_delays turns ns c) (same b)), h.1),
    )
go_alike rules keys turns c s a b (e ∷ es) d t k agree h =
    let here = is_place (Some e.event) s in
    let i = place_number e.event s in
    let j = h.2 in
    let is : k ≡ i + j = h.5 in
    let one = moves_so rules (keys c.typed) turns c s a e h.0 h.1 (splits rules (keys c.typed) turns c s) h.3 in
    let rest : Passes rules keys (with_delays one.end (behind i a) one.cursor) h.1 es d t j =
    subst (λ x. Passes rules keys x h.1 es d t j) one.is h.4 in
    let on = go_alike rules keys one.end one.cursor h.1 (behind i a) (behind i b) es d t j (agree_left here j k a b is agree) rest in
    let left : (ns : List ℕ) → behind j (behind i ns) ≡ behind k ns = λ ns. left_behind here j ns ∙ ap (λ m. behind m ns) (sym is) in (
      on.0,
      on.1,
      on.2 ∙ ap (λ ns. with_delays on.0 ns on.1) (left a),
      (
        with_delays one.end (behind i b) one.cursor,
        h.1,
        one.goes b (λ m less. agree m (omega (arith, less, is))),
        subst (λ ns. Chooses rules keys (with_delays one.end (behind i b) one.cursor) h.1 es (with_delays on.0 ns on.1) t) (left b) on.3,
      ),
    )

-- an event behind others
pub passes_more : (rules : Rules) (keys : ℕ → Option ℕ) (es : List Entry) (c b d : Cursor) (s u t : State) (k : ℕ) (e : Entry) →
    Passes rules keys c s es b u k → Goes rules (keys b.typed) b u e d t → Passes rules keys c s (es ++ e ∷ []) d t (k + place_number e.event u)
passes_more rules keys [] c b d s u t k e h goes = (
  d,
  t,
  0,
  subst (λ x. Goes rules (keys x.typed) x s e d t) h.0 (subst (λ x. Goes rules (keys b.typed) b x e d t) h.1 goes),
  (refl, refl, refl),
  (let none = h.2 in let same = ap (place_number e.event) h.1 in omega (arith, none, same)),
)
passes_more rules keys (x ∷ es) c b d s u t k e h goes = (
  h.0,
  h.1,
  h.2 + place_number e.event u,
  h.3,
  passes_more rules keys es h.0 b d h.1 u t h.2 e h.4 goes,
  (let is = h.5 in omega (arith, is)),
)
