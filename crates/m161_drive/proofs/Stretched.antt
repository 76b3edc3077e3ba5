use Rattle.std.proofs.Common.{◌≡◌, ◌∙◌, refl, sym, ap, subst, ℕ, ◌+◌, ◌-◌, ◌<◌, ◌≤◌, Bool, true, false, not, List, [], ◌∷◌, ◌++◌, length, take, arith, ◌⊎◌, inl, inr}
use Rattle.std.proofs.lemmas.Bool.Decides.{eqb_tells, nat_tests}
use Rattle.std.proofs.lemmas.List.{length-append, length-map}
use Rattle.std.specs.Prelude.{◌≢◌, Option, None, Some, Ok, ◌&&◌, ◌||◌, if◌then◌else◌, nat_lt, nat_le, is_some, filter, find, slice_index, ◌-◌, ◌==◌, min, count_by}
use Rattle.std.specs.List.{last_or, range_with_len}
use Rattle.rand_pcg.specs.Lcg.{Lcg}
use Rattle.m161_bus.specs.Board.{interrupt_lines}
use Rattle.m161_cpu.specs.declared.processor.Outcome.{Outcome}
use Rattle.m161_cpu.specs.Resting.{is_resting}
use Rattle.m161_machine.specs.declared.event.Entry.{Entry}
use Rattle.m161_machine.specs.declared.event.Event.{Event}
use Rattle.m161_machine.specs.declared.event.Event.TheVariants.{Step, Key, Done}
use Rattle.m161_machine.specs.History.{events_of}
use Rattle.m161_machine.specs.Resting.{rests}
use Rattle.m161_machine.specs.State.{State, is_worn, next, step_result, with_step}
use Rattle.m161_machine.specs.Stretch.{ArePlain, IsPlain}
use Rattle.m161_drive.specs.declared.cursor.Cursor.{Cursor}
use Rattle.m161_drive.specs.declared.orders.OrderState.{OrderState}
use Rattle.m161_drive.specs.declared.orders.OrderState.TheVariants.{InTurns, ByDelays, AtRandom, ByPriority}
use Rattle.m161_drive.specs.declared.turns.Turns.{Turns}
use Rattle.m161_drive.specs.Choice.{chosen_with, filled_after, gap_is_over, key_is_due, next_step, ordered, since_filled, taken, tick, transfer_ends, type_key, wants_key}
use Rattle.m161_drive.specs.Drive.{Chooses, Goes}
use Rattle.m161_drive.specs.Orders.{at_place, begun, by_delays, by_order, by_priority, by_turns, by_words, delayed, one_of}
use Rattle.m161_drive.specs.Delayed.{DelayState, passed, turned}
use Rattle.m161_order.specs.Delays.{behind}
use Rattle.m161_drive.specs.Policy.{Rules}
use Rattle.m161_drive.specs.Priorities.{PriorityState}
use Rattle.m161_drive.specs.Ready.{cyclic, is_ready, is_sending, is_ticking, next_behind, place_behind, some_ready}
use Rattle.m161_drive.specs.helpers.Drive.{AreUnsent, IsUntyped, LeavesRoom, Plans, next_order, with_more_steps}
use Rattle.m161_drive.proofs.Fitting.{order_ready}
use Rattle.m161_drive.proofs.Sleeping.{accepted, any_none, is_less, less_is}

-- Steps in a row, as choices one after the other.

abbrev Choice : Type 0
Choice = Option Event × Cursor

-- what the choice of a Step leaves in the cursor
abbrev IsStepOf : ℕ → Cursor → Choice → Type 0
IsStepOf p b x = x.0 ≡ Some (Step p) → (x.1.last ≡ Some p) × (x.1.typed ≡ b.typed)

if_step : (p : ℕ) (b : Cursor) (test : Bool) (x y : Choice) → IsStepOf p b x → IsStepOf p b y → IsStepOf p b (if test then x else y)
if_step p b true x y h k = h
if_step p b false x y h k = k

one_step : (p q : ℕ) (b c : Cursor) → c.last ≡ Some q → c.typed ≡ b.typed → IsStepOf p b (Some (Step q), c)
one_step p q b c last typed h =
    let same : ◌≡◌ {A = Option Event} (Some (Step q)) (Some (Step p)) = h in
    let e : q ≡ p = cc in
    (last ∙ ap (λ n. Some n) e, typed)

tick_step : (p : ℕ) (o : Option ℕ) (b c : Cursor) → c.typed ≡ b.typed → IsStepOf p b (tick o c)
tick_step p None b c typed h = let bad : ◌≡◌ {A = Option Event} None (Some (Step p)) = h in absurd cc
tick_step p (Some q) b c typed h = one_step p q b (tick (Some q) c).1 refl typed h

ordered_step : (p : ℕ) (o : Option ℕ) (order : OrderState) (b : Cursor) (s : State) → IsStepOf p b (ordered o order b s)
ordered_step p None order b s = tick_step p (next_behind (is_ticking s) b.last s) b (record b { order = order }) refl
ordered_step p (Some q) order b s = one_step p q b (ordered (Some q) order b s).1 refl refl

next_is_step : (p : ℕ) (b : Cursor) (s : State) → IsStepOf p b (next_step b s)
next_is_step p b s = ordered_step p (by_order b.order b.last s).0 (by_order b.order b.last s).1 b s

key_step : (p : ℕ) (key : Option ℕ) (b : Cursor) (s : State) → IsStepOf p b (type_key key b s)
key_step p None b s h = next_is_step p b s h
key_step p (Some byte) b s h = let bad : ◌≡◌ {A = Option Event} (Some (Key byte)) (Some (Step p)) = h in absurd cc

done_step : (p : ℕ) (b c : Cursor) → IsStepOf p b (Some Done, c)
done_step p b c h = let bad : ◌≡◌ {A = Option Event} (Some Done) (Some (Step p)) = h in absurd cc

pub choice_step : (p : ℕ) (rules : Rules) (key : Option ℕ) (b : Cursor) (s : State) → IsStepOf p b (chosen_with rules key b s)
unfolding chosen_with
choice_step p rules key b s =
    if_step p b (transfer_ends rules b s) (Some Done, b) (if wants_key rules b s then type_key key b s else next_step b s) (done_step p b b)
    (if_step p b (wants_key rules b s) (type_key key b s) (next_step b s) (key_step p key b s) (next_is_step p b s))

same_or_other : {P : Type 0} → (p q : ℕ) → (p ≡ q → P) → (q ≢ p → P) → P
same_or_other {P} p q f g = elim (eqb_tells p q) as (λ _. P) [
  | inl w ↦ f w.1
  | inr w ↦ g (λ e. w.1 (sym e))
]

-- the tests of a choice
le_false : (a b : ℕ) → b < a → nat_le a b ≡ false
le_false a b h = grind (arith, nat_tests)

lt_false : (a b : ℕ) → b ≤ a → nat_lt a b ≡ false
lt_false a b h = grind (arith, nat_tests)

and_off : (a : Bool) → (a && false) ≡ false
and_off true = refl
and_off false = refl

if_same : {A : Type 0} → (b : Bool) (x : A) → (if b then x else x) ≡ x
if_same true x = refl
if_same false x = refl

some_by : (b : Bool) → (b ≡ false → ⊥) → b ≡ true
some_by true h = refl
some_by false h = absurd (h refl)

is_some_ready : (p : ℕ) (s : State) → p < length s.processors → is_ready s p ≡ true → some_ready s ≡ true
is_some_ready p s here ready =
    some_by (some_ready s) (λ none.
    let not_it : is_ready s p ≡ false = any_none (is_ready s) (length s.processors) 0 p none (omega arith) (omega (arith, here)) in
    let bad : false ≡ true = sym not_it ∙ ready in absurd cc)

still_ready : (p : ℕ) (s u : State) → p < length u.processors → rests p u ≡ false → is_ready u p ≡ true
still_ready p s u here awake = λ i. less_is p (length u.processors) here i && not (awake i)

since_more : (filled : Option ℕ) (s u : State) → u.made ≡ s.made + 1 → since_filled filled u ≤ since_filled filled s + 1
since_more None s u h = omega arith
since_more (Some at) s u h = omega (arith, h)

unsent : (rules : Rules) (c : Cursor) (u : State) (sending : Bool) → is_sending u ≡ sending →
    (sending ≡ true → since_filled c.filled u < rules.transfer) → some_ready u ≡ true → transfer_ends rules c u ≡ false
unsent rules c u true is less ready =
    λ i. is i && (le_false rules.transfer (since_filled c.filled u) (less refl) i || not (ready i))
unsent rules c u false is less ready =
    ap (λ b. b && (nat_le rules.transfer (since_filled c.filled u) || not (some_ready u))) is

full_undue : (rules : Rules) (c : Cursor) (u : State) → 256 ≤ length u.board.console.waiting → key_is_due rules c u ≡ false
full_undue rules c u full =
    ap (λ b. b && (gap_is_over rules.gap c u || not (some_ready u))) (lt_false (length u.board.console.waiting) 256 full)

gap_undue : (rules : Rules) (c : Cursor) (u : State) → gap_is_over rules.gap c u ≡ false → some_ready u ≡ true → key_is_due rules c u ≡ false
gap_undue rules c u gap ready =
    (λ i. nat_lt (length u.board.console.waiting) 256 && (gap i || not (ready i)))
    ∙ and_off (nat_lt (length u.board.console.waiting) 256)

undue_step : (rules : Rules) (key : Option ℕ) (c : Cursor) (u : State) → key_is_due rules c u ≡ false →
    (if wants_key rules c u then type_key key c u else next_step c u) ≡ next_step c u
undue_step rules key c u h =
    let off : wants_key rules c u ≡ false = ap (λ b. not (transfer_ends rules c u) && b) h ∙ and_off (not (transfer_ends rules c u)) in
    ap (λ b. if b then type_key key c u else next_step c u) off

-- no key is typed
untyped : (rules : Rules) (key gap : Option ℕ) (c : Cursor) (s u : State) (n : ℕ) → rules.gap ≡ gap → IsUntyped key gap c s n → 2 ≤ n →
    u.made ≡ s.made + 1 → u.board ≡ s.board → some_ready u ≡ true →
    (if wants_key rules c u then type_key key c u else next_step c u) ≡ next_step c u
untyped rules None gap c s u n is h some made board ready = if_same (wants_key rules c u) (next_step c u)
untyped rules (Some byte) None c s u n is h some made board ready =
    undue_step rules (Some byte) c u (gap_undue rules c u (ap (λ g. gap_is_over g c u) is) ready)
untyped rules (Some byte) (Some gap) c s u n is (inl full) some made board ready =
    undue_step rules (Some byte) c u
    (full_undue rules c u (subst (λ b. 256 ≤ length b.console.waiting) (sym board) full))
untyped rules (Some byte) (Some gap) c s u n is (inr few) some made board ready =
    let less : u.made - c.keyed < gap = omega (arith, made, few, some) in
    undue_step rules (Some byte) c u
    (gap_undue rules c u (ap (λ g. gap_is_over g c u) is ∙ le_false gap (u.made - c.keyed) less) ready)

-- Which processors are ready, behind a plain Step of a ready one.

pub record AreAlike (s u : State) : Type 0 where
  pub tests : is_ready u ≡ is_ready s
  pub number : length u.processors ≡ length s.processors

test_alike : (p : ℕ) (s u : State) → IsPlain p s u → is_ready s p ≡ true → p < length s.processors → (q : ℕ) → is_ready u q ≡ is_ready s q
unfolding rests
test_alike p s u plain ready here q = same_or_other p q
    (λ same. subst (λ k. is_ready u k ≡ is_ready s k) same
    (still_ready p s u (let n = plain.0.number_is in omega (arith, here, n)) plain.1 ∙ sym ready))
    (λ other. λ i. nat_lt q (plain.0.number_is i) && not (is_resting (interrupt_lines q (plain.0.board_is i)) (plain.0.others_are q other i)))

pub alike : (p : ℕ) (s u : State) → IsPlain p s u → is_ready s p ≡ true → p < length s.processors → AreAlike s u
alike p s u plain ready here = record {
  tests = λ i. λ q. test_alike p s u plain ready here q i;
  number = plain.0.number_is;
}

-- so an order chooses alike
turns_alike : (t : Turns) (last : ℕ) (s u : State) → AreAlike s u → by_turns t (Some last) u ≡ by_turns t (Some last) s
turns_alike t last s u a = λ i.
    if nat_lt 0 t.made && nat_lt t.made t.steps && a.tests i last then (Some last, record t { made = t.made + 1 })
    else begun (find (a.tests i) (cyclic (place_behind (Some last) (a.number i)) (a.number i))) t

passed_alike : (n p : ℕ) (s u : State) → AreAlike s u → passed n p u ≡ passed n p s
passed_alike n p s u a = λ i.
    let ps = filter (a.tests i) (cyclic p (a.number i)) in slice_index ps (min n (length ps - 1))

delayed_alike : (o : Option ℕ) (t : Turns) (d : DelayState) (s u : State) → AreAlike s u → delayed o t d u ≡ delayed o t d s
delayed_alike None t d s u a = refl
delayed_alike (Some p) t d s u a =
    ap (λ q. (Some q, record { turns = turned p q t; left = behind 1 d.left }))
    (passed_alike (count_by (λ n. n == 0) d.left) p s u a)

delays_alike : (d : DelayState) (last : ℕ) (s u : State) → AreAlike s u → by_delays d (Some last) u ≡ by_delays d (Some last) s
delays_alike d last s u a =
    ap (λ (x : Option ℕ × Turns). delayed x.0 x.1 d u) (turns_alike d.turns last s u a)
    ∙ delayed_alike (by_turns d.turns (Some last) s).0 (by_turns d.turns (Some last) s).1 d s u a

words_alike : (g : Lcg) (s u : State) → AreAlike s u → by_words g u ≡ by_words g s
words_alike g s u a = λ i. one_of (filter (a.tests i) (range_with_len 0 (a.number i))) g

priority_alike : (r : PriorityState) (s u : State) → AreAlike s u → by_priority r u ≡ by_priority r s
priority_alike r s u a = λ i.
    at_place (last_or None (filter (λ k. a.tests i (slice_index r.processors k)) (range_with_len 0 32))) r

order_alike : (o : OrderState) (last : ℕ) (s u : State) → AreAlike s u → by_order o (Some last) u ≡ by_order o (Some last) s
order_alike (InTurns t) last s u a = ap (λ (x : Option ℕ × Turns). (x.0, InTurns x.1)) (turns_alike t last s u a)
order_alike (ByDelays d) last s u a = ap (λ (x : Option ℕ × DelayState). (x.0, ByDelays x.1)) (delays_alike d last s u a)
order_alike (AtRandom g) last s u a = ap (λ (x : Option ℕ × Lcg). (x.0, AtRandom x.1)) (words_alike g s u a)
order_alike (ByPriority r) last s u a = ap (λ (x : Option ℕ × PriorityState). (x.0, ByPriority x.1)) (priority_alike r s u a)

plans_alike : (o : OrderState) (last : ℕ) (s u : State) (es : List Entry) (q : ℕ) → AreAlike s u → Plans o last s es q → Plans o last u es q
plans_alike o last s u [] q a h = h
plans_alike o last s u (e ∷ es) q a h =
    (h.0, h.1, order_alike o last s u a ∙ h.2, plans_alike (next_order o) h.0 s u es q a h.3)

-- So the next Step is the planned one.

chosen_again : (rules : Rules) (key : Option ℕ) (c : Cursor) (p r n : ℕ) (s u : State) → c.last ≡ Some p → LeavesRoom rules key c s n → 2 ≤ n →
    u.made ≡ s.made + 1 → u.board ≡ s.board → AreAlike s u → p < length u.processors → is_ready u p ≡ true →
    by_order c.order (Some p) s ≡ (Some r, next_order c.order) →
    chosen_with rules key c u ≡ (Some (Step r), record c { last = Some r; order = next_order c.order })
unfolding chosen_with
chosen_again rules key c p r n s u last room some made board a here it chosen =
    let ready : some_ready u ≡ true = is_some_ready p u here it in
    let sent : is_sending u ≡ true → since_filled c.filled u < rules.transfer = λ h.
    let old = room.0.1 (ap (λ b. is_some b.console.latch) (sym board) ∙ h) in
    let step = since_more c.filled s u made in omega (arith, old, step, some) in
    let ends : transfer_ends rules c u ≡ false = unsent rules c u (is_sending u) refl sent ready in
    ap (λ b. if b then (Some Done, c) else if wants_key rules c u then type_key key c u else next_step c u) ends
    ∙ untyped rules key rules.gap c s u n refl room.1 some made board ready
    ∙ (λ i. ordered (by_order c.order (last i) u).0 (by_order c.order (last i) u).1 c u)
    ∙ ap (λ (x : Option ℕ × OrderState). ordered x.0 x.1 c u) (order_alike c.order p s u a ∙ chosen)

-- room for one Step less
unsent_rest : (rules : Rules) (c d : Cursor) (s u : State) (n : ℕ) → d.filled ≡ c.filled → AreUnsent rules c s (n + 1) → u.made ≡ s.made + 1 →
    u.board ≡ s.board → AreUnsent rules d u n
unsent_rest rules c d s u n same h made board = (
  λ m. (λ i. filled_after (board i).console.latch (same i) m) ∙ h.0 m ∙ sym same,
  λ sends. (let old = h.1 (ap (λ b. is_some b.console.latch) (sym board) ∙ sends) in
      let step = since_more c.filled s u made in
      let since : since_filled d.filled u ≡ since_filled c.filled u = ap (λ f. since_filled f u) same in omega (arith, old, step, since)),
)

untyped_rest : (key gap : Option ℕ) (c d : Cursor) (s u : State) (n : ℕ) → d.keyed ≡ c.keyed → IsUntyped key gap c s (n + 1) → u.made ≡ s.made + 1 →
    u.board ≡ s.board → IsUntyped key gap d u n
untyped_rest None gap c d s u n same h made board = h
untyped_rest (Some byte) None c d s u n same h made board = h
untyped_rest (Some byte) (Some gap) c d s u n same (inl full) made board =
    inl (subst (λ b. 256 ≤ length b.console.waiting) (sym board) full)
untyped_rest (Some byte) (Some gap) c d s u n same (inr few) made board = inr (omega (arith, few, made, same))

room_rest : (rules : Rules) (key : Option ℕ) (c d : Cursor) (s u : State) (n : ℕ) → d.filled ≡ c.filled → d.keyed ≡ c.keyed →
    LeavesRoom rules key c s (n + 1) → u.made ≡ s.made + 1 → u.board ≡ s.board → LeavesRoom rules key d u n
room_rest rules key c d s u n filled keyed h made board =
    (unsent_rest rules c d s u n filled h.0 made board, untyped_rest key rules.gap c d s u n keyed h.1 made board)

-- and for fewer
unsent_fewer : (rules : Rules) (c : Cursor) (s : State) (m n : ℕ) → m ≤ n → AreUnsent rules c s n → AreUnsent rules c s m
unsent_fewer rules c s m n fewer h = (h.0, λ sends. let old = h.1 sends in omega (arith, old, fewer))

untyped_fewer : (key gap : Option ℕ) (c : Cursor) (s : State) (m n : ℕ) → m ≤ n → IsUntyped key gap c s n → IsUntyped key gap c s m
untyped_fewer None gap c s m n fewer h = h
untyped_fewer (Some byte) None c s m n fewer h = h
untyped_fewer (Some byte) (Some gap) c s m n fewer (inl full) = inl full
untyped_fewer (Some byte) (Some gap) c s m n fewer (inr few) = inr (omega (arith, few, fewer))

pub room_for_fewer : (rules : Rules) (key : Option ℕ) (c : Cursor) (s : State) (m n : ℕ) → 1 ≤ m → m ≤ n →
    (n ≡ 1) ⊎ LeavesRoom rules key c s n → (m ≡ 1) ⊎ LeavesRoom rules key c s m
room_for_fewer rules key c s m n some fewer (inl one) = inl (omega (arith, some, fewer, one))
room_for_fewer rules key c s m n some fewer (inr room) =
    inr (unsent_fewer rules c s m n fewer room.0, untyped_fewer key rules.gap c s m n fewer room.1)

step_made : (p : ℕ) (s u : State) (o : Outcome) → next s (Step p) ≡ Ok (o, u) → u.made ≡ s.made + 1
unfolding next
step_made p s u o h =
    let given : Outcome × State = ((step_result p s).outcome, with_step p (step_result p s) s) in
    let done = accepted (nat_le (length s.processors) p) s.board.off (is_worn s.made) given o u h in
    ap (λ (v : State). v.made) (sym done.2)

step_there : (p : ℕ) (s u : State) (o : Outcome) → next s (Step p) ≡ Ok (o, u) → p < length s.processors
unfolding next
step_there p s u o h =
    let given : Outcome × State = ((step_result p s).outcome, with_step p (step_result p s) s) in
    is_less (length s.processors) p (accepted (nat_le (length s.processors) p) s.board.off (is_worn s.made) given o u h).0

-- one chosen Step
goes_step : (rules : Rules) (key : Option ℕ) (p : ℕ) (b c : Cursor) (s u : State) (e : Entry) → s.board.off ≡ false →
    chosen_with rules key b s ≡ (Some (Step p), c) → e.event ≡ Step p → next s (Step p) ≡ Ok (e.outcome, u) →
    Goes rules key b s e (taken (Step p) u c) u
goes_step rules key p b c s u e on choice is gives = record {
  is_on = on;
  choice_is = ap (λ (x : Option Event × Cursor). x.0) choice ∙ ap (λ x. Some x) (sym is);
  accepted = ap (next s) is ∙ gives;
  cursor_is = λ i. taken (sym is i) u (sym choice i).1;
}

-- the first of some events
first_event : (d e : Event) (ds es : List Event) → ◌≡◌ {A = List Event} (d ∷ ds) (e ∷ es) → d ≡ e
first_event d e ds es h = cc

rest_events : (d e : Event) (ds es : List Event) → ◌≡◌ {A = List Event} (d ∷ ds) (e ∷ es) → ds ≡ es
rest_events d e ds es h = cc

pub step_same : (p q : ℕ) → Step p ≡ Step q → p ≡ q
step_same p q h = cc

none_left : (es : List Entry) (x : Entry) → events_of (es ++ x ∷ []) ≡ [] → ⊥
none_left es x h =
    let long = length-map (es ++ x ∷ []) (λ (e : Entry). e.event) in
    let sum = length-append es (x ∷ []) in
    let none = ap length h in
    let bad : ⊥ = omega (arith, long, sum, none) in bad

-- each Step of a stretch is chosen in its state
pub stretched : (rules : Rules) (keys : ℕ → Option ℕ) (key : Option ℕ) (p q : ℕ) (es : List Entry) (x : Entry) (plan : List Entry) (end n : ℕ)
    (b c : Cursor) (s v t : State) → s.board.off ≡ false → chosen_with rules key b s ≡ (Some (Step p), c) → keys b.typed ≡ key →
    c.typed ≡ b.typed → c.last ≡ Some p → (length es ≡ 0) ⊎ (is_ready s p ≡ true) × LeavesRoom rules key c s n → length es + 1 ≤ n →
    Plans c.order p s plan end → events_of (es ++ x ∷ []) ≡ Step p ∷ events_of (take (length es) plan) → ArePlain s es v → x.event ≡ Step q →
    next v (Step q) ≡ Ok (x.outcome, t) → Chooses rules keys b s (es ++ x ∷ []) (with_more_steps (length es) q t c) t
stretched rules keys key p q [] x plan end n b c s v t on choice next_key typed last room few plans events plain is gives =
    let same : q ≡ p = step_same q p (sym is ∙ first_event x.event (Step p) [] [] events) in
    let first : next s (Step p) ≡ Ok (x.outcome, t) =
    subst (λ k. next s (Step k) ≡ Ok (x.outcome, t)) same (subst (λ w. next w (Step q) ≡ Ok (x.outcome, t)) plain gives) in
    let cursor : with_more_steps 0 q t c ≡ taken (Step p) t c =
    λ i. record c { last = (ap (λ k. Some k) same ∙ sym last) i; filled = filled_after t.board.console.latch c.filled t.made } in (
      taken (Step p) t c,
      t,
      subst (λ k. Goes rules k b s x (taken (Step p) t c) t) (sym next_key)
          (goes_step rules key p b c s t x on choice (is ∙ ap (λ k. Step k) same) first),
      (cursor, refl),
    )
stretched rules keys key p q (e ∷ es) x plan end n b c s v t on choice next_key typed last (inl none) few plans events plain is gives =
    absurd (let bad : ⊥ = omega (arith, none) in bad)
stretched rules keys key p q (e ∷ es) x [] end n b c s v t on choice next_key typed last (inr room) few plans events plain is gives =
    absurd (none_left es x (rest_events e.event (Step p) (events_of (es ++ x ∷ [])) [] events))
stretched rules keys key p q (e ∷ es) x (f ∷ fs) end n b c s v t on choice next_key typed last (inr room) few plans events plain is gives =
    let u = plain.1 in
    let first : e.event ≡ Step p =
    first_event e.event (Step p) (events_of (es ++ x ∷ [])) (events_of (take (length (e ∷ es)) (f ∷ fs))) events in
    let own : plain.0 ≡ p = step_same plain.0 p (sym plain.2 ∙ first) in
    let step : next s (Step p) ≡ Ok (e.outcome, u) = subst (λ k. next s (Step k) ≡ Ok (e.outcome, u)) own plain.3 in
    let plainly : IsPlain p s u = subst (λ k. IsPlain k s u) own plain.4 in
    let quiet = plainly.0 in
    let made : u.made ≡ s.made + 1 = step_made p s u e.outcome step in
    let there : p < length s.processors = step_there p s u e.outcome step in
    let here : p < length u.processors = (let number = quiet.number_is in omega (arith, there, number)) in
    let a : AreAlike s u = alike p s u plainly room.0 there in
    let same : taken (Step p) u c ≡ c =
    λ i. record c { filled = (ap (λ d. filled_after d.console.latch c.filled u.made) quiet.board_is ∙ room.1.0.0 u.made) i } in
    let r = plans.0 in
    let d : Cursor = record c { last = Some r; order = next_order c.order } in
    let m : ℕ = n - 1 in
    let less : n ≡ m + 1 = omega (arith, few) in
    let again : chosen_with rules key (taken (Step p) u c) u ≡ (Some (Step r), d) =
    ap (λ y. chosen_with rules key y u) same
    ∙ chosen_again rules key c p r n s u last room.1 (omega (arith, few)) made quiet.board_is a here (ap (λ (f : ℕ → Bool). f p) a.tests ∙ room.0) plans.2 in
    let chosen_ready : is_ready u r ≡ true =
    ap (λ (f : ℕ → Bool). f r) a.tests ∙ order_ready c.order (Some p) s r (ap (λ (x : Option ℕ × OrderState). x.0) plans.2) in
    let next_events : events_of (es ++ x ∷ []) ≡ Step r ∷ events_of (take (length es) fs) =
    rest_events e.event (Step p) (events_of (es ++ x ∷ [])) (events_of (take (length (e ∷ es)) (f ∷ fs))) events
    ∙ ap (λ (y : Entry). y.event ∷ events_of (take (length es) fs)) plans.1 in
    let rest : Chooses rules keys (taken (Step p) u c) u (es ++ x ∷ []) (with_more_steps (length es) q t d) t =
    stretched rules keys key r q es x fs end m (taken (Step p) u c) d u v t (ap (λ y. y.off) quiet.board_is ∙ on) again (ap keys typed ∙ next_key) refl refl
    (inr (chosen_ready, room_rest rules key c d s u m refl refl (subst (λ k. LeavesRoom rules key c s k) less room.1) made quiet.board_is))
    (omega (arith, few)) (plans_alike (next_order c.order) r s u fs end a plans.3) next_events plain.5 is gives in (
      taken (Step p) u c,
      u,
      subst (λ k. Goes rules k b s e (taken (Step p) u c) u) (sym next_key) (goes_step rules key p b c s u e on choice first step),
      rest,
    )
