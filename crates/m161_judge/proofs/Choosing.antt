use Rattle.std.proofs.Common.{◌≡◌, ◌∙◌, refl, sym, ap, subst, ℕ, zero, suc, ◌+◌, ◌<◌, ◌≤◌, Bool, true, false, cond, not, List, [], ◌∷◌, length, take, arith, inl, inr}
use Rattle.std.specs.Prelude.{Option, None, Some, ◌&&◌, ◌||◌, if◌then◌else◌, nat_lt, nat_le, count_by, find, filter, slice_get, slice_index}
use Rattle.std.specs.List.{last_or, list_any, range_with_len}
use Rattle.std.proofs.lemmas.Bool.Decides.{nat_tests, eqb_tells}
use Rattle.std.proofs.lemmas.List.Sums.{sum_by-cons}
use Rattle.std.proofs.lemmas.Option.{slice_get_past}
use Rattle.rand_pcg.specs.Lcg.{Lcg}
use Rattle.m161_machine.specs.declared.event.Entry.{Entry}
use Rattle.m161_machine.specs.declared.event.Event.{Event}
use Rattle.m161_machine.specs.declared.event.Event.TheVariants.{Step, Key, Done}
use Rattle.m161_machine.specs.History.{events_of}
use Rattle.m161_machine.specs.State.{State}
use Rattle.m161_drive.specs.declared.cursor.Cursor.{Cursor}
use Rattle.m161_drive.specs.declared.turns.Turns.{Turns}
use Rattle.m161_drive.specs.declared.orders.OrderState.{OrderState}
use Rattle.m161_drive.specs.declared.orders.OrderState.TheVariants.{InTurns, ByDelays, AtRandom, ByPriority}
use Rattle.m161_drive.specs.Choice.{chosen, chosen_with, gap_is_over, key_is_due, next_step, ordered, since_filled, tick, transfer_ends, type_key, wants_key}
use Rattle.m161_drive.specs.Drive.{Chooses, Goes}
use Rattle.m161_drive.specs.Delayed.{DelayState}
use Rattle.m161_drive.specs.Orders.{at_place, begun, by_delays, by_order, by_priority, by_turns, by_words, delayed, goes_on, interrupted, one_of}
use Rattle.m161_drive.specs.Policy.{Rules}
use Rattle.m161_drive.specs.Priorities.{PriorityState, highest}
use Rattle.m161_drive.specs.Ready.{cyclic, is_asleep, is_ready, is_sending, is_ticking, next_behind, place_behind, some_ready, some_ticking}
use Rattle.m161_judge.specs.Verdict.{after, going_on, is_key, is_stuck}
use Rattle.m161_judge.proofs.Running.{none_is_not, some_is_one}

-- What a policy chooses, and where it chooses nothing.

and_left : (a b : Bool) → (a && b) ≡ true → a ≡ true
and_left true b h = refl
and_left false b h = h

and_right : (a b : Bool) → (a && b) ≡ true → b ≡ true
and_right true b h = h
and_right false b h = let bad : false ≡ true = h in absurd cc

not_true : (b : Bool) → not b ≡ true → b ≡ false
not_true true h = sym h
not_true false h = refl

or_none : (a b : Bool) → (a || b) ≡ false → (a ≡ false) × (b ≡ false)
or_none true b h = let bad : true ≡ false = h in absurd cc
or_none false b h = (refl, h)

-- a test that no number passes

abbrev Fails : (ℕ → Bool) → Type 0
Fails test = (p : ℕ) → test p ≡ false

find_none : (test : ℕ → Bool) → Fails test → (xs : List ℕ) → find test xs ≡ None
find_none test fails [] = refl
find_none test fails (x ∷ xs) = ap (λ b. cond b (Some x) (find test xs)) (fails x) ∙ find_none test fails xs

filter_none : (test : ℕ → Bool) → Fails test → (xs : List ℕ) → filter test xs ≡ []
filter_none test fails [] = refl
filter_none test fails (x ∷ xs) = ap (λ b. cond b (x ∷ filter test xs) (filter test xs)) (fails x) ∙ filter_none test fails xs

any_none : (test : ℕ → Bool) (n a p : ℕ) → list_any test (range_with_len a n) ≡ false → a ≤ p → p < a + n → test p ≡ false
any_none test zero a p h low high = absurd (omega (arith, low, high))
any_none test (suc n) a p h low high =
    let parts = or_none (test a) (list_any test (range_with_len (a + 1) n)) h in
    elim (eqb_tells a p) as (λ _. test p ≡ false) [
      | inl e ↦ subst (λ x. test x ≡ false) e.1 parts.0
      | inr e ↦ any_none test n (a + 1) p parts.1 (omega (arith, e.1, low)) (omega (arith, high))
    ]

-- a test of processors that exist
fails_beyond : (b c : Bool) → (b ≡ true → (b && c) ≡ false) → (b && c) ≡ false
fails_beyond true c h = h refl
fails_beyond false c h = refl

lt_is : (p n : ℕ) → nat_lt p n ≡ true → p < n
lt_is p n h = grind (arith, nat_tests)

those_fail : (here : ℕ → Bool) (n : ℕ) → list_any (λ p. nat_lt p n && here p) (range_with_len 0 n) ≡ false → Fails (λ p. nat_lt p n && here p)
those_fail here n none p =
    fails_beyond (nat_lt p n) (here p)
    (λ less. any_none (λ q. nat_lt q n && here q) n 0 p none (omega arith) (let l = lt_is p n less in omega (arith, l)))

-- no order chooses where no processor is ready

if_turns : (b : Bool) (x y : Option ℕ × Turns) → (b ≡ true → ⊥) → y.0 ≡ None → (if b then x else y).0 ≡ None
if_turns true x y h k = absurd (h refl)
if_turns false x y h k = k

begun_none : (o : Option ℕ) (t : Turns) → o ≡ None → (begun o t).0 ≡ None
begun_none None t h = refl
begun_none (Some p) t h = h

goes_fails : (t : Turns) (last : Option ℕ) (s : State) → Fails (is_ready s) → goes_on t last s ≡ true → ⊥
goes_fails t None s fails h = let bad : false ≡ true = h in cc
goes_fails t (Some p) s fails h =
    let here = and_right (nat_lt 0 t.made && nat_lt t.made t.steps) (is_ready s p) h in
    let bad : true ≡ false = sym here ∙ fails p in cc

turns_none : (t : Turns) (last : Option ℕ) (s : State) → Fails (is_ready s) → (by_turns t last s).0 ≡ None
turns_none t last s fails = if_turns (goes_on t last s) (last, record t { made = t.made + 1 }) (begun (next_behind (is_ready s) last s) t)
    (goes_fails t last s fails) (begun_none (next_behind (is_ready s) last s) t (find_none (is_ready s) fails (cyclic (place_behind last (length s.processors)) (length s.processors))))

delays_none : (d : DelayState) (last : Option ℕ) (s : State) → Fails (is_ready s) → (by_delays d last s).0 ≡ None
delays_none d last s fails =
    ap (λ o. (delayed o (by_turns d.turns last s).1 d s).0) (turns_none d.turns last s fails)

words_none : (g : Lcg) (s : State) → Fails (is_ready s) → (by_words g s).0 ≡ None
words_none g s fails = ap (λ ps. (one_of ps g).0) (filter_none (is_ready s) fails (range_with_len 0 (length s.processors)))

priority_none : (r : PriorityState) (s : State) → Fails (is_ready s) → (by_priority r s).0 ≡ None
priority_none r s fails =
    let none : highest r s ≡ None =
    ap (last_or None) (filter_none (λ k. is_ready s (slice_index r.processors k)) (λ k. fails (slice_index r.processors k)) (range_with_len 0 32)) in
    ap (λ o. (at_place o r).0) none

order_none : (o : OrderState) (last : Option ℕ) (s : State) → Fails (is_ready s) → (by_order o last s).0 ≡ None
order_none (InTurns t) last s fails = turns_none t last s fails
order_none (ByDelays d) last s fails = delays_none d last s fails
order_none (AtRandom g) last s fails = words_none g s fails
order_none (ByPriority r) last s fails = priority_none r s fails

-- no Step is next
step_none : (c : Cursor) (s : State) → Fails (is_ready s) → Fails (is_ticking s) → (next_step c s).0 ≡ None
step_none c s r t =
    let o = (by_order c.order c.last s).1 in
    let ordered_none : (next_step c s).0 ≡ (tick (next_behind (is_ticking s) c.last s) (record c { order = o })).0 =
    ap (λ x. (ordered x o c s).0) (order_none c.order c.last s r) in
    ordered_none
    ∙ ap (λ x. (tick x (record c { order = o })).0)
    (find_none (is_ticking s) t (cyclic (place_behind c.last (length s.processors)) (length s.processors)))

-- what a stuck state has

pub record Stuck (keys_left : Bool) (s : State) : Type 0 where
  pub on : s.board.off ≡ false
  pub free : is_sending s ≡ false
  pub no_key : (not keys_left || nat_le 256 (length s.board.console.waiting)) ≡ true
  pub none_ready : Fails (is_ready s)
  pub none_ticking : Fails (is_ticking s)

stuck_has : (keys_left : Bool) (s : State) → is_stuck keys_left s ≡ true → Stuck keys_left s
stuck_has keys_left s h =
    let a = not s.board.off in
    let b = not (is_sending s) in
    let k = not keys_left || nat_le 256 (length s.board.console.waiting) in
    let abk = and_left (a && b && k) (is_asleep s) h in
    let asleep = and_right (a && b && k) (is_asleep s) h in
    let ab = and_left (a && b) k abk in
    let none = or_none (some_ready s) (some_ticking s) (not_true (some_ready s || some_ticking s) asleep) in
    record {
      on = not_true s.board.off (and_left a b ab);
      free = not_true (is_sending s) (and_right a b ab);
      no_key = and_right (a && b) k abk;
      none_ready = those_fail _ (length s.processors) none.0;
      none_ticking = those_fail _ (length s.processors) none.1;
    }

-- no key is typed where none is left, or 256 wait
lt_or_le : (n : ℕ) → nat_le 256 n ≡ true → nat_lt n 256 ≡ false
lt_or_le n h = grind (arith, nat_tests)

not_less : (n m : ℕ) → nat_lt n m ≡ false → m ≤ n
not_less n m h = grind (arith, nat_tests)

abbrev Choice : Type 0
Choice = Option Event × Cursor

if_none : (b : Bool) (x y : Choice) → (b ≡ true → x.0 ≡ None) → y.0 ≡ None → (if b then x else y).0 ≡ None
if_none true x y h k = h refl
if_none false x y h k = k

key_none : (left : Bool) (n : ℕ) → (not left || nat_le 256 n) ≡ true → nat_lt n 256 ≡ true → left ≡ false
key_none false n h k = refl
key_none true n h k = let full : nat_lt n 256 ≡ false = lt_or_le n h in let bad : true ≡ false = sym k ∙ full in absurd cc

pub stuck_chooses_none : (rules : Rules) (c : Cursor) (s : State) → is_stuck (nat_lt c.typed (length rules.keys)) s ≡ true → (chosen rules c s).0 ≡ None
unfolding chosen_with
stuck_chooses_none rules c s h =
    let left = nat_lt c.typed (length rules.keys) in
    let room = nat_lt (length s.board.console.waiting) 256 in
    let key = slice_get rules.keys c.typed in
    let is = stuck_has left s h in
    let step = step_none c s is.none_ready is.none_ticking in
    let open_latch : transfer_ends rules c s ≡ false = ap (λ b. b && (nat_le rules.transfer (since_filled c.filled s) || not (some_ready s))) is.free in
    if_none (transfer_ends rules c s) (Some Done, c) (if wants_key rules c s then type_key key c s else next_step c s)
    (λ t. let bad : true ≡ false = sym t ∙ open_latch in absurd cc)
    (if_none (wants_key rules c s) (type_key key c s) (next_step c s)
    (λ w.
    let roomy = and_left room (gap_is_over rules.gap c s || not (some_ready s))
    (and_right (not (transfer_ends rules c s)) (key_is_due rules c s) w) in
    let none_left : left ≡ false = key_none left (length s.board.console.waiting) is.no_key roomy in
    let past = not_less c.typed (length rules.keys) none_left in
    ap (λ k. (type_key k c s).0) (slice_get_past rules.keys c.typed past) ∙ step)
    step)

-- how many keys a cursor has typed

abbrev key_of : Event → ℕ
key_of e = cond (is_key e) 1 0

abbrev CountsKey : Cursor → Choice → Type 0
CountsKey c x = (e : Event) → x.0 ≡ Some e → x.1.typed ≡ c.typed + key_of e

no_event : (c d : Cursor) → CountsKey c (None, d)
no_event c d e h = absurd (none_is_not e h)

one_event : (c d : Cursor) (e : Event) → d.typed ≡ c.typed + key_of e → CountsKey c (Some e, d)
one_event c d e h f k = subst (λ x. d.typed ≡ c.typed + key_of x) (some_is_one e f k) h

no_more : (n : ℕ) → n ≡ n + 0
no_more n = omega arith

tick_counts : (p : Option ℕ) (c d : Cursor) → d.typed ≡ c.typed → CountsKey c (tick p d)
tick_counts None c d same = no_event c d
tick_counts (Some p) c d same = one_event c (record d { last = Some p; order = interrupted d.order }) (Step p) (same ∙ no_more c.typed)

ordered_counts : (p : Option ℕ) (o : OrderState) (c : Cursor) (s : State) → CountsKey c (ordered p o c s)
ordered_counts None o c s = tick_counts (next_behind (is_ticking s) c.last s) c (record c { order = o }) refl
ordered_counts (Some p) o c s = one_event c (record c { last = Some p; order = o }) (Step p) (no_more c.typed)

step_counts : (c : Cursor) (s : State) → CountsKey c (next_step c s)
step_counts c s = ordered_counts (by_order c.order c.last s).0 (by_order c.order c.last s).1 c s

key_counts : (key : Option ℕ) (c : Cursor) (s : State) → CountsKey c (type_key key c s)
key_counts None c s = step_counts c s
key_counts (Some byte) c s = one_event c (record c { typed = c.typed + 1 }) (Key byte) refl

if_counts : (b : Bool) (c : Cursor) (x y : Choice) → CountsKey c x → CountsKey c y → CountsKey c (if b then x else y)
if_counts true c x y h k = h
if_counts false c x y h k = k

choice_counts : (rules : Rules) (key : Option ℕ) (c : Cursor) (s : State) → CountsKey c (chosen_with rules key c s)
unfolding chosen_with
choice_counts rules key c s =
    if_counts (transfer_ends rules c s) c (Some Done, c) (if wants_key rules c s then type_key key c s else next_step c s)
    (one_event c c Done (no_more c.typed))
    (if_counts (wants_key rules c s) c (type_key key c s) (next_step c s) (key_counts key c s) (step_counts c s))

goes_counts : (rules : Rules) (key : Option ℕ) (c d : Cursor) (s t : State) (e : Entry) → Goes rules key c s e d t → d.typed ≡ c.typed + key_of e.event
goes_counts rules key c d s t e g =
    ap (λ (x : Cursor). x.typed) g.cursor_is ∙ choice_counts rules key c s e.event g.choice_is

-- where the events lead that a policy chooses
pub chooses_leads : (rules : Rules) (keys : ℕ → Option ℕ) (es : List Entry) (c d : Cursor) (s t : State) → Chooses rules keys c s es d t →
    after s (events_of es) ≡ Some t
chooses_leads rules keys [] c d s t h = ap Some (sym h.1)
chooses_leads rules keys (e ∷ es) c d s t h =
    ap (λ r. going_on r (λ v. after v (events_of es))) h.2.accepted ∙ chooses_leads rules keys es h.0 d h.1 t h.3

-- before each of them the run isn't stuck
pub not_stuck_on_the_way : (rules : Rules) (es : List Entry) (c d : Cursor) (s t : State) (k : ℕ) (u : State) → Chooses rules (slice_get rules.keys) c s es d t →
    k < length (events_of es) → after s (take k (events_of es)) ≡ Some u →
    is_stuck (nat_lt (c.typed + count_by is_key (take k (events_of es))) (length rules.keys)) u ≡ true → ⊥
not_stuck_on_the_way rules [] c d s t k u h less at stuck = omega (arith, less)
not_stuck_on_the_way rules (e ∷ es) c d s t zero u h less at stuck =
    let here : s ≡ u = some_is_one s u at in
    let typed : c.typed + 0 ≡ c.typed = omega arith in
    let now : is_stuck (nat_lt c.typed (length rules.keys)) s ≡ true =
    subst (λ v. is_stuck (nat_lt c.typed (length rules.keys)) v ≡ true) (sym here)
    (subst (λ n. is_stuck (nat_lt n (length rules.keys)) u ≡ true) typed stuck) in
    none_is_not e.event (sym (stuck_chooses_none rules c s now) ∙ h.2.choice_is)
not_stuck_on_the_way rules (e ∷ es) c d s t (suc k) u h less at stuck =
    let events = take k (events_of es) in
    let there : after h.1 events ≡ Some u = subst (λ r. going_on r (λ v. after v events) ≡ Some u) h.2.accepted at in
    let typed : h.0.typed ≡ c.typed + key_of e.event = goes_counts rules (slice_get rules.keys c.typed) c h.0 s h.1 e h.2 in
    let cons = sum_by-cons (λ x. key_of x) e.event events in
    let all : c.typed + count_by is_key (e.event ∷ events) ≡ h.0.typed + count_by is_key events = omega (arith, typed, cons) in
    not_stuck_on_the_way rules es h.0 d h.1 t k u h.3 (omega (arith, less)) there
    (subst (λ n. is_stuck (nat_lt n (length rules.keys)) u ≡ true) all stuck)
