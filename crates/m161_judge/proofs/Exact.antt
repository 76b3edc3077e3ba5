use Rattle.std.proofs.Common.{◌≡◌, ◌∙◌, refl, sym, ap, subst, ℕ, ◌-◌, ◌<◌, Bool, true, false, not, List, ◌++◌, length, arith, ◌⊎◌, inl, inr}
use Rattle.std.specs.Prelude.{Option, None, Some, ◌&&◌, ◌||◌, if◌then◌else◌, find, is_some, nat_le, nat_lt, slice_get}
use Rattle.std.specs.List.{list_any, range_with_len}
use Rattle.std.proofs.lemmas.Bool.Decides.{nat_tests}
use Rattle.circular_buffer.proofs.Places.{slice_get-some}
use Rattle.m161_order.specs.declared.order.Order.TheVariants as order
use Rattle.m161_machine.specs.declared.event.Event.{Event}
use Rattle.m161_machine.specs.declared.event.Event.TheVariants.{Step, Key, Done}
use Rattle.m161_machine.specs.State.{State}
use Rattle.m161_drive.specs.declared.cursor.Cursor.{Cursor}
use Rattle.m161_drive.specs.declared.turns.Turns.{Turns}
use Rattle.m161_drive.specs.declared.orders.OrderState.TheVariants.{InTurns}
use Rattle.m161_drive.specs.Choice.{chosen, chosen_with, gap_is_over, next_step, ordered, tick, transfer_ends, type_key, wants_key}
use Rattle.m161_drive.specs.Orders.{begun}
use Rattle.m161_drive.specs.Policy.{Rules}
use Rattle.m161_drive.specs.Ready.{cyclic, is_asleep, is_ready, is_sending, is_ticking, next_behind, some_ready, some_ticking}
use Rattle.m161_drive.proofs.Finding.{any_found, find_first, range_whole}
use Rattle.m161_judge.specs.Laws.{NoPolicyChooses, StuckIsNoChoice}
use Rattle.m161_judge.specs.Verdict.{is_stuck}
use Rattle.m161_judge.proofs.Choosing.{stuck_chooses_none}

-- A state is stuck exactly where no policy chooses an event.

abbrev Choice : Type 0
Choice = Option Event × Cursor

some_event : (e : Event) → ◌≡◌ {A = Option Event} (Some e) None → ⊥
some_event e h = cc

some_number : (p : ℕ) → ◌≡◌ {A = Option ℕ} (Some p) None → ⊥
some_number p h = cc

true_or_false : (b : Bool) → (b ≡ true) ⊎ (b ≡ false)
true_or_false true = inl refl
true_or_false false = inr refl

first_is : (b : Bool) (x y : Choice) → b ≡ true → (if b then x else y).0 ≡ None → x.0 ≡ None
first_is true x y h k = k
first_is false x y h k = let bad : false ≡ true = h in absurd cc

second_is : (b : Bool) (x y : Choice) → b ≡ false → (if b then x else y).0 ≡ None → y.0 ≡ None
second_is true x y h k = let bad : true ≡ false = h in absurd cc
second_is false x y h k = k

-- a policy that chooses wherever there is something to do

abbrev eager : List ℕ → Rules
eager keys = record { order = order.Turns 1; transfer = 0; gap = Some 0; keys = keys }

abbrev start : ℕ → Cursor
start typed = record { typed = typed; keyed = 0; filled = None; last = None; order = InTurns (record { steps = 1; made = 0 }) }

tick_none : (p : Option ℕ) (c : Cursor) → (tick p c).0 ≡ None → p ≡ None
tick_none None c h = refl
tick_none (Some p) c h = absurd (some_event (Step p) h)

step_parts : (o : Option ℕ) (t : Turns) (c : Cursor) (s : State) → (ordered (begun o t).0 (InTurns (begun o t).1) c s).0 ≡ None →
    (o ≡ None) × (next_behind (is_ticking s) c.last s ≡ None)
step_parts None t c s h = (refl, tick_none (next_behind (is_ticking s) c.last s) (record c { order = InTurns t }) h)
step_parts (Some p) t c s h = absurd (some_event (Step p) h)

none_first : (test : ℕ → Bool) (xs ys : List ℕ) (o : Option ℕ) → find test xs ≡ o → find test (xs ++ ys) ≡ None → find test xs ≡ None
none_first test xs ys None is h = is
none_first test xs ys (Some p) is h = absurd (some_number p (sym (find_first test xs ys p is) ∙ h))

none_any : (test : ℕ → Bool) (n : ℕ) → find test (cyclic 0 n) ≡ None → list_any test (range_with_len 0 n) ≡ false
none_any test n h =
    let whole = range_whole n in
    let none = none_first test (range_with_len 0 (n - 0)) (range_with_len 0 0) (find test (range_with_len 0 (n - 0))) refl h in
    any_found test (range_with_len 0 n) ∙ ap is_some (sym (ap (find test) whole) ∙ none)

is_asleep_then : (s : State) → some_ready s ≡ false → some_ticking s ≡ false → is_asleep s ≡ true
is_asleep_then s a b = λ i. not (a i || b i)

all_true : (off sending key asleep : Bool) → off ≡ false → sending ≡ false → key ≡ true → asleep ≡ true → (not off && not sending && key && asleep) ≡ true
all_true off sending key asleep a b c d = λ i. not (a i) && not (b i) && c i && d i

roomy : (n : ℕ) → nat_le 256 n ≡ false → nat_lt n 256 ≡ true
roomy n h = grind (arith, nat_tests)

at_once : (n : ℕ) → nat_le 0 n ≡ true
at_once n = grind (arith, nat_tests)

is_less : (n m : ℕ) → nat_lt n m ≡ true → n < m
is_less n m h = grind (arith, nat_tests)

or_is : (left full : Bool) → (left ≡ true → full ≡ false → ⊥) → (not left || full) ≡ true
or_is true true h = refl
or_is true false h = absurd (h refl refl)
or_is false full h = refl

and_all : (a b c : Bool) → a ≡ false → b ≡ true → c ≡ true → (not a && (b && c)) ≡ true
and_all a b c x y z = λ i. not (x i) && (y i && z i)

some_key : (key : Option ℕ) (byte : ℕ) (c : Cursor) (s : State) → key ≡ Some byte → (type_key key c s).0 ≡ None → ⊥
some_key key byte c s is h = some_event (Key byte) (subst (λ k. (type_key k c s).0 ≡ None) is h)

rest_step : (b : Bool) (key : Option ℕ) (c : Cursor) (s : State) → (if b then type_key key c s else next_step c s).0 ≡ None → (next_step c s).0 ≡ None
rest_step true None c s h = h
rest_step true (Some byte) c s h = absurd (some_event (Key byte) h)
rest_step false key c s h = h

no_choice_is_stuck : (keys : List ℕ) (typed : ℕ) (s : State) → s.board.off ≡ false → (chosen (eager keys) (start typed) s).0 ≡ None →
    is_stuck (nat_lt typed (length keys)) s ≡ true
unfolding chosen_with
no_choice_is_stuck keys typed s on none =
    let rules = eager keys in
    let c = start typed in
    let key = slice_get keys typed in
    let step = next_step c s in
    let ends = transfer_ends rules c s in
    let wants = wants_key rules c s in
    let free : is_sending s ≡ false = elim (true_or_false (is_sending s)) as (λ _. is_sending s ≡ false) [
      | inr f ↦ f
      | inl t ↦ absurd (some_event Done (first_is ends (Some Done, c) (if wants then type_key key c s else step)
          (ap (λ b. b && (nat_le 0 0 || not (some_ready s))) t) none))
    ] in
    let not_ends : ends ≡ false = ap (λ b. b && (nat_le 0 0 || not (some_ready s))) free in
    let rest = second_is ends (Some Done, c) (if wants then type_key key c s else step) not_ends none in
    let waiting = length s.board.console.waiting in
    let no_key : (not (nat_lt typed (length keys)) || nat_le 256 waiting) ≡ true =
    or_is (nat_lt typed (length keys)) (nat_le 256 waiting) (λ left full.
    let byte = slice_get-some keys typed (is_less typed (length keys) left) in
    let over : gap_is_over rules.gap c s || not (some_ready s) ≡ true = ap (λ b. b || not (some_ready s)) (at_once (s.made - 0)) in
    some_key key byte.0 c s byte.1
    (first_is wants (type_key key c s) step (and_all ends (nat_lt waiting 256) (gap_is_over rules.gap c s || not (some_ready s)) not_ends (roomy waiting full) over) rest)) in
    let no_step = rest_step wants key c s rest in
    let parts = step_parts (next_behind (is_ready s) None s) (record { steps = 1; made = 0 }) c s no_step in
    let n = length s.processors in
    all_true s.board.off (is_sending s) (not (nat_lt typed (length keys)) || nat_le 256 waiting) (is_asleep s) on free no_key
    (is_asleep_then s (none_any (is_ready s) n parts.0) (none_any (is_ticking s) n parts.1))

stuck_is_no_choice_of : (keys : List ℕ) (typed : ℕ) (s : State) → is_stuck (nat_lt typed (length keys)) s ≡ true → NoPolicyChooses keys typed s
stuck_is_no_choice_of keys typed s h rules c same so_many =
    stuck_chooses_none rules c s
    (subst (λ n. is_stuck (nat_lt n (length rules.keys)) s ≡ true) (sym so_many)
    (subst (λ ks. is_stuck (nat_lt typed (length ks)) s ≡ true) (sym same) h))

pub stuck_is_no_choice : (keys : List ℕ) (typed : ℕ) (s : State) → StuckIsNoChoice keys typed s
stuck_is_no_choice keys typed s on = (
  stuck_is_no_choice_of keys typed s,
  λ none. no_choice_is_stuck keys typed s on (none (eager keys) (start typed) refl refl),
)
