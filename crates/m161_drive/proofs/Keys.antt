use Rattle.std.proofs.Common.{◌≡◌, refl, ℕ, Bool, true, false, not}
use Rattle.std.specs.Prelude.{Option, None, Some, if◌then◌else◌}
use Rattle.m161_machine.specs.declared.event.Event.{Event}
use Rattle.m161_machine.specs.declared.event.Event.TheVariants.{Done}
use Rattle.m161_machine.specs.State.{State}
use Rattle.m161_drive.specs.declared.cursor.Cursor.{Cursor}
use Rattle.m161_drive.specs.declared.orders.OrderState.{OrderState}
use Rattle.m161_drive.specs.Choice.{chosen_with, key_is_due, next_step, ordered, tick, transfer_ends, type_key, wants_key}
use Rattle.m161_drive.specs.Drive.{KeyIsTyped, KeyIsUnread, KeysAreApart, NoKeyIsCounted}
use Rattle.m161_drive.specs.Orders.{by_order}
use Rattle.m161_drive.specs.Policy.{Rules}
use Rattle.m161_drive.specs.Ready.{is_ticking, next_behind}
use Rattle.m161_drive.proofs.Fitting.{and_first}

-- The next key in a choice.

abbrev Choice : Type 0
Choice = Option Event × Cursor

unwanted : (ends wants : Bool) (done x y step : Choice) → wants ≡ false →
    (if ends then done else if wants then x else step) ≡ (if ends then done else if wants then y else step)
unwanted true wants done x y step h = refl
unwanted false true done x y step h = let bad : true ≡ false = h in absurd cc
unwanted false false done x y step h = refl

pub key_is_unread : (rules : Rules) (c : Cursor) (s : State) → KeyIsUnread rules c s
unfolding chosen_with
key_is_unread rules c s j k h =
    unwanted (transfer_ends rules c s) (wants_key rules c s) (Some Done, c) (type_key j c s) (type_key k c s) (next_step c s) h

wanted : (ends wants : Bool) (done x step : Choice) → not ends ≡ true → wants ≡ true →
    (if ends then done else if wants then x else step) ≡ x
wanted true wants done x step n h = let bad : false ≡ true = n in absurd cc
wanted false true done x step n h = refl
wanted false false done x step n h = let bad : false ≡ true = h in absurd cc

pub key_is_typed : (rules : Rules) (c : Cursor) (s : State) → KeyIsTyped rules c s
unfolding chosen_with
key_is_typed rules c s key h =
    let on : not (transfer_ends rules c s) ≡ true = and_first (not (transfer_ends rules c s)) (key_is_due rules c s) h in
    wanted (transfer_ends rules c s) (wants_key rules c s) (Some Done, c) (type_key key c s) (next_step c s) on h

tick_counts : (p : Option ℕ) (c : Cursor) → (tick p c).1.typed ≡ c.typed
tick_counts None c = refl
tick_counts (Some p) c = refl

ordered_counts : (p : Option ℕ) (o : OrderState) (c : Cursor) (s : State) → (ordered p o c s).1.typed ≡ c.typed
ordered_counts None o c s = tick_counts (next_behind (is_ticking s) c.last s) (record c { order = o })
ordered_counts (Some p) o c s = refl

step_counts : (c : Cursor) (s : State) → (next_step c s).1.typed ≡ c.typed
step_counts c s = ordered_counts (by_order c.order c.last s).0 (by_order c.order c.last s).1 c s

if_counts : (b : Bool) (x y : Choice) (n : ℕ) → x.1.typed ≡ n → y.1.typed ≡ n → (if b then x else y).1.typed ≡ n
if_counts true x y n h k = h
if_counts false x y n h k = k

pub no_key_is_counted : (rules : Rules) (c : Cursor) (s : State) → NoKeyIsCounted rules c s
unfolding chosen_with
no_key_is_counted rules c s =
    let step = next_step c s in
    if_counts (transfer_ends rules c s) (Some Done, c) (if wants_key rules c s then step else step) c.typed refl
    (if_counts (wants_key rules c s) step step c.typed (step_counts c s) (step_counts c s))

pub keys_are_apart : (rules : Rules) (c : Cursor) (s : State) → KeysAreApart rules c s
unfolding chosen_with
keys_are_apart rules c s key keys = refl
