use Rattle.std.specs.Prelude.{ℕ, ◌+◌, ◌-◌, Bool, false, not, nat_lt, nat_le, ◌&&◌, ◌||◌, if◌then◌else◌, length, slice_get, Option, None, Some}
use Rattle.m161_machine.specs.declared.event.Event.{Event}
use Rattle.m161_machine.specs.declared.event.Event.TheVariants.{Step, Key, Done}
use Rattle.m161_machine.specs.State.{State}
use Rattle.m161_drive.specs.declared.cursor.Cursor.{Cursor}
use Rattle.m161_drive.specs.declared.orders.OrderState.{OrderState}
use Rattle.m161_drive.specs.Orders.{by_order, interrupted, order_at_start}
use Rattle.m161_drive.specs.Policy.{Rules}
use Rattle.m161_drive.specs.Ready.{is_sending, is_ticking, next_behind, some_ready}

-- The event that a policy chooses in a state.

-- how many events were accepted after the one that filled the latch
abbrev pub since_filled : Option ℕ → State → ℕ
since_filled None s = 0
since_filled (Some at) s = s.made - at

-- the byte in the latch is sent now
abbrev pub transfer_ends : Rules → Cursor → State → Bool
transfer_ends rules c s =
    is_sending s && (nat_le rules.transfer (since_filled c.filled s) || not (some_ready s))

-- so many events were accepted after the last key
abbrev pub gap_is_over : Option ℕ → Cursor → State → Bool
gap_is_over None c s = false
gap_is_over (Some gap) c s = nat_le gap (s.made - c.keyed)

-- there is room for a key, and it is time for one
abbrev pub key_is_due : Rules → Cursor → State → Bool
key_is_due rules c s =
    nat_lt (length s.board.console.waiting) 256
    && (gap_is_over rules.gap c s || not (some_ready s))

-- a key may be typed now, if there is one
abbrev pub wants_key : Rules → Cursor → State → Bool
wants_key rules c s = not (transfer_ends rules c s) && key_is_due rules c s

-- the next Step is one of a processor whose timer runs
abbrev pub tick : Option ℕ → Cursor → Option Event × Cursor
tick None c = (None, c)
tick (Some p) c = (Some (Step p), record c { last = Some p; order = interrupted c.order })

-- the next Step is one that the order chooses, if a processor is ready
abbrev pub ordered : Option ℕ → OrderState → Cursor → State → Option Event × Cursor
ordered None o c s = tick (next_behind (is_ticking s) c.last s) (record c { order = o })
ordered (Some p) o c s = (Some (Step p), record c { last = Some p; order = o })

abbrev pub next_step : Cursor → State → Option Event × Cursor
next_step c s = ordered (by_order c.order c.last s).0 (by_order c.order c.last s).1 c s

abbrev pub type_key : Option ℕ → Cursor → State → Option Event × Cursor
type_key None c s = next_step c s
type_key (Some byte) c s = (Some (Key byte), record c { typed = c.typed + 1 })

-- the next event, if there is one, and the cursor then; `key` is the next key, if there is one
unfoldable pub chosen_with : Rules → Option ℕ → Cursor → State → Option Event × Cursor
chosen_with rules key c s =
    if transfer_ends rules c s then (Some Done, c)
    else if wants_key rules c s then type_key key c s
    else next_step c s

-- the same, with the keys of the policy
abbrev pub chosen : Rules → Cursor → State → Option Event × Cursor
chosen rules c s = chosen_with rules (slice_get rules.keys c.typed) c s

-- at which event the latch was filled, after the event that led to a state with this latch
abbrev pub filled_after : Option ℕ → Option ℕ → ℕ → Option ℕ
filled_after None filled made = None
filled_after (Some byte) None made = Some made
filled_after (Some byte) (Some at) made = Some at

abbrev pub keyed_after : Event → ℕ → ℕ → ℕ
keyed_after (Step p) keyed made = keyed
keyed_after (Key byte) keyed made = made
keyed_after Done keyed made = keyed

-- the cursor after the event that it chose was accepted, and led to this state
abbrev pub taken : Event → State → Cursor → Cursor
taken e s c = record c {
  keyed = keyed_after e c.keyed s.made;
  filled = filled_after s.board.console.latch c.filled s.made;
}

-- a new cursor
abbrev pub cursor_at : Rules → State → Cursor
cursor_at rules s = record {
  typed = 0;
  keyed = s.made;
  filled = filled_after s.board.console.latch None s.made;
  last = None;
  order = order_at_start rules.order (length s.processors);
}
