use Rattle.std.specs.Prelude.{◌≡◌, ◌≢◌, ℕ, ◌≤◌, ◌<◌, ◌⊎◌, List, [], length, slice_get, true, Option, None}
use Rattle.m161_machine.specs.declared.event.Entry.{Entry}
use Rattle.m161_machine.specs.declared.event.Refusal.{Refusal}
use Rattle.m161_machine.specs.State.{State}
use Rattle.m161_order.specs.declared.delays.Delays.{Delays}
use Rattle.m161_order.specs.declared.order.Order.TheVariants.{Delayed}
use Rattle.m161_order.specs.Delays.{delays_of}
use Rattle.m161_drive.specs.declared.run.Driven.{Driven}
use Rattle.m161_drive.specs.declared.run.Stop.TheVariants.{Refused}
use Rattle.m161_drive.specs.declared.cursor.Cursor.{Cursor}
use Rattle.m161_drive.specs.declared.orders.OrderState.TheVariants.{ByDelays, InTurns}
use Rattle.m161_drive.specs.declared.turns.Turns.{Turns}
use Rattle.m161_machine.specs.History.{events_of}
use Rattle.m161_drive.specs.Choice.{chosen_with, cursor_at}
use Rattle.m161_drive.specs.Drive.{Chooses, Drives}
use Rattle.m161_drive.specs.Policy.{Rules}
use Rattle.m161_delays.specs.Lists.{IsAscendingFrom, IsUseful, times}
use Rattle.m161_places.specs.Places.{offers}

-- Laws of delays.

-- the cursor, but that its order is by these turns with these delays left
abbrev pub with_delays : Turns → List ℕ → Cursor → Cursor
with_delays turns left c = record c { order = ByDelays (record { turns = turns; left = left }) }

-- the numbers of ready processors at the places of a list's run
abbrev pub offered :
    ℕ → Rules → (ℕ → Option ℕ) → Turns → Cursor → State → List ℕ → List ℕ
offered n rules keys turns c s numbers = offers n rules keys (with_delays turns numbers c) s

-- these are the entries of the run of a list too, but for the delays that are left then
abbrev pub IsRunOf :
    Rules → (ℕ → Option ℕ) → Turns → List ℕ → Cursor → State → List Entry → Cursor → State → Type 0
IsRunOf rules keys turns all c s es d t =
    (end : Turns) × (left rest : List ℕ) × (b : Cursor) × (d ≡ with_delays end left b)
    × Chooses rules keys (with_delays turns all c) s es (with_delays end rest b) t

-- of a list, the delays that have an effect along its run of at most n events: a part of it that is
-- useful, and the run of this part is the run of the list
pub record IsEffective
    (n : ℕ) (rules : Rules) (keys : ℕ → Option ℕ) (turns : Turns) (c : Cursor) (s : State) (all part : List ℕ)
    : Type 0 where
  pub is_part : (j : ℕ) → times j part ≤ times j all
  pub is_same_or_shorter : IsAscendingFrom 0 all → (part ≡ all) ⊎ (length part < length all)
  pub is_ascending : IsAscendingFrom 0 part
  pub is_useful : IsUseful (offered n rules keys turns c s part) part
  pub is_run : (es : List Entry) (d : Cursor) (t : State) → length es ≤ n →
      Chooses rules keys (with_delays turns part c) s es d t →
      IsRunOf rules keys turns all c s es d t

-- so where a part has a run in which no event is refused, the whole list has this run
abbrev pub HasRunOfPart :
    Rules → ℕ → ℕ → Delays → Delays → State → Driven → List Entry → State → Type 0
HasRunOfPart rules n steps all part s driven entries t =
    IsEffective n rules (slice_get rules.keys) (record { steps = steps; made = 0 }) (cursor_at rules s) s
    (delays_of all) (delays_of part)
    → Drives (record rules { order = Delayed steps part }) n s driven entries t
    → ((refusal : Refusal) → driven.stop ≢ Refused refusal)
    → Drives (record rules { order = Delayed steps all }) n s driven entries t

-- events after which a run of at most n events goes no further: the machine is off, there are n of them, or
-- no event is chosen
abbrev pub IsWhole : ℕ → Rules → (ℕ → Option ℕ) → List Entry → Cursor → State → Type 0
IsWhole n rules keys es d t =
    (t.board.off ≡ true) ⊎ ((length es ≡ n) ⊎ ((chosen_with rules (keys d.typed) d t).0 ≡ None))

-- two runs from one state on that go no further have different events
abbrev pub DifferInEvents : ℕ → Rules → (ℕ → Option ℕ) → Cursor → Cursor → State → Type 0
DifferInEvents n rules keys a b s =
    (es fs : List Entry) (d e : Cursor) (t u : State) → Chooses rules keys a s es d t → IsWhole n rules keys es d t →
    Chooses rules keys b s fs e u → IsWhole n rules keys fs e u → events_of es ≢ events_of fs

-- so do those of useful lists in which some number stands a different number of times
abbrev pub HaveDifferentRuns : ℕ → Rules → (ℕ → Option ℕ) → Turns → Cursor → State → Type 0
HaveDifferentRuns n rules keys turns c s =
    (a b : List ℕ) (j : ℕ) → IsUseful (offered n rules keys turns c s a) a →
    IsUseful (offered n rules keys turns c s b) b → times j a ≢ times j b →
    DifferInEvents n rules keys (with_delays turns a c) (with_delays turns b c) s

-- without delays the order is that of turns
abbrev pub IsByTurns : Rules → (ℕ → Option ℕ) → Turns → Cursor → State → Type 0
IsByTurns rules keys turns c s =
    (es : List Entry) (d : Cursor) (t : State) → Chooses rules keys (record c { order = InTurns turns }) s es d t →
    (end : Turns) × (b : Cursor) × (d ≡ record b { order = InTurns end })
    × Chooses rules keys (with_delays turns [] c) s es (with_delays end [] b) t
