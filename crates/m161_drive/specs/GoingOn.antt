use Rattle.std.specs.Prelude.{◌≡◌, ℕ, ◌+◌, ◌≤◌, List, ◌++◌, length, slice_get}
use Rattle.m161_machine.specs.declared.event.Entry.{Entry}
use Rattle.m161_machine.specs.State.{State}
use Rattle.m161_drive.specs.declared.cursor.Cursor.{Cursor}
use Rattle.m161_drive.specs.declared.orders.OrderState.TheVariants.{ByDelays}
use Rattle.m161_drive.specs.declared.run.Driven.{Driven}
use Rattle.m161_drive.specs.Choice.{cursor_at}
use Rattle.m161_drive.specs.Delayed.{DelayState}
use Rattle.m161_drive.specs.Drive.{Chooses, Drives, Stops}
use Rattle.m161_drive.specs.Policy.{Rules}

-- Driven runs that go on from where another one came.

-- a cursor by turns with delays; another one is the same but for the delays that are left
abbrev pub IsWithLeft : Cursor → List ℕ → Cursor → Type 0
IsWithLeft c left new =
    (d : DelayState) × (c.order ≡ ByDelays d) × (new ≡ record c { order = ByDelays (record d { left = left }) })

-- a driven run of at most n events from a cursor and a state on: the policy chose exactly the events
-- of these entries, until the run stopped in another state
pub record DrivesOn
    (rules : Rules) (n : ℕ) (c : Cursor) (s : State) (driven : Driven) (entries : List Entry) (t : State)
    : Type 0 where
  pub cursor : Cursor
  pub made_is : length entries ≡ driven.made
  pub few : driven.made ≤ n
  pub chosen_are : Chooses rules (slice_get rules.keys) c s entries cursor t
  pub stops : Stops rules n driven.made cursor t driven.stop

-- the law of going on: events that a policy chose with a new cursor, and behind them a run of at most
-- as many as are left of n, are a run of at most n
abbrev pub GoesOnWhole : Rules → ℕ → State → Type 0
GoesOnWhole rules n s =
    (c : Cursor) (u t : State) (es fs : List Entry) (left : ℕ) (driven : Driven) →
    Chooses rules (slice_get rules.keys) (cursor_at rules s) s es c u → length es + left ≡ n →
    DrivesOn rules left c u driven fs t →
    Drives rules n s (record { made = length es + driven.made; stop = driven.stop }) (es ++ fs) t
