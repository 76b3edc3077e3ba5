use Rattle.std.specs.Prelude.{◌≡◌, ℕ, ◌≤◌, List, [], ◌++◌, length, slice_get}
use Rattle.m161_drive.specs.Choice.{cursor_at}
use Rattle.m161_drive.specs.Delayed.{DelayState}
use Rattle.m161_drive.specs.Drive.{Chooses}
use Rattle.m161_drive.specs.declared.orders.OrderState.TheVariants.{ByDelays}
use Rattle.m161_machine.specs.declared.event.Entry.{Entry}
use Rattle.m161_machine.specs.declared.event.Event.{Event}
use Rattle.m161_machine.specs.History.{IsBootState, events_of}
use Rattle.m161_machine.specs.State.{State}
use Rattle.m161_judge.specs.Memory.{IsKeptOf, StepsMemory}
use Rattle.m161_judge.specs.declared.run.JudgedRun.{JudgedRun}
use Rattle.m161_judge.specs.Run.{IsRun}
use Rattle.m161_judge.specs.Verdict.{Criteria}
use Rattle.m161_order.specs.declared.order.Order.{Order}
use Rattle.m161_order.specs.declared.order.Order.TheVariants.{Turns}
use Rattle.m161_order.specs.Delays.{behind}
use Rattle.m161_places.specs.Laws.{with_delays}
use Rattle.m161_c.specs.declared.points.RunPoint.{RunPoint}
use Rattle.m161_c.specs.Driven.{rules_in}
use Rattle.m161_c.specs.Seeds.{Asked}

-- Points of the runs of lists of delays.

-- a point of the run of a list from a state on, by turns of so many Steps: its events are the first of the order's,
-- at most as many as that may make; so many places are passed. Which delays its cursor has doesn't matter: those of
-- the list that are left replace them. What is kept of its events' Steps goes along, where this is kept of none
pub record IsPointOf (a : Asked) (s : State) (kept : StepsMemory) (steps : ℕ) (numbers : List ℕ) (point : RunPoint) : Type 0 where
  pub order : DelayState
  pub order_is : point.cursor.order ≡ ByDelays order
  pub entries : List Entry
  pub few : length entries ≤ a.events
  pub events_are : point.events.items ≡ events_of entries
  pub chosen_are :
      Chooses (rules_in a.numbers (Turns steps) a.goal.keys) (slice_get a.goal.keys)
      (with_delays (record { steps = steps; made = 0 }) numbers (cursor_at (rules_in a.numbers (Turns steps) a.goal.keys) s)) s entries
      (with_delays order.turns (behind point.passed numbers) point.cursor) point.core.value.state
  pub is_kept : IsKeptOf a.goal s [] kept → IsKeptOf a.goal s point.events.items point.steps

-- what is kept of the Steps of the first of these events becomes what is kept of all
abbrev pub KeepsFrom : Criteria → List Event → StepsMemory → StepsMemory → Type 0
KeepsFrom goal events old new =
    (s : State) (begun rest : List Event) → events ≡ begun ++ rest
    → IsKeptOf goal s begun old → IsKeptOf goal s events new

-- the run of an order, where its state is that at boot, and this is kept of no Steps
abbrev pub IsRunFrom : Asked → State → StepsMemory → Order → JudgedRun → Type 0
IsRunFrom a s kept order run =
    IsBootState a.file a.conf s → IsKeptOf a.goal s [] kept
    → IsRun a.file a.conf (rules_in a.numbers order a.goal.keys) a.events a.goal run
