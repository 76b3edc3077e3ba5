use Rattle.std.specs.Prelude.{◌≡◌, ℕ, ◌≤◌, List, ◌++◌, length, slice_get}
use Rattle.m161_drive.specs.Choice.{cursor_at}
use Rattle.m161_drive.specs.Delayed.{DelayState}
use Rattle.m161_drive.specs.Drive.{Chooses}
use Rattle.m161_drive.specs.declared.orders.OrderState.TheVariants.{ByDelays}
use Rattle.m161_machine.specs.declared.event.Entry.{Entry}
use Rattle.m161_machine.specs.declared.event.Event.{Event}
use Rattle.m161_machine.specs.History.{events_of}
use Rattle.m161_machine.specs.State.{State}
use Rattle.m161_judge.specs.Memory.{IsKeptOf, StepsMemory}
use Rattle.m161_order.specs.Delays.{behind}
use Rattle.m161_places.specs.Laws.{with_delays}
use Rattle.s161_command.specs.declared.task.SearchTask.{SearchTask}
use Rattle.s161_run.specs.Driven.{rules_of}
use Rattle.s161_search.specs.declared.points.RunPoint.{RunPoint}
use Rattle.s161_search.specs.declared.start.Start.{Start}
use Rattle.s161_search.specs.Given.{Given, criteria_of}
use Rattle.s161_search.specs.Runs.{most_of}
use Rattle.s161_search.specs.helpers.Begun.{IsStarted}

-- Points of the runs of lists of delays.

-- a point of the run of a list behind a start, by turns of so many Steps: its events are those
-- of the start, and behind them the first of the order's, at most as many as that may make; so many places
-- are passed. Which delays its cursor has doesn't matter: those of the list that are left replace them. What
-- is kept of its events' Steps goes along
pub record IsPointOf (start : Start) (task : SearchTask) (given : Given) (steps : ℕ) (numbers : List ℕ) (point : RunPoint) : Type 0 where
  pub order : DelayState
  pub order_is : point.cursor.order ≡ ByDelays order
  pub entries : List Entry
  pub few : length entries ≤ most_of task given
  pub events_are : point.events.items ≡ start.events.items ++ events_of entries
  pub chosen_are :
      Chooses (rules_of task.drive given.keys) (slice_get given.keys)
      (with_delays (record { steps = steps; made = 0 }) numbers (cursor_at (rules_of task.drive given.keys) start.core.value.state)) start.core.value.state entries
      (with_delays order.turns (behind point.passed numbers) point.cursor) point.core.value.state
  pub kept : (s : State) → IsStarted given s start → IsKeptOf (criteria_of given) s point.events.items point.steps

-- what is kept of the Steps of the first of these events becomes what is kept of all
abbrev pub KeepsFrom : Given → List Event → StepsMemory → StepsMemory → Type 0
KeepsFrom given events old new =
    (s : State) (begun rest : List Event) → events ≡ begun ++ rest
    → IsKeptOf (criteria_of given) s begun old → IsKeptOf (criteria_of given) s events new
