use Rattle.std.specs.Prelude.{◌≡◌, ℕ, Bool, List}
use Rattle.circular_buffer.specs.Buffer.{keep_last}
use Rattle.m161_machine.specs.History.{events_of}
use Rattle.m161_machine.specs.State.{State}
use Rattle.m161_machine.specs.declared.event.Entry.{Entry}
use Rattle.m161_machine.specs.declared.event.Event.{Event}
use Rattle.m161_traps.specs.declared.watch.Watch.{Watch}
use Rattle.m161_traps.specs.Watching.{IsWatched}
use Rattle.s161_command.specs.declared.drive.Drive.{Drive}
use Rattle.s161_run.specs.Behind.{GoesBehind}
use Rattle.s161_run.specs.Driven.{rules_of}
use Rattle.s161_run.specs.Runs.{MakesEvents, told_traps}
use Rattle.s161_run.specs.declared.events.RunStop.{RunStop}

-- What is kept of the events of a run: the last entries, the lines of their traps, and what is watched
-- of all.

-- the first events of a schedule were made
pub record IsMade
    (s : State) (events : List Event) (room : ℕ) (counted : Bool) (t : State) (stop : RunStop)
    (last : List Entry) (lines : List ℕ) (watch : Watch) : Type 0 where
  pub entries : List Entry
  pub makes : MakesEvents s events stop entries t
  pub last_are : last ≡ keep_last room entries
  pub lines_are : lines ≡ told_traps counted s (events_of entries)
  pub watched : IsWatched watch entries

-- the first events were made, and those that a policy chose behind them
pub record IsDrivenMade
    (options : Drive) (keys : List ℕ) (s : State) (first : List Event) (room : ℕ) (counted : Bool)
    (t : State) (stop : RunStop) (last : List Entry) (lines : List ℕ) (watch : Watch) : Type 0 where
  pub entries : List Entry
  pub goes : GoesBehind (rules_of options keys) options.events s first stop entries t
  pub last_are : last ≡ keep_last room entries
  pub lines_are : lines ≡ told_traps counted s (events_of entries)
  pub watched : IsWatched watch entries
