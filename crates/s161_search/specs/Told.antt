use Rattle.std.specs.Prelude.{Bool, List, Option}
use Rattle.m161_machine.specs.declared.event.Event.{Event}
use Rattle.m161_machine.specs.History.{IsBootState}
use Rattle.m161_machine.specs.State.{State}
use Rattle.m161_reach.specs.declared.told.Told.{Told}
use Rattle.m161_reach.specs.Told.{IsRunTold, IsTold}
use Rattle.s161_command.specs.declared.task.SearchTask.{SearchTask}
use Rattle.s161_search.specs.Given.{Given, criteria_of}

-- The verdict of a search, from the state at boot.

-- on a list of events
abbrev pub IsToldAt : SearchTask → Given → List Event → Option Told → Type 0
IsToldAt task given events told =
    (booted : State) × IsBootState given.file given.conf booted
    × IsTold task.hung (criteria_of given) booted events told

-- on the events of a run, that is cut or isn't
abbrev pub IsRunToldAt : Bool → SearchTask → Given → List Event → Option Told → Type 0
IsRunToldAt cut task given events told =
    (booted : State) × IsBootState given.file given.conf booted
    × IsRunTold cut task.hung (criteria_of given) booted events told
