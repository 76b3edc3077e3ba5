use Rattle.std.specs.Prelude.{List, replicate}
use Rattle.m161_machine.specs.declared.event.Event.{Event}
use Rattle.m161_machine.specs.declared.event.Event.TheVariants as events
use Rattle.m161_debug.specs.declared.batch.Batch.{Batch}
use Rattle.m161_debug.specs.declared.batch.Batch.TheVariants.{Listed, Steps}

-- the events that are run over
abbrev pub events_in : Batch → List Event
events_in (Listed events) = events.now
events_in (Steps p n) = replicate n (events.Step p)
