use Rattle.m161_machine.specs.State.{State}
use Rattle.s161_base.proofs.Asking.{IsNoFile, none_by}
use Rattle.s161_base.specs.Streams.{Streams}
use Rattle.s161_base.specs.declared.fault.Fault.{Fault}
use Rattle.s161_command.specs.declared.drive.Drive.{Drive}
use Rattle.s161_run.specs.Consoles.{Fails}

-- The faults of a run at a terminal are none of a file.

pub serve_is_none : (options : Drive) (s : State) (x : Streams) (fault : Fault) → Fails options s x fault → IsNoFile fault
serve_is_none options s x fault h = none_by (Fails options s x) (λ name why h. h) fault h
