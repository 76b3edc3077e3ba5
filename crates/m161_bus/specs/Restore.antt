use Rattle.std.specs.Prelude.{[]}
use Rattle.m161_bus.specs.declared.console.ConsoleParts.{ConsoleParts}
use Rattle.m161_bus.specs.declared.board.restore.BoardParts.{BoardParts}
use Rattle.m161_bus.specs.declared.board.restore.PlaceParts.{PlaceParts}
use Rattle.m161_bus.specs.Console.{ConsoleState}
use Rattle.m161_bus.specs.Board.{BoardState, PlaceState}

-- A board that is made anew from what it holds.

-- a console that holds this: no byte waits, and none was sent
abbrev pub restored_console : ConsoleParts → ConsoleState
restored_console parts = record {
  waiting = [];
  latch = parts.latch;
  output = [];
  write_irq = parts.write_irq;
  read_enable = parts.read_enable;
  read_force = parts.read_force;
}

-- a processor's place that holds this
abbrev pub restored_place : PlaceParts → PlaceState
restored_place parts = record { cirqe = parts.cirqe; cipi = parts.cipi; cram = parts.cram }

-- a board that holds this; the places, and how many there are of everything, stay
abbrev pub with_parts : BoardParts → BoardState → BoardState
with_parts parts b = record b {
  irqe = parts.irqe;
  started = parts.started;
  off = parts.off;
  console = restored_console parts.console;
}
