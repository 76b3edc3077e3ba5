use Rattle.std.specs.Prelude.{ℕ, List, slice_set, Option}
use Rattle.m161_bus.specs.declared.board.restore.BoardParts.{BoardParts}
use Rattle.m161_bus.specs.declared.board.restore.PlaceParts.{PlaceParts}
use Rattle.m161_bus.specs.Board.{BoardState, with_place}
use Rattle.m161_bus.specs.Restore.{restored_place, with_parts}
use Rattle.m161_cpu.specs.Links.{with_link}
use Rattle.m161_cpu.specs.Processor.{Processor}
use Rattle.m161_machine.specs.declared.event.Conflict.{Conflict}
use Rattle.m161_machine.specs.State.{State}

-- States of which a part is made anew.

-- the number of accepted events
abbrev pub with_made : ℕ → State → State
with_made made s = record s { made = made }

-- a processor
abbrev pub with_processor : ℕ → Processor → State → State
with_processor p processor s = record s { processors = slice_set s.processors p processor }

-- a console in which these bytes wait
abbrev pub with_waiting : List ℕ → BoardState → BoardState
with_waiting bytes b = record b { console = record b.console { waiting = bytes } }

-- the board's registers, the bytes that wait, and what switched a strict machine off
abbrev pub with_board_parts : BoardParts → List ℕ → Option Conflict → State → State
with_board_parts parts waiting conflict s =
    record s { board = with_waiting waiting (with_parts parts s.board); conflict = conflict }

-- what the controller keeps for a processor, and the processor's link
abbrev pub with_place_and_link : ℕ → PlaceParts → Option ℕ → State → State
with_place_and_link p parts link s = record s {
  board = with_place p (restored_place parts) s.board;
  links = with_link p link s.links;
}

-- memory
abbrev pub with_memory : List ℕ → State → State
with_memory memory s = record s { memory = memory }
