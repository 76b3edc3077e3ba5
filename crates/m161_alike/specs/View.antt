use Rattle.std.specs.Prelude.{◌≡◌, ℕ, ◌+◌, Bool, not, ◌==◌, ◌||◌, if◌then◌else◌, List, [], ◌∷◌}
use Rattle.m161_isa.specs.Bits.{has_bit}
use Rattle.m161_cop0.specs.Control.{Control}
use Rattle.m161_bus.specs.Board.{BoardState}
use Rattle.m161_cpu.specs.Processor.{Processor}
use Rattle.m161_machine.specs.State.{State}
use Rattle.m161_alike.specs.declared.known.Known.{Known}
use Rattle.m161_alike.specs.declared.reads.Reads.{Reads}

-- Views: states without the time that isn't known, and without what the console has sent.

-- Random, if it is known, else its value at a start
abbrev pub random_in : Bool → Control → ℕ
random_in known c = if known then c.random else 63

-- Count, if it is known, or a timer is armed: then it says when the timer interrupts
abbrev pub count_in : Bool → Control → ℕ
count_in known c = if known || not (c.compare == 0) then c.count else 0

-- coprocessor 0, of whose time this is known
abbrev pub control_view : Reads → Control → Control
control_view known c = record c {
  random = random_in known.random c;
  count = count_in known.count c;
  age = 0;
}

-- a processor, without the count of its Steps
abbrev pub processor_view : Reads → Processor → Processor
processor_view known p = record p { control = control_view known p.control; count = 0 }

-- a board whose console has sent these bytes
abbrev pub with_output : List ℕ → BoardState → BoardState
with_output sent b = record b { console = record b.console { output = sent } }

abbrev pub board_view : BoardState → BoardState
board_view b = with_output [] b

-- what is known of a processor's time
abbrev pub known_of : Known → ℕ → Reads
known_of known p = record { random = has_bit known.random p; count = has_bit known.count p }

-- what one of two has
abbrev pub joined : Reads → Reads → Reads
joined a b = record { random = a.random || b.random; count = a.count || b.count }

-- the processors from number c on
abbrev pub processors_view : Known → ℕ → List Processor → List Processor
processors_view known c [] = []
processors_view known c (p ∷ ps) =
    processor_view (known_of known c) p ∷ processors_view known (c + 1) ps

-- a state, without the count of its events
abbrev pub view : Known → State → State
view known s = record s {
  processors = processors_view known 0 s.processors;
  board = board_view s.board;
  made = 0;
}

-- states that differ in what isn't known alone
abbrev pub AreAlike : Known → State → State → Type 0
AreAlike known s t = view known s ≡ view known t
