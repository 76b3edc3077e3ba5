use Rattle.std.specs.Prelude.{ℕ, ◌+◌, Bool, false, not, ◌==◌, ◌&&◌, List, [], ◌∷◌, ◌++◌, Option, None, Some, Result, Ok, Err, count_by, filter, option_to_list}
use Rattle.std.specs.Option.{option_map_or}
use Rattle.m161_cop0.specs.declared.exception.Exception.{Exception}
use Rattle.m161_cop0.specs.Registers.{number_of_exception}
use Rattle.m161_isa.specs.Address.{unmapped}
use Rattle.m161_cpu.specs.declared.processor.Outcome.{Outcome}
use Rattle.m161_cpu.specs.declared.processor.Outcome.TheVariants.{Ran, Trapped, Idle, PoweredOff, Conflict, Taken}
use Rattle.m161_machine.specs.declared.event.Event.{Event}
use Rattle.m161_machine.specs.declared.event.Event.TheVariants.{Step, Key, Done}
use Rattle.m161_machine.specs.declared.event.Refusal.{Refusal}
use Rattle.m161_machine.specs.State.{State, next, processor_at, word_in}
use Rattle.m161_traps.specs.declared.traps.Trap.{Trap}
use Rattle.m161_traps.specs.declared.traps.TrapLine.{TrapLine}

-- The traps of a list of events, counted by processor and code. An event that is refused changes
-- nothing, and is no trap.

-- the state behind an event
abbrev pub state_behind : State → Result (Outcome × State) Refusal → State
state_behind s (Ok given) = given.1
state_behind s (Err why) = s

-- the state behind a list of events
abbrev pub state_after : State → List Event → State
state_after s [] = s
state_after s (e ∷ es) = state_after (state_behind s (next s e)) es

-- the word at an address in kseg0 or kseg1 is in RAM, and 0
abbrev pub is_empty_at : State → ℕ → Bool
is_empty_at s address =
    option_map_or (λ at. option_map_or (λ word. word == 0) (word_in s.memory at) false)
    (unmapped address) false

-- a trap with this number, of processor p, to this vector, where this is the state right after it
abbrev pub trap_at : ℕ → ℕ → Exception → ℕ → State → Trap
trap_at place p code vector after = record {
  place = place;
  processor = p;
  code = code;
  vector = vector;
  empty = is_empty_at after vector;
  epc = (processor_at p after.processors).control.epc;
  address = (processor_at p after.processors).control.bad_vaddr;
}

-- the trap of a Step with this outcome, if it is one
abbrev pub trap_if : ℕ → ℕ → Outcome → State → Option Trap
trap_if place p Ran after = None
trap_if place p (Trapped code vector) after = Some (trap_at place p code vector after)
trap_if place p Idle after = None
trap_if place p PoweredOff after = None
trap_if place p (Conflict row other) after = None
trap_if place p Taken after = None

-- the trap of an event, if it is one: its number is how many events were accepted before it
abbrev pub trap_of : State → Event → Result (Outcome × State) Refusal → Option Trap
trap_of s (Step p) (Ok given) = trap_if s.made p given.0 given.1
trap_of s (Step p) (Err why) = None
trap_of s (Key byte) result = None
trap_of s Done result = None

-- the traps of events, from a state on
abbrev pub traps_of : State → List Event → List Trap
traps_of s [] = []
traps_of s (e ∷ es) =
    option_to_list (trap_of s e (next s e)) ++ traps_of (state_behind s (next s e)) es

-- two traps are of the same processor and have the same code
abbrev pub is_like : Trap → Trap → Bool
is_like one other =
    (one.processor == other.processor)
    && (number_of_exception one.code == number_of_exception other.code)

-- the lines of traps: that of the first one, with how many are like it; then those of the others, but
-- for the line of those that are like it
abbrev pub lines_of : List Trap → List TrapLine
lines_of [] = []
lines_of (trap ∷ traps) =
    record { first = trap; count = count_by (is_like trap) traps + 1 }
    ∷ filter (λ (line : TrapLine). not (is_like trap line.first)) (lines_of traps)

-- the lines of the traps of events, from a state on
abbrev pub trap_lines : State → List Event → List TrapLine
trap_lines s events = lines_of (traps_of s events)
