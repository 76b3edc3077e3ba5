use Rattle.std.specs.Prelude.{ℕ, ◌+◌, ◌*◌, ◌/◌, ◌%◌, ◌^◌, nat_le, nat_lt, ◌==◌, ◌&&◌, Bool, if◌then◌else◌, List, codes, decimal, get_or, length, slice_get, slice_index, Option, None, Some, option_and_then, option_map, unwrap_or, Result, Ok, Err}
use Rattle.std.specs.List.{position, range_with_len}
use Rattle.m161_isa.specs.Address.{unmapped}
use Rattle.m161_tlb.specs.declared.row.Row.{Row}
use Rattle.m161_tlb.specs.Row.{matches}
use Rattle.m161_tlb.specs.Rows.{blank_row}
use Rattle.m161_cop0.specs.declared.register.Register.{Register}
use Rattle.m161_cop0.specs.declared.register.Register.TheVariants as registers
use Rattle.m161_cop0.specs.Registers.{number_of_register}
use Rattle.m161_cop0.specs.Control.{identifier_of, is_user, read_of}
use Rattle.m161_bus.specs.Board.{interrupt_lines}
use Rattle.m161_cpu.specs.declared.processor.Outcome.{Outcome}
use Rattle.m161_cpu.specs.declared.processor.ProcessorState.{ProcessorState}
use Rattle.m161_cpu.specs.declared.processor.ProcessorState.TheVariants as states
use Rattle.m161_cpu.specs.Processor.{Processor}
use Rattle.m161_display.specs.Shows.{show_mem_text}
use Rattle.m161_machine.specs.declared.event.Conflict.{Conflict}
use Rattle.m161_machine.specs.declared.event.Event.{Event}
use Rattle.m161_machine.specs.declared.event.Refusal.{Refusal}
use Rattle.m161_machine.specs.Refusal.{name_of_refusal, number_of_refusal}
use Rattle.m161_machine.specs.State.{State, next, processor_at}
use Rattle.m161_moves.specs.declared.doing.Activity.{Activity}
use Rattle.m161_moves.specs.declared.doing.Activity.TheVariants as activities
use Rattle.m161_moves.specs.declared.doing.Doing.{Doing}
use Rattle.m161_steplog.specs.Text.{event_text}
use Rattle.m161_text.specs.Parts.{◌␣◌}

-- What is seen of a state.

-- What a processor does.

abbrev pub activity_of : ProcessorState → Activity
activity_of states.Stopped = activities.Stopped
activity_of states.Running = activities.Running
activity_of states.Waiting = activities.Waiting

abbrev pub doing_of : ℕ → State → Doing
doing_of p s = record {
  activity = activity_of (processor_at p s.processors).state;
  is_user = is_user (processor_at p s.processors).control;
  in_slot = (processor_at p s.processors).slot;
}

-- Its registers: the general ones, those of the middle and the last ones.

-- a register of coprocessor 0, as the processor would read it
abbrev pub control_word : ℕ → State → Register → ℕ
control_word p s r = read_of (number_of_register r) (interrupt_lines p s.board) (processor_at p s.processors).control

unfoldable pub middle_word : ℕ → State → ℕ → Option ℕ
middle_word p s n =
    if n == 32 then Some (control_word p s registers.Status)
    else if n == 33 then Some (processor_at p s.processors).lo
    else if n == 34 then Some (processor_at p s.processors).hi
    else if n == 35 then Some (control_word p s registers.BadVaddr)
    else if n == 36 then Some (control_word p s registers.Cause)
    else if n == 37 then Some (processor_at p s.processors).pc
    else None

unfoldable pub last_word : ℕ → State → ℕ → Option ℕ
last_word p s n =
    if n == 72 then Some (control_word p s registers.Index)
    else if n == 73 then Some (control_word p s registers.Random)
    else if n == 74 then Some (control_word p s registers.EntryLo)
    else if n == 75 then Some (control_word p s registers.Context)
    else if n == 76 then Some (control_word p s registers.Count)
    else if n == 77 then Some (control_word p s registers.EntryHi)
    else if n == 78 then Some (control_word p s registers.Compare)
    else if n == 79 then Some (control_word p s registers.Epc)
    else if n == 80 then Some (control_word p s registers.Prid)
    else None

abbrev pub register_of : ℕ → State → ℕ → Option ℕ
register_of p s n =
    if nat_lt n 32 then Some (slice_index (processor_at p s.processors).registers n)
    else if nat_lt n 72 then middle_word p s n
    else last_word p s n

-- Its memory.

-- the lowest of the 64 rows that translates a page of an address space
unfoldable pub lowest_row : List Row → ℕ → ℕ → Option Row
lowest_row rows page id =
    option_map (λ i. get_or rows i blank_row)
    (position (λ i. matches page id (get_or rows i blank_row)) (range_with_len 0 64))

-- the physical address that a row gives, if it is valid
abbrev pub through : ℕ → Row → Option ℕ
through address row = if row.v then Some (row.frame * 2 ^ 12 + address % 2 ^ 12) else None

-- kseg0 and kseg1 directly, whatever the mode; others by their row
abbrev pub physical_by : Processor → ℕ → Option ℕ → Option ℕ
physical_by p address (Some at) = Some at
physical_by p address None =
    option_and_then (through address) (lowest_row p.rows (address / 2 ^ 12) (identifier_of p.control))

-- the byte of RAM at a virtual address
abbrev pub byte_of : ℕ → State → ℕ → Option ℕ
byte_of p s address =
    option_and_then (slice_get s.memory) (physical_by (processor_at p s.processors) address (unmapped address))

-- The debugger's words of memory, by a physical address or by one in kseg0 or kseg1: at most 1,024, all
-- of them in RAM.

abbrev pub physical_of : ℕ → ℕ
physical_of address = unwrap_or (unmapped address) address

abbrev pub are_shown : State → ℕ → ℕ → Bool
are_shown s address n =
    nat_le 1 n && nat_le n 1024 && (address % 4 == 0)
    && nat_le (physical_of address + 4 * n) (length s.memory)

abbrev pub memory_text_of : State → ℕ → ℕ → Option (List ℕ)
memory_text_of s address n =
    if are_shown s address n then Some (show_mem_text (physical_of address) n s) else None

-- What comes next, where this event is next in the list.

abbrev pub off_text : Option Conflict → List ℕ
off_text None = codes "off"
off_text (Some c) = codes "conflict" ␣ decimal c.processor ␣ decimal c.row ␣ decimal c.other

abbrev pub answered_text : Event → Result (Outcome × State) Refusal → List ℕ
answered_text e (Ok made) = event_text e
answered_text e (Err refusal) = codes "refused" ␣ decimal (number_of_refusal refusal) ␣ name_of_refusal refusal

abbrev pub listed_text : State → Option Event → List ℕ
listed_text s None = codes "end"
listed_text s (Some e) = answered_text e (next s e)

abbrev pub next_text_of : State → Option Event → List ℕ
next_text_of s e = if s.board.off then off_text s.conflict else listed_text s e
