use Rattle.std.specs.Prelude.{ℕ, Bool, true, false, not, nat_lt, is_some, ◌==◌, ◌&&◌, length, slice_index, slice_index_or, unwrap_or}
use Rattle.m161_isa.specs.Address.{unmapped}
use Rattle.m161_ram.specs.Word.{word_at}
use Rattle.m161_tlb.specs.declared.row.Row.{Row}
use Rattle.m161_tlb.specs.Row.{hi_word, lo_word}
use Rattle.m161_tlb.specs.Rows.{blank_row}
use Rattle.m161_cpu.specs.declared.processor.Outcome.{Outcome}
use Rattle.m161_cpu.specs.declared.processor.Outcome.TheVariants as outcomes
use Rattle.m161_machine.specs.declared.event.Event.{Event}
use Rattle.m161_machine.specs.State.{State, processor_at, word_in}
use Rattle.m161_machine.specs.History.{is_step_of}
use Rattle.m161_debug.specs.declared.condition.Condition.{Condition}
use Rattle.m161_debug.specs.declared.condition.Condition.TheVariants.{Memory, Trap, Register, Row as RowOf, Output}

-- What a run waits for: a change since its start, or a trap.

-- the physical address of an address in kseg0 or kseg1; any other is a physical one
abbrev pub physical_of : ℕ → ℕ
physical_of address = unwrap_or (unmapped address) address

abbrev pub register_in : ℕ → ℕ → State → ℕ
register_in p r s = slice_index (processor_at p s.processors).registers r

abbrev pub row_in : ℕ → ℕ → State → Row
row_in p i s = slice_index_or (processor_at p s.processors).rows i blank_row

-- rows are the same if their words in EntryHi and in EntryLo are
abbrev pub is_same_row : Row → Row → Bool
is_same_row a b = (hi_word a == hi_word b) && (lo_word a == lo_word b)

abbrev pub is_trap : Outcome → Bool
is_trap outcomes.Ran = false
is_trap (outcomes.Trapped code vector) = true
is_trap outcomes.Idle = false
is_trap outcomes.PoweredOff = false
is_trap (outcomes.Conflict row other) = false
is_trap outcomes.Taken = false

-- the condition holds after an event with this outcome, which led to t, of a run that began at s:
-- the word of RAM, the general register or the row of the TLB isn't what it was at s; the event
-- trapped; the console has sent more than at s
abbrev pub holds : Condition → State → Event → Outcome → State → Bool
holds (Memory address) s e o t =
    not (word_at t.memory (physical_of address) == word_at s.memory (physical_of address))
holds (Trap p) s e o t = is_step_of p e && is_trap o
holds (Register p r) s e o t = not (register_in p r t == register_in p r s)
holds (RowOf p i) s e o t = not (is_same_row (row_in p i t) (row_in p i s))
holds Output s e o t = nat_lt (length s.board.console.output) (length t.board.console.output)

-- a condition is of this kind of machine: its address is that of a word of RAM, its register one of
-- 32, its row one of 64
abbrev pub is_of_kind : Condition → State → Bool
is_of_kind (Memory address) s = is_some (word_in s.memory (physical_of address))
is_of_kind (Trap p) s = true
is_of_kind (Register p r) s = nat_lt r 32
is_of_kind (RowOf p i) s = nat_lt i 64
is_of_kind Output s = true

-- and its processor is one of the machine's
abbrev pub has_processor : Condition → State → Bool
has_processor (Memory address) s = true
has_processor (Trap p) s = nat_lt p (length s.processors)
has_processor (Register p r) s = nat_lt p (length s.processors)
has_processor (RowOf p i) s = nat_lt p (length s.processors)
has_processor Output s = true

abbrev pub is_watchable : Condition → State → Bool
is_watchable condition s = is_of_kind condition s && has_processor condition s
