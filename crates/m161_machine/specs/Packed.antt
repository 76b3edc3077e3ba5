use Rattle.std.specs.Prelude.{ℕ, ◌+◌, ◌*◌, ◌-◌, ◌/◌, ◌%◌, ◌==◌, if◌then◌else◌, Option, None, Some}
use Rattle.m161_cop0.specs.declared.exception.Exception.{Exception}
use Rattle.m161_cop0.specs.declared.exception.Exception.TheVariants.{Interrupt}
use Rattle.m161_cop0.specs.Registers.{exception_with, number_of_exception}
use Rattle.m161_cpu.specs.declared.processor.Outcome.{Outcome}
use Rattle.m161_cpu.specs.declared.processor.Outcome.TheVariants.{Ran, Trapped, Idle, PoweredOff, Conflict, Taken}
use Rattle.m161_machine.specs.declared.event.Event.{Event}
use Rattle.m161_machine.specs.declared.event.Event.TheVariants.{Step, Key, Done}
use Rattle.m161_machine.specs.declared.event.Entry.{Entry}

-- The word in which the machine stores an entry. Of a Step:
--
-- bits 5..0      the code of its outcome, below 62
-- bits 10..6     the processor
-- bits 16..11    of a conflict, the other row
-- bits 22..17    of a conflict, the row that was to be written
--
-- Of another event: 62 or 63, and the byte.

-- the four vectors of traps
abbrev pub vector_with : ℕ → ℕ
vector_with n =
    if n == 0 then 0x80000000 else if n == 1 then 0x80000080 else if n == 2 then 0xbfc00100
    else 0xbfc00180

abbrev pub or_interrupt : Option Exception → Exception
or_interrupt (Some exception) = exception
or_interrupt None = Interrupt

abbrev pub outcome_with : ℕ → ℕ → Outcome
outcome_with code rows =
    if code == 0 then Ran else if code == 1 then Idle else if code == 2 then PoweredOff
    else if code == 3 then Conflict (rows / 64) (rows % 64)
    else Trapped (or_interrupt (exception_with ((code - 4) / 4))) (vector_with ((code - 4) % 4))

abbrev pub entry_in_word : ℕ → Entry
entry_in_word word =
    if word % 64 == 62 then record { event = Key (word / 64); outcome = Taken }
    else if word % 64 == 63 then record { event = Done; outcome = Taken }
    else record {
      event = Step (word / 64 % 32);
      outcome = outcome_with (word % 64) (word / 2048);
    }

-- the same the other way round

abbrev pub number_of_vector : ℕ → ℕ
number_of_vector vector =
    if vector == 0x80000000 then 0 else if vector == 0x80000080 then 1
    else if vector == 0xbfc00100 then 2 else 3

abbrev pub place_of : Outcome → ℕ
place_of Ran = 0
place_of Idle = 1
place_of PoweredOff = 2
place_of (Conflict row other) = (row * 64 + other) * 2048 + 3
place_of (Trapped code vector) = 4 + number_of_exception code * 4 + number_of_vector vector
place_of Taken = 0

abbrev pub word_with : Event → Outcome → ℕ
word_with (Step p) o = p * 64 + place_of o
word_with (Key byte) o = byte * 64 + 62
word_with Done o = 63

abbrev pub word_of_entry : Entry → ℕ
word_of_entry e = word_with e.event e.outcome
