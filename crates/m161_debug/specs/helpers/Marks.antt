use Rattle.std.specs.Prelude.{◌≡◌, ◌+◌, ◌%◌, ◌<◌, ◌≤◌, Bool, false, not, nat_lt, ◌==◌, ◌&&◌, length, Option, None, Some}
use Rattle.m161_ram.specs.Word.{word_at}
use Rattle.m161_tlb.specs.Row.{hi_word, lo_word}
use Rattle.m161_cpu.specs.declared.processor.Outcome.{Outcome}
use Rattle.m161_machine.specs.declared.conf.Conf.{Conf}
use Rattle.m161_machine.specs.declared.event.Event.{Event}
use Rattle.m161_machine.specs.State.{State}
use Rattle.m161_machine.specs.History.{is_step_of}
use Rattle.m161_debug.specs.declared.condition.Condition.{Condition}
use Rattle.m161_debug.specs.declared.condition.Condition.TheVariants as conditions
use Rattle.m161_debug.specs.declared.mark.Mark.{Mark}
use Rattle.m161_debug.specs.declared.mark.Mark.TheVariants.{Nothing, Word, Trap, Register, Row, Output}
use Rattle.m161_debug.specs.Conditions.{is_trap, physical_of, register_in, row_in}

-- A condition with what it compares with, as the code keeps it during a run.

abbrev pub mark_of : Option Condition → State → Mark
mark_of None s = Nothing
mark_of (Some (conditions.Memory address)) s =
    Word (physical_of address) (word_at s.memory (physical_of address))
mark_of (Some (conditions.Trap p)) s = Trap p
mark_of (Some (conditions.Register p r)) s = Register p r (register_in p r s)
mark_of (Some (conditions.Row p i)) s = Row p i (hi_word (row_in p i s)) (lo_word (row_in p i s))
mark_of (Some conditions.Output) s = Output (length s.board.console.output)

-- what holds after an event, by the mark
abbrev pub is_met : Mark → Event → Outcome → State → Bool
is_met Nothing e o t = false
is_met (Word at word) e o t = not (word_at t.memory at == word)
is_met (Trap p) e o t = is_step_of p e && is_trap o
is_met (Register p r word) e o t = not (register_in p r t == word)
is_met (Row p i hi lo) e o t =
    not ((hi_word (row_in p i t) == hi) && (lo_word (row_in p i t) == lo))
is_met (Output sent) e o t = nat_lt sent (length t.board.console.output)

-- what is compared is in a machine of this size
abbrev pub IsMark : Conf → Mark → Type 0
IsMark conf Nothing = Unit {0}
IsMark conf (Word at word) = (at % 4 ≡ 0) × (at + 4 ≤ conf.ram)
IsMark conf (Trap p) = Unit {0}
IsMark conf (Register p r word) = (p < conf.processors) × (r < 32)
IsMark conf (Row p i hi lo) = (p < conf.processors) × (i < 64)
IsMark conf (Output sent) = Unit {0}
