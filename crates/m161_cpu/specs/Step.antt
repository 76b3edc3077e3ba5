use Rattle.std.specs.Prelude.{◌≡◌, ◌≢◌, ℕ, ◌<◌, ◌+◌, ◌%◌, ◌^◌, Bool, not, ◌==◌, ◌&&◌, if◌then◌else◌, List, length, option_map, Option, None, Some, Result, Ok, Err}
use Rattle.m161_isa.specs.declared.table.Row.{Row}
use Rattle.m161_isa.specs.declared.instr.Coprocessor.{Coprocessor}
use Rattle.m161_isa.specs.declared.instr.Coprocessor.TheVariants as coprocessor
use Rattle.m161_isa.specs.Table.{table, row_that_fits, numbers_of, absent_in}
use Rattle.m161_isa.specs.Bits.{bits_of}
use Rattle.m161_ram.specs.Word.{word_at}
use Rattle.m161_cop0.specs.Control.{Control, is_pending, is_interrupted, may_use_cop0}
use Rattle.m161_cop0.specs.Clock.{after_tick}
use Rattle.m161_cop0.specs.Trap.{IsVector}
use Rattle.m161_tlb.specs.declared.row.Row.{Row as TlbRow}
use Rattle.m161_tlb.specs.Rows.{find_overlap}
use Rattle.m161_bus.specs.Board.{BoardState, interrupt_lines, switched_off}
use Rattle.m161_cpu.specs.declared.fault.Access.TheVariants.{Fetch}
use Rattle.m161_cpu.specs.declared.fault.FaultKind.{FaultKind}
use Rattle.m161_cpu.specs.declared.fault.FaultKind.TheVariants as kind
use Rattle.m161_cpu.specs.declared.processor.ProcessorState.{ProcessorState}
use Rattle.m161_cpu.specs.declared.processor.ProcessorState.TheVariants.{Stopped, Running, Waiting}
use Rattle.m161_cpu.specs.declared.processor.Outcome.{Outcome}
use Rattle.m161_cpu.specs.declared.processor.Outcome.TheVariants.{Ran, Trapped, Idle, PoweredOff, Conflict, Taken}
use Rattle.m161_cpu.specs.Processor.{Processor, with_state}
use Rattle.m161_cpu.specs.Links.{LinkAct, Keep, End, links_after}
use Rattle.m161_cpu.specs.Scene.{Around, Scene, Change, scene, result_map, and_then, stored_by, processor_after, around_after}
use Rattle.m161_cpu.specs.declared.fault.StepFault.{StepFault}
use Rattle.m161_cpu.specs.Fault.{fault, exception_of, vector, with_trap}
use Rattle.m161_cpu.specs.Translation.{reach}
use Rattle.m161_cpu.specs.Effect.{arguments, with_three, effect_of}

-- One Step of a processor. Kane, MIPS RISC Architecture; the order of its points is this project's
-- own.

-- what a Step gives
pub record Stepped : Type 0 where
  pub outcome : Outcome
  pub after : Scene
  -- what it does to the processor's link, and the word of RAM that it stores to
  pub link : LinkAct
  pub stored : Option ℕ

-- every Step counts
abbrev pub count_step : Processor → Processor
count_step p = record p { count = p.count + 1 }

-- one of a started processor ticks too
abbrev pub tick : Processor → Processor
tick p = count_step (record p { control = after_tick p.control })

abbrev pub with_processor : (Processor → Processor) → Scene → Scene
with_processor f s = scene (f s.processor) s.around

-- a Step that executes nothing
abbrev pub idle : (Processor → Processor) → Scene → Stepped
idle f s = record { outcome = Idle; after = with_processor f s; link = Keep; stored = None }

-- the board was on before, and is off after
abbrev pub switches_off : BoardState → BoardState → Bool
switches_off before after = after.off && not before.off

-- the number of a row that is written, and that of the lowest other row that it would overlap
abbrev pub overlap_in : List TlbRow → ℕ → TlbRow → Option (ℕ × ℕ)
overlap_in rows i row = option_map (λ j. (i, j)) (find_overlap rows i row)

-- these two on a strict machine, where there is such another row; a row's number has six bits
abbrev pub conflict_in : Bool → List TlbRow → Option (ℕ × TlbRow) → Option (ℕ × ℕ)
conflict_in strict rows None = None
conflict_in strict rows (Some written) =
    if strict then overlap_in rows (written.0 % 2 ^ 6) written.1 else None

abbrev pub conflict_of : Scene → Change → Option (ℕ × ℕ)
conflict_of s change = conflict_in s.around.strict s.processor.rows change.row

-- a conflict leaves the row as it was
abbrev pub without_row : Option (ℕ × ℕ) → Change → Change
without_row None change = change
without_row (Some conflict) change = record change { row = None }

-- and switches the machine off
abbrev pub off_after : Option (ℕ × ℕ) → BoardState → BoardState
off_after None board = board
off_after (Some conflict) board = switched_off board

abbrev pub outcome_after : Option (ℕ × ℕ) → Bool → Outcome
outcome_after None off = if off then PoweredOff else Ran
outcome_after (Some conflict) off = Conflict conflict.0 conflict.1

-- what is left by an instruction that has this conflict, or none
abbrev pub step_by_conflict : Option (ℕ × ℕ) → Scene → Change → Stepped
step_by_conflict conflict s change = record {
  outcome =
      outcome_after conflict (switches_off s.around.board (around_after change s.around).board);
  after = scene
      (tick (processor_after (without_row conflict change) s.processor))
      (record (around_after change s.around) {
        board = off_after conflict (around_after change s.around).board;
      });
  link = change.link;
  stored = stored_by change.store;
}

-- what an instruction leaves
abbrev pub step_of_change : Scene → Change → Stepped
step_of_change s change = step_by_conflict (conflict_of s change) s change

-- the end of a processor's link
abbrev pub without_link : Around → Around
without_link a = record a { links = links_after a.number End None a.links }

-- what a trap leaves: the registers of its entry; general registers, HI, LO, memory and the board
-- are as they were
abbrev pub step_of_fault : Scene → StepFault → Stepped
step_of_fault s f = record {
  outcome = Trapped (exception_of f.kind) (vector f s.processor);
  after = scene (tick (with_trap f s.processor)) (without_link s.around);
  link = End;
  stored = None;
}

abbrev pub step_of_result : Scene → Result Change StepFault → Stepped
step_of_result s (Ok change) = step_of_change s change
step_of_result s (Err f) = step_of_fault s f

-- the word at pc, in this memory
abbrev pub word_at_pc : List ℕ → Processor → Result ℕ StepFault
word_at_pc memory p = result_map (word_at memory) (reach Fetch 4 p.pc (length memory) p)

-- what a row does with the numbers of its operands
abbrev pub change_of_row : Scene → Row → List ℕ → Result Change StepFault
change_of_row s r numbers =
    with_three (effect_of s (table r).effect) (arguments s.processor (table r).operands numbers)

-- a word that fits no row: a coprocessor that isn't there, or a reserved instruction
abbrev pub misfit_kind : Option Coprocessor → FaultKind
misfit_kind None = kind.ReservedInstruction
misfit_kind (Some coprocessor.One) = kind.Coprocessor1Unusable
misfit_kind (Some coprocessor.Two) = kind.Coprocessor2Unusable
misfit_kind (Some coprocessor.Three) = kind.Coprocessor3Unusable

abbrev pub change_by_row : Scene → ℕ → Option Row → Result Change StepFault
change_by_row s word (Some r) = change_of_row s r (numbers_of word (Some r))
change_by_row s word None = Err (fault (misfit_kind (absent_in word)))

-- opcode 16 in user mode without CU0, whatever row the word fits, or none
abbrev pub is_unusable : Control → ℕ → Bool
is_unusable c word = (bits_of word 26 6 == 16) && not (may_use_cop0 c)

-- what the instruction of a word changes
abbrev pub change_in : Scene → ℕ → Result Change StepFault
change_in s word = change_by_row s word (row_that_fits word)

-- a word, if it may be executed
abbrev pub usable : Control → ℕ → Result ℕ StepFault
usable c word = if is_unusable c word then Err (fault kind.Coprocessor0Unusable) else Ok word

-- the word at pc, if it may be executed
abbrev pub executable_word : List ℕ → Processor → Result ℕ StepFault
executable_word memory p = and_then (word_at_pc memory p) (usable p.control)

-- the lines of the board that the processor sees
abbrev pub lines_in : Scene → ℕ
lines_in s = interrupt_lines s.around.number s.around.board

-- interrupt, fetch, coprocessor 0 unusable, decode, effect or trap, in this order
unfoldable pub change_of_step : Scene → Result Change StepFault
change_of_step s =
    if is_interrupted (lines_in s) s.processor.control then Err (fault kind.Interrupt)
    else and_then (executable_word s.around.memory s.processor) (change_in s)

abbrev pub running_step : Scene → Stepped
running_step s = step_of_result s (change_of_step s)

-- one Step, by the processor's state: a stopped one only counts; a waiting one is idle until an
-- interrupt is pending
abbrev pub step_by_state : ProcessorState → Scene → Stepped
step_by_state Stopped s = idle count_step s
step_by_state Running s = running_step s
step_by_state Waiting s =
    if is_pending (lines_in s) s.processor.control
    then running_step (with_processor (with_state Running) s)
    else idle tick s

unfoldable pub step_of : Scene → Stepped
step_of s = step_by_state s.processor.state s

-- two different rows of the 64
abbrev pub AreTwoRows : ℕ → ℕ → Type 0
AreTwoRows i j = (i < 64) × (j < 64) × (i ≢ j)

-- a Step's outcome: it isn't that of an input, its vector is one of the four, and a conflict is of
-- two rows
abbrev pub IsOfStep : Outcome → Type 0
IsOfStep Ran = Unit {0}
IsOfStep (Trapped code vector) = IsVector vector
IsOfStep Idle = Unit {0}
IsOfStep PoweredOff = Unit {0}
IsOfStep (Conflict row other) = AreTwoRows row other
IsOfStep Taken = ⊥

-- the outcome of a Step, and the scene after it, are these
pub record Leaves (x : Stepped) (outcome : Outcome) (after : Scene) : Type 0 where
  pub outcome_is : outcome ≡ x.outcome
  pub processor_is : after.processor ≡ x.after.processor
  pub memory_is : after.around.memory ≡ x.after.around.memory
  pub board_is : after.around.board ≡ x.after.around.board
  pub links_are : after.around.links ≡ x.after.around.links
