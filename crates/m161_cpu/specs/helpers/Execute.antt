use Rattle.std.specs.Prelude.{◌≡◌, ℕ, Bool, true, false, if◌then◌else◌, slice_index, Option, None, Some, Result, Ok, Err}
use Rattle.m161_isa.specs.declared.instr.Instr.{Instr}
use Rattle.m161_isa.specs.declared.instr.Coprocessor.{Coprocessor}
use Rattle.m161_isa.specs.declared.table.Row.{Row}
use Rattle.m161_isa.specs.Instr.{row_of_instr, numbers_of_instr}
use Rattle.m161_isa.specs.declared.instr.Instr.TheVariants.{Absent}
use Rattle.m161_bus.specs.Board.{BoardState}
use Rattle.m161_cpu.specs.declared.processor.Outcome.TheVariants.{Idle}
use Rattle.m161_tlb.specs.declared.row.Row.{Row as TlbRow}
use Rattle.m161_cpu.specs.Processor.{Processor, with_row}
use Rattle.m161_cpu.specs.Links.{Keep}
use Rattle.m161_cpu.specs.Scene.{Around, Scene, Change, scene, result_map, processor_after, around_after}
use Rattle.m161_cpu.specs.declared.fault.StepFault.{StepFault}
use Rattle.m161_cpu.specs.declared.fault.StepEnd.{StepEnd}
use Rattle.m161_cpu.specs.declared.fault.StepEnd.TheVariants as stop
use Rattle.m161_cpu.specs.Fault.{fault}
use Rattle.m161_cpu.specs.Effect.{write}
use Rattle.m161_cpu.specs.Step.{Stepped, AreTwoRows, change_of_row, conflict_of, misfit_kind, running_step, switches_off}

-- A Step in two parts, and effects on the code's instructions.

-- the same Step in two parts: a processor that rests is idle, and one that doesn't is running
abbrev pub idle_after : Scene → Stepped
idle_after s = record { outcome = Idle; after = s; link = Keep; stored = None }

abbrev pub idle_or_running : Bool → Scene → Stepped
idle_or_running rests after = if rests then idle_after after else running_step after

abbrev pub unit_in : Instr → Option Coprocessor
unit_in (Absent unit) = Some unit
unit_in _ = None

abbrev pub change_by_some : Scene → Instr → Option Row → Result Change StepFault
change_by_some s i (Some r) = change_of_row s r (numbers_of_instr i)
change_by_some s i None = Err (fault (misfit_kind (unit_in i)))

-- what an instruction changes: what its row does with the numbers of its operands
unfoldable pub change_by : Scene → Instr → Result Change StepFault
change_by s i = change_by_some s i (row_of_instr i)

-- a word was read, of RAM or of the slots, which leaves a board; or this is why not
abbrev pub FindsWord : Result (ℕ × BoardState) StepFault → BoardState → Result ℕ StepFault → BoardState
    → Type 0
FindsWord r board (Ok word) left = r ≡ Ok (word, left)
FindsWord r board (Err f) left = (r ≡ Err f) × (left ≡ board)

-- the processor and what is around it are these
pub record IsAfter (p : Processor) (a : Around) (after : Scene) : Type 0 where
  pub processor_is : after.processor ≡ p
  pub memory_is : after.around.memory ≡ a.memory
  pub board_is : after.around.board ≡ a.board
  pub links_are : after.around.links ≡ a.links

-- a change was made, without a conflict; or this is why not, and nothing is changed
abbrev pub Executes : Result Change StepFault → Scene → Result Unit StepFault → Scene → Type 0
Executes (Ok c) before (Ok done) after =
    (conflict_of before c ≡ None)
    × IsAfter (processor_after c before.processor) (around_after c before.around) after
Executes (Ok c) before (Err f) after = ⊥
Executes (Err f) before (Ok done) after = ⊥
Executes (Err f) before (Err g) after =
    (g ≡ f) × IsAfter before.processor before.around after

-- the same of a change that may be of a row, which may be a conflict: then the row stays
abbrev pub Settles : Result Change StepFault → Scene → Result Unit StepEnd → Scene → Type 0
Settles (Ok c) before (Ok done) after =
    (conflict_of before c ≡ None)
    × IsAfter (processor_after c before.processor) (around_after c before.around) after
Settles (Ok c) before (Err stop.PoweredOff) after = ⊥
Settles (Ok c) before (Err (stop.Conflict row other)) after =
    (conflict_of before c ≡ Some (row, other)) × AreTwoRows row other
    × IsAfter (processor_after (record c { row = None }) before.processor)
    (around_after c before.around) after
Settles (Ok c) before (Err (stop.Fault f)) after = ⊥
Settles (Err f) before (Ok done) after = ⊥
Settles (Err f) before (Err stop.PoweredOff) after = ⊥
Settles (Err f) before (Err (stop.Conflict row other)) after = ⊥
Settles (Err f) before (Err (stop.Fault g)) after =
    (g ≡ f) × IsAfter before.processor before.around after

-- the same of a change that may switch the board off, which is told
abbrev pub Performs : Result Change StepFault → Scene → Result Unit StepEnd → Scene → Type 0
Performs (Ok c) before (Ok done) after =
    (conflict_of before c ≡ None)
    × IsAfter (processor_after c before.processor) (around_after c before.around) after
    × (switches_off before.around.board after.around.board ≡ false)
Performs (Ok c) before (Err stop.PoweredOff) after =
    (conflict_of before c ≡ None)
    × IsAfter (processor_after c before.processor) (around_after c before.around) after
    × (switches_off before.around.board after.around.board ≡ true)
Performs (Ok c) before (Err (stop.Conflict row other)) after =
    (conflict_of before c ≡ Some (row, other)) × AreTwoRows row other
    × IsAfter (processor_after (record c { row = None }) before.processor)
    (around_after c before.around) after
Performs (Ok c) before (Err (stop.Fault f)) after = ⊥
Performs (Err f) before (Ok done) after = ⊥
Performs (Err f) before (Err stop.PoweredOff) after = ⊥
Performs (Err f) before (Err (stop.Conflict row other)) after = ⊥
Performs (Err f) before (Err (stop.Fault g)) after =
    (g ≡ f) × IsAfter before.processor before.around after

-- a row is written; or it isn't, where that is a conflict
abbrev pub WritesRow : Option (ℕ × ℕ) → ℕ → TlbRow → Processor → Result Unit StepEnd → Processor
    → Type 0
WritesRow None i row before result after = (result ≡ Ok tt) × (after ≡ with_row i row before)
WritesRow (Some conflict) i row before result after =
    (result ≡ Err (stop.Conflict conflict.0 conflict.1)) × AreTwoRows conflict.0 conflict.1
    × (after ≡ before)

-- an instruction was executed that changes only the processor
abbrev pub ExecutesInProcessor : Instr → Processor → Result Unit StepFault → Processor → Type 0
ExecutesInProcessor i before result after =
    (a : Around) → Executes (change_by (scene before a) i) (scene before a) result (scene after a)

-- a row on the words s and t of two registers writes this value, if any, to a third
abbrev pub Writes : (ℕ → ℕ → ℕ → Instr) → ℕ → ℕ → Result ℕ StepFault → Type 0
Writes instr s t value =
    (here : Scene) (d a b : ℕ) →
    slice_index here.processor.registers a ≡ s → slice_index here.processor.registers b ≡ t →
    change_by here (instr d a b) ≡ result_map (write d) value

-- a row on the word s of one register writes this value, if any, to another
abbrev pub WritesFrom : (ℕ → ℕ → Instr) → ℕ → Result ℕ StepFault → Type 0
WritesFrom instr s value =
    (here : Scene) (d a : ℕ) →
    slice_index here.processor.registers a ≡ s →
    change_by here (instr d a) ≡ result_map (write d) value
