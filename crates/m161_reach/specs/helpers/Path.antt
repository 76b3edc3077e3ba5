use Rattle.std.specs.Prelude.{◌≡◌, ℕ, ◌+◌, ◌*◌, ◌%◌, ◌^◌, zero, suc, false, List, length, slice_index}
use Rattle.std.specs.List.{Contains}
use Rattle.m161_cpu.specs.Processor.{Processor}
use Rattle.m161_machine.specs.State.{State, processor_at}
use Rattle.m161_alike.specs.View.{count_in}
use Rattle.m161_explore.specs.Lists.{Leads}
use Rattle.m161_states.specs.Question.{Question}
use Rattle.m161_states.specs.System.{Explored}
use Rattle.m161_reach.specs.Reach.{rules_of}
use Rattle.m161_reach.specs.helpers.Advance.{unmade}

-- A path of events, and the marks of the states along it.

-- a mark with one more word
abbrev pub mixed : ℕ → ℕ → ℕ
mixed mark word = ((mark + word) % 2 ^ 64 * 0x9e3779b97f4a7c15) % 2 ^ 64

-- with the first n of these general registers
abbrev pub with_registers : ℕ → List ℕ → ℕ → ℕ
with_registers mark registers zero = mark
with_registers mark registers (suc n) =
    mixed (with_registers mark registers n) (slice_index registers n)

-- where a processor is, and Count, if its timer is armed
abbrev pub with_place : ℕ → Processor → ℕ
with_place mark p = mixed (mixed mark p.pc) (count_in false p.control)

-- so of the first n processors, with their general registers
abbrev pub mark_upto : List Processor → ℕ → ℕ
mark_upto ps zero = 0
mark_upto ps (suc n) =
    with_registers (with_place (mark_upto ps n) (processor_at n ps)) (processor_at n ps).registers 32

-- the mark of a state; states with one view, where nothing is known of time, have one mark
abbrev pub mark_of : State → ℕ
mark_of s = mark_upto s.processors (length s.processors)

-- some events lead from x to a state with this mark
abbrev pub IsMarkFrom : Question → Explored → ℕ → Type 0
IsMarkFrom q x mark =
    (events : List ℕ) × (y : Explored) × Leads (rules_of q) x events y × (mark_of y.state ≡ mark)

-- a path from x is at t, and these are marks of states to which events lead from x
pub record IsPath (q : Question) (x t : Explored) (noted : List ℕ) : Type 0 where
  pub events : List ℕ
  pub last : Explored
  pub leads : Leads (rules_of q) x events last
  pub same : unmade t ≡ unmade last
  pub marks : (mark : ℕ) → Contains noted mark → IsMarkFrom q x mark
