use Rattle.std.specs.Prelude.{ℕ, Bool, true, false, not, ◌&&◌}
use Rattle.m161_cop0.specs.Control.{expects_timer, is_pending}
use Rattle.m161_cpu.specs.declared.processor.ProcessorState.{ProcessorState}
use Rattle.m161_cpu.specs.declared.processor.ProcessorState.TheVariants.{Stopped, Running, Waiting}
use Rattle.m161_cpu.specs.Processor.{Processor}

-- Processors whose next Step is idle.

-- a processor in this state rests, if an interrupt is pending or if none is
abbrev pub rests_in : ProcessorState → Bool → Bool
rests_in Stopped pending = true
rests_in Running pending = false
rests_in Waiting pending = not pending

-- its next Step is idle; `lines` are the board's lines of this processor
unfoldable pub is_resting : ℕ → Processor → Bool
is_resting lines p = rests_in p.state (is_pending lines p.control)

abbrev pub is_waiting : ProcessorState → Bool
is_waiting Stopped = false
is_waiting Running = false
is_waiting Waiting = true

-- it rests until its timer's interrupt: its idle Steps bring that nearer
unfoldable pub is_ticking : ℕ → Processor → Bool
is_ticking lines p =
    is_waiting p.state && not (is_pending lines p.control) && expects_timer p.control
