use Rattle.std.specs.Prelude.{◌≡◌, ℕ, Bool, true, ◌↔◌}
use Rattle.m161_bus.specs.Board.{interrupt_lines}
use Rattle.m161_cpu.specs.declared.processor.Outcome.TheVariants.{Idle}
use Rattle.m161_cpu.specs.Resting.{is_resting, is_ticking}
use Rattle.m161_machine.specs.State.{State, processor_at, step_result}

-- Processors whose next Step is idle.

-- a Step of processor p, if it is the next event, is idle
unfoldable pub rests : ℕ → State → Bool
rests p s = is_resting (interrupt_lines p s.board) (processor_at p s.processors)

-- that is so until its timer's interrupt, which its idle Steps bring nearer
unfoldable pub ticks : ℕ → State → Bool
ticks p s = is_ticking (interrupt_lines p s.board) (processor_at p s.processors)

-- the law: exactly where it rests, its Step has the outcome Idle
abbrev pub IdleIsRest : ℕ → State → Type 0
IdleIsRest p s = (rests p s ≡ true) ↔ ((step_result p s).outcome ≡ Idle)
