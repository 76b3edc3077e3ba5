use Rattle.std.proofs.Common.{◌≡◌}
use Rattle.m161_machine.specs.State.{processor_at}
use Rattle.m161_reach.specs.helpers.Path.{with_registers}
use Rattle.m161_reach.proofs.path.mix_registers.Given as goal

abbrev pub invariant-loop-r : goal.invariant-loop-r
invariant-loop-r g l = l.mixed ≡ with_registers l.mark (processor_at l.p l.core.state.processors).registers l.r
