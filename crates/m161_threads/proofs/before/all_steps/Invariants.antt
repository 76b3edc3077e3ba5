use Rattle.std.proofs.Common.{◌≡◌, length, take}
use Rattle.std.specs.Prelude.{sum}
use Rattle.m161_machine.specs.State.{counts}
use Rattle.m161_threads.proofs.before.all_steps.Given as goal

abbrev pub invariant-loop-p : goal.invariant-loop-p
invariant-loop-p g l = record {
  steps : l.steps ≡ sum (take l.p (counts l.machine.state));
  end : l.p-end ≡ length l.machine.state.processors;
}
