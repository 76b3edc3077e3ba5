use Rattle.std.proofs.Common.{take}
use Rattle.m161_machine.specs.History.{Leads}
use Rattle.m161_steplog.proofs.verdict.verify_with.Given as goal

abbrev pub invariant-loop-k : goal.invariant-loop-k
invariant-loop-k g l = Leads l.initial.core.state (take l.k l.log) l.core.state
