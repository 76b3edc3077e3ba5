use Rattle.s161_run.proofs.Looking.{Along}
use Rattle.s161_run.proofs.unhandled.look_chosen.Given as goal

-- of a run of n events that the policy chooses, so many were made
abbrev pub invariant-loop-k : goal.invariant-loop-k
invariant-loop-k l = Along l.policy l.spans l.fn.core.state l.n l._k l.cursor l.core.state
