use Rattle.std.proofs.Common.{◌≡◌, length, take}
use Rattle.s161_run.specs.helpers.Events.{MakesOf}
use Rattle.s161_run.proofs.events.make_inputs.Given as goal

abbrev pub invariant-loop-k : goal.invariant-loop-k
invariant-loop-k l = MakesOf l.event l.fn.core.state (take l.k l.entries) l.core.state × (length l.entries ≡ length l.fn.entries)
