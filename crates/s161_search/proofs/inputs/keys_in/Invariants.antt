use Rattle.std.proofs.Common.{◌≡◌, take}
use Rattle.m161_judge.specs.Begun.{keys_in}
use Rattle.s161_search.proofs.inputs.keys_in.Given as goal

-- the bytes so far
abbrev pub invariant-loop-event : goal.invariant-loop-event
invariant-loop-event l = l.keys.items ≡ keys_in (take l.event-index l.events)
