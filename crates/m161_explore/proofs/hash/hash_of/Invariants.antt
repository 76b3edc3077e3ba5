use Rattle.std.proofs.Common.{◌≡◌}
use Rattle.m161_explore.specs.helpers.Keys.{hash_upto}
use Rattle.m161_explore.proofs.hash.hash_of.Given as goal

abbrev pub invariant-loop-at : goal.invariant-loop-at
invariant-loop-at l = l.hash ≡ hash_upto l.words l.at
