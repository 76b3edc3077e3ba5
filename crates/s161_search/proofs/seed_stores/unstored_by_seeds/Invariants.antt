use Rattle.std.proofs.Common.{take}
use Rattle.m161_stores.specs.Watches.{AreUnstored}
use Rattle.s161_search.specs.Unstored.{SeedsUnstored}
use Rattle.s161_search.specs.helpers.Inputs.{given_of}
use Rattle.s161_search.proofs.seed_stores.unstored_by_seeds.Given as goal

-- the watches so far
abbrev pub invariant-loop-i : goal.invariant-loop-i
invariant-loop-i g l = AreUnstored (SeedsUnstored l.basis.task (given_of l.basis.inputs.now)) (take l.i l.watches) l.unstored.items
