use Rattle.std.proofs.Common.{take}
use Rattle.m161_stores.specs.Watches.{AreUnstored}
use Rattle.s161_search.specs.Delays.{class_of}
use Rattle.s161_search.specs.Unstored.{ListsUnstored}
use Rattle.s161_search.specs.helpers.Inputs.{given_of}
use Rattle.s161_search.proofs.list_stores.unstored_by_lists.Given as goal

-- the watches so far
abbrev pub invariant-loop-i : goal.invariant-loop-i
invariant-loop-i g l = AreUnstored (ListsUnstored l.runs.basis.now.task (given_of l.runs.basis.now.inputs.now) l.runs.turns (class_of l.class)) (take l.i l.watches) l.unstored.items
