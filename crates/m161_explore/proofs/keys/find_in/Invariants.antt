use Rattle.std.proofs.Common.{length}
use Rattle.m161_explore.specs.helpers.Keys.{parts}
use Rattle.m161_explore.proofs.Chains.{IsWalked}
use Rattle.m161_explore.proofs.keys.find_in.Given as goal

abbrev pub invariant-loop-next : goal.invariant-loop-next
invariant-loop-next l = IsWalked (length l.heads) (parts l.cuts l.words) l.wanted l.next

abbrev pub decreases-loop-next : goal.decreases-loop-next
decreases-loop-next l = l.next
