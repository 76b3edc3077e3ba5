use Rattle.m161_cpu.specs.helpers.Links.{IsWalked}
use Rattle.m161_cpu.proofs.links.Links.end_links_to.Given as goal

-- the links whose bits aren't left are ended, where they are to the unit
abbrev pub invariant-loop-left : goal.invariant-loop-left
invariant-loop-left l = IsWalked l.at l.initial.self l.left l.self

-- each pass takes a bit away
abbrev pub decreases-loop-left : goal.decreases-loop-left
decreases-loop-left l = l.left
