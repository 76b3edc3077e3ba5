use Rattle.std.proofs.Common.{take}
use Rattle.m161_reach.specs.Reach.{question_of}
use Rattle.m161_stores.specs.Stores.{TellsStores}
use Rattle.m161_stores.specs.Watches.{AreUnstored}
use Rattle.m161_stores.proofs.watches.unstored_watches.Given as goal

-- the watches so far
abbrev pub invariant-loop-i : goal.invariant-loop-i
invariant-loop-i g l =
    AreUnstored (TellsStores (question_of l.boot.state l.goal l.found.known) l.found.answer)
    (take l.i l.goal.watches) l.unstored.items
