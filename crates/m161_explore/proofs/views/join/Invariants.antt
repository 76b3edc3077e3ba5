use Rattle.std.proofs.Common.{◌≡◌, take}
use Rattle.m161_explore.specs.helpers.Pieces.{joined}
use Rattle.m161_explore.proofs.views.join.Given as goal

abbrev pub invariant-loop-at : goal.invariant-loop-at
invariant-loop-at l = l.words.items ≡ joined l.pieces (take l.at l.numbers)
