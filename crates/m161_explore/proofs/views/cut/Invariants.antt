use Rattle.std.proofs.Common.{◌≡◌, ◌*◌, ◌-◌, ◌<◌, ◌≤◌, length, take}
use Rattle.m161_explore.specs.helpers.Pieces.{AreKept, ArePieces, Spells, piece_size}
use Rattle.m161_explore.proofs.views.cut.Given as goal

abbrev pub invariant-loop-at : goal.invariant-loop-at
invariant-loop-at l = record {
  pieces : ArePieces l.pieces;
  kept : AreKept l.initial.pieces l.pieces;
  spells : Spells piece_size l.pieces l.numbers.items (take l.at l.words);
  within : l.at ≤ length l.words;
  whole : l.at < length l.words → l.at ≡ piece_size * length l.numbers.items;
}

abbrev pub decreases-loop-at : goal.decreases-loop-at
decreases-loop-at l = length l.words - l.at
