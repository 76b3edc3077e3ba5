use Rattle.std.proofs.Common.{◌≡◌, ◌-◌, ◌++◌, take, length}
use Rattle.m161_drive.specs.Words.{after_words, draws}
use Rattle.m161_drive.proofs.ranking.draw_points.Given as goal

-- the points so far and those to come are all
abbrev pub invariant-loop-j : goal.invariant-loop-j
invariant-loop-j l = record {
  length_is : length l.points ≡ 64;
  points_are : take l.j l.points ++ draws (l.changes - l.j) l.within l.generator ≡ draws l.changes l.within l.fn.generator;
  words_are : after_words (l.changes - l.j) l.generator ≡ after_words l.changes l.fn.generator;
}
