use Rattle.std.proofs.Common.{◌≡◌, ◌≤◌, length}
use Rattle.m161_drive.specs.Priorities.{shuffled}
use Rattle.m161_drive.specs.Words.{after_words}
use Rattle.m161_drive.proofs.ranking.shuffle.Given as goal

-- what is left leads to the same order
abbrev pub invariant-loop-i : goal.invariant-loop-i
invariant-loop-i l = record {
  within : l.i ≤ l.last;
  length_is : length l.processors ≡ 32;
  order_is : shuffled l.i l.processors l.generator ≡ shuffled l.last l.fn.processors l.fn.generator;
  words_are : after_words l.i l.generator ≡ after_words l.last l.fn.generator;
}

abbrev pub decreases-loop-i : goal.decreases-loop-i
decreases-loop-i l = l.i
