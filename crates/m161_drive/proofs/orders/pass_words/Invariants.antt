use Rattle.std.proofs.Common.{◌≡◌, ◌-◌}
use Rattle.m161_drive.specs.Words.{after_words}
use Rattle.m161_drive.proofs.orders.pass_words.Given as goal

-- the words that are left
abbrev pub invariant-loop-word : goal.invariant-loop-word
invariant-loop-word l = after_words (l.number - l.word) l.generator ≡ after_words l.number l.fn.generator
