use Rattle.std.proofs.Common.{◌≡◌, ◌++◌}
use Rattle.std.specs.Prelude.{flat_map}
use Rattle.std.specs.List.{range_with_len}
use Rattle.m161_alike.specs.WordsLaw.{words_at}
use Rattle.m161_reach.proofs.encode.push_processors.Given as goal

-- the words of the processors so far
abbrev pub invariant-loop-p : goal.invariant-loop-p
invariant-loop-p g l = l.words.items ≡ l.fn.words.items ++ flat_map (words_at l.known l.core.state) (range_with_len 0 l.p)
