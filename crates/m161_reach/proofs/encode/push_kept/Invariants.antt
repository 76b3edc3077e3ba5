use Rattle.std.proofs.Common.{◌≡◌, ◌++◌, take}
use Rattle.std.specs.Prelude.{flat_map}
use Rattle.m161_states.specs.Views.{flag_words}
use Rattle.m161_reach.proofs.encode.push_kept.Given as goal

-- the words of what is kept so far
abbrev pub invariant-loop-i : goal.invariant-loop-i
invariant-loop-i l = l.words.items ≡ l.fn.words.items ++ flat_map flag_words (take l.i l.kept)
