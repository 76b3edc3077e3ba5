use Rattle.std.proofs.Common.{◌≡◌, ◌++◌, take}
use Rattle.std.specs.Prelude.{flat_map}
use Rattle.m161_alike.specs.Words.{word_change}
use Rattle.m161_alike.proofs.words.push_changes.Given as goal

-- the words at the addresses so far
abbrev pub invariant-loop-i : goal.invariant-loop-i
invariant-loop-i l = l.out.items ≡ l.fn.out.items ++ flat_map (word_change l.boot l.memory) (take l.i l.addresses)
