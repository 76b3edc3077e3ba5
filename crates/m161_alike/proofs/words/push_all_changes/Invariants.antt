use Rattle.std.proofs.Common.{◌≡◌, ◌*◌, ◌/◌, ◌-◌, ◌≤◌, ◌++◌, length}
use Rattle.std.specs.Prelude.{flat_map}
use Rattle.std.specs.List.{range_with_len}
use Rattle.m161_alike.specs.Words.{word_change}
use Rattle.m161_alike.proofs.words.push_all_changes.Given as goal

-- the words of the places so far
abbrev pub invariant-loop-place : goal.invariant-loop-place
invariant-loop-place l =
    (l.place ≤ length l.memory / 4)
    × (l.out.items
    ≡ l.fn.out.items ++ flat_map (λ i. word_change l.boot l.memory (4 * i)) (range_with_len 0 l.place))

abbrev pub decreases-loop-place : goal.decreases-loop-place
decreases-loop-place l = length l.memory / 4 - l.place
