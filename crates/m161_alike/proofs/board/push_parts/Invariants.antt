use Rattle.std.proofs.Common.{◌≡◌, ◌++◌}
use Rattle.std.specs.Prelude.{flat_map}
use Rattle.std.specs.List.{range_with_len}
use Rattle.m161_alike.specs.Words.{part_words}
use Rattle.m161_alike.proofs.board.push_parts.Given as goal

-- the parts so far
abbrev pub invariant-loop-p : goal.invariant-loop-p
invariant-loop-p g l = l.out.items ≡ l.fn.out.items ++ flat_map (part_words l.core.state) (range_with_len 0 l.p)
