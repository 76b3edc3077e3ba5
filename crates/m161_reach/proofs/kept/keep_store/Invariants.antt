use Rattle.std.proofs.Common.{◌≡◌, ◌++◌, drop, length, take}
use Rattle.m161_states.specs.System.{all_after}
use Rattle.m161_reach.proofs.kept.keep_store.Given as goal

-- what is kept of the first watches, and the rest as before
abbrev pub invariant-loop-i : goal.invariant-loop-i
invariant-loop-i l =
    (length l.kept ≡ length l.watches)
    × (take l.i l.kept ++ all_after l.word (drop l.i l.watches) (drop l.i l.kept) ≡ all_after l.word l.watches l.initial.kept)
