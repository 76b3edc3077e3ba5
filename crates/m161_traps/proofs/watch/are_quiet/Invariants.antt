use Rattle.std.proofs.Common.{◌≡◌, ℕ, ◌<◌, None}
use Rattle.std.specs.Prelude.{slice_index_or}
use Rattle.m161_traps.proofs.watch.are_quiet.Given as goal

-- none of those so far is some
abbrev pub invariant-loop-tail : goal.invariant-loop-tail
invariant-loop-tail l = (p : ℕ) → p < l.tail-index → slice_index_or l.tails p None ≡ None
