use Rattle.std.proofs.Common.{ℕ, ◌<◌, ◌^◌, get_or}
use Rattle.m161_alike.proofs.bounds.are_bytes.Given as goal

-- the words so far are bytes
abbrev pub invariant-loop-place : goal.invariant-loop-place
invariant-loop-place l = (k : ℕ) → k < l.place → get_or l.words k 0 < 2 ^ 8
