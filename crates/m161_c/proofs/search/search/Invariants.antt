use Rattle.std.proofs.Common.{◌<◌, ℕ, None}
use Rattle.m161_c.specs.Search.{TriesAs, order_at}
use Rattle.m161_c.proofs.search.search.Given as goal

-- the runs so far end right
abbrev pub invariant-loop-k : goal.invariant-loop-k
invariant-loop-k l = (j : ℕ) → j < l.k → TriesAs (order_at l.order j) l.keys l.n l.goal None l.core.state
