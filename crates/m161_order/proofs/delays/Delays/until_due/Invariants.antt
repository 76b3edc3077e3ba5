use Rattle.std.proofs.Common.{◌≡◌, ℕ, ◌<◌, take}
use Rattle.std.specs.Prelude.{◌==◌, count_by}
use Rattle.m161_order.specs.Delays.{until_due}
use Rattle.m161_order.proofs.delays.Delays.until_due.Given as goal

abbrev pub invariant-loop-number : goal.invariant-loop-number
invariant-loop-number l = (l.until ≡ until_due (take l.number-index l.numbers))
    × ((k : ℕ) → k < l.until → count_by (λ n. n == k) (take l.number-index l.numbers) ≡ 0)
