use Rattle.std.proofs.Common.{◌≡◌, ◌≤◌, take}
use Rattle.std.specs.Prelude.{◌==◌, count_by}
use Rattle.m161_order.proofs.delays.Delays.due.Given as goal

abbrev pub invariant-loop-number : goal.invariant-loop-number
invariant-loop-number l = (l.due ≡ count_by (λ n. n == 0) (take l.number-index l.numbers)) × (l.due ≤ l.number-index)
