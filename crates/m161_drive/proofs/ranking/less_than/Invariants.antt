use Rattle.std.proofs.Common.{◌≡◌, ◌≤◌, take, nat_lt, count_by}
use Rattle.m161_drive.proofs.ranking.less_than.Given as goal

abbrev pub invariant-loop-other : goal.invariant-loop-other
invariant-loop-other l =
    (l.count ≡ count_by (λ other. nat_lt other l.number) (take l.other-index l.numbers)) × (l.count ≤ l.other-index)
