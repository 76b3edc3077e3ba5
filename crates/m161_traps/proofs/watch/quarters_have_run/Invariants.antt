use Rattle.std.proofs.Common.{◌≡◌, true}
use Rattle.m161_traps.proofs.Lasting.{QuartersRan}
use Rattle.m161_traps.proofs.watch.quarters_have_run.Given as goal

-- it is so of the first ones of each quarter
abbrev pub invariant-loop-k : goal.invariant-loop-k
invariant-loop-k l = l.all ≡ true → QuartersRan l.entries l.quarter l.k
