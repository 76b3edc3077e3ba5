use Rattle.m161_audit.specs.Watch.{AreGood}
use Rattle.m161_audit.proofs.run.first_bad.Given as goal

-- the watches so far aren't bad
abbrev pub invariant-loop-k : goal.invariant-loop-k
invariant-loop-k l = AreGood l.ram l.watches l.k
