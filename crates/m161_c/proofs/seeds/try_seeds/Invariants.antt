use Rattle.m161_c.specs.Seeds.{AreRight}
use Rattle.m161_c.proofs.seeds.try_seeds.Given as goal

-- the runs so far have no verdict, and so many of them are cut
abbrev pub invariant-loop-right : goal.invariant-loop-right
invariant-loop-right l = AreRight l.task l.order l.right l.cut
