use Rattle.m161_shorten.specs.helpers.Ranges.{IsStart}
use Rattle.m161_shorten.proofs.ranges.start_of.Given as goal

abbrev pub invariant-loop : goal.invariant-loop
invariant-loop l = IsStart l.counter l.events l.start
