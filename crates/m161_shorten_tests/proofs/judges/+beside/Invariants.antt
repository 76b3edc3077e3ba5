use Rattle.std.proofs.Common.{length}
use Rattle.m161_shorten_tests.proofs.judges.+beside.Given as goal

abbrev pub decreases-beside : goal.decreases-beside
decreases-beside l = length l.events.now
