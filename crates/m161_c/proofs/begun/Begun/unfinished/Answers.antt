use Rattle.std.proofs.Common.{arith}
use Rattle.m161_c.proofs.begun.Begun.unfinished.Goals as goal

pub overflow_cast-result : goal.overflow_cast-result
overflow_cast-result c = omega (arith, c.states.ensures, c.self.invariant.exploring.unfinished.few, c.self.invariant.fits)
