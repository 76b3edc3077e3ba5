use Rattle.std.proofs.Common.{rules}
use Rattle.m161_debug.proofs.Sets.{set_with}
use Rattle.m161_debug.proofs.session.Session.breakpoint.Goals as goal

pub invariant_of-self : goal.invariant_of-self
invariant_of-self g c = rw c.add.ensures (set_with _ _ (search rules) c.self.invariant)
