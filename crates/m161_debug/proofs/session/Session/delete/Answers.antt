use Rattle.m161_debug.proofs.Sets.{set_without}
use Rattle.m161_debug.proofs.session.Session.delete.Goals as goal

pub invariant_of-self : goal.invariant_of-self
invariant_of-self g c = rw c.remove.ensures.after (set_without _ _ c.self.invariant)
