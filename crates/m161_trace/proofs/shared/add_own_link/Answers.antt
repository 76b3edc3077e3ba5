use Rattle.m161_trace.proofs.shared.add_own_link.Goals as goal

pub returns : goal.returns
returns g c = rw (← c.link.ensures, ← c.link-2.ensures) (c.add_linked.ensures)
