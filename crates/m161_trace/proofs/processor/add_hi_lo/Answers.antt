use Rattle.m161_trace.proofs.Spaced.{both_ok}
use Rattle.m161_trace.proofs.processor.add_hi_lo.Goals as goal

pub returns : goal.returns
returns g c = both_ok _ _ _ _ _ _ c.in_ok-add_hi_of.ensures c.add_lo_of.ensures
