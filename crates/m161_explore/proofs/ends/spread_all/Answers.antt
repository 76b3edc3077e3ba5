use Rattle.m161_explore.proofs.Spreading.{spread_on}
use Rattle.m161_explore.proofs.ends.spread_all.Goals as goal

pub loop-preserved : goal.loop-preserved
loop-preserved c = spread_on _ _ _ _ _ c.loop.invariant c.spread.ensures.spreads

pub returns-clause-spreads : goal.returns-clause-spreads
returns-clause-spreads c = spread_on _ _ _ _ _ c.loop.invariant c.spread.ensures.spreads
