use Rattle.m161_cop0.proofs.Ticks.{random_falls}
use Rattle.m161_cop0.proofs.clock.random_after_ticks.Goals as goal

-- src/clock.rt:8:1
pub returns : goal.returns
returns c = random_falls c.args._n
