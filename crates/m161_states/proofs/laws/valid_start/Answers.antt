use Rattle.m161_states.proofs.Shapes.{valid_start}
use Rattle.m161_states.proofs.laws.valid_start.Goals as goal

pub returns : goal.returns
returns c = record { law = valid_start }
