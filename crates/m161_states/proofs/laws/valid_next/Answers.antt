use Rattle.m161_states.proofs.Shapes.{valid_next}
use Rattle.m161_states.proofs.laws.valid_next.Goals as goal

pub returns : goal.returns
returns c = record { law = valid_next }
