use Rattle.m161_reach.specs.Reach.{rules_of}
use Rattle.m161_reach.proofs.hang_laws.hung_is_hung.Goals as goal

pub returns : goal.returns
unfolding rules_of
returns c = record { law = λ q limit events h. (h.0, h.1, h.2.no_end) }
