use Rattle.m161_isa.proofs.RoundTrips.{comes_back, decodes_again}
use Rattle.m161_decode.proofs.laws.round_trips.Goals as goal

pub returns-clause-back : goal.returns-clause-back
returns-clause-back c = comes_back

pub returns-clause-again : goal.returns-clause-again
returns-clause-again c = decodes_again
