use Rattle.m161_replay.proofs.Made.{seen_is_made}
use Rattle.m161_replay.proofs.laws.seen_is_made.Goals as goal

pub returns : goal.returns
returns c = seen_is_made
