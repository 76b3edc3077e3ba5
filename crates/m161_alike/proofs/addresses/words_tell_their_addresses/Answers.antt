use Rattle.m161_alike.proofs.Covering.{cover_told}
use Rattle.m161_alike.proofs.addresses.words_tell_their_addresses.Goals as goal

pub returns : goal.returns
returns c = cover_told
