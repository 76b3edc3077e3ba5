use Rattle.std.proofs.Common.{refl}
use Rattle.m161_server.specs.Descriptions.{description}
use Rattle.m161_server.proofs.description.description.Goals as goal

pub returns : goal.returns
unfolding description
returns c = refl
