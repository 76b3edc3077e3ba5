use Rattle.std.proofs.Common.{refl}
use Rattle.m161_reach.specs.From.{rules_from}
use Rattle.m161_reach.proofs.onward.OnwardSystem.is_end.Goals as goal

pub returns : goal.returns
unfolding rules_from
returns g c = refl
