use Rattle.std.proofs.Common.{◌∙◌, sym}
use Rattle.m161_reach.specs.From.{rules_from}
use Rattle.m161_reach.proofs.onward.advance_place.Goals as goal

pub returns-in-Some-clause-advances : goal.returns-in-Some-clause-advances
unfolding rules_from
returns-in-Some-clause-advances g c = λ x. sym c.unknown_of.ensures ∙ c.in-Some.is
