use Rattle.std.proofs.Common.{◌∙◌, ◌+◌, ap}
use Rattle.m161_states.specs.Question.{processors_of}
use Rattle.m161_reach.specs.From.{rules_from}
use Rattle.m161_reach.specs.helpers.Onward.{Origin}
use Rattle.m161_reach.proofs.onward.OnwardSystem.width.Goals as goal

pub returns : goal.returns
unfolding rules_from
returns g c = c.width.ensures ∙ ap (λ (m : Origin). processors_of m.question + 2) c.self.view_is
