use Rattle.std.proofs.Common.{◌∙◌, ap}
use Rattle.m161_states.specs.Verdicts.{is_end}
use Rattle.m161_reach.specs.Reach.{rules_of}
use Rattle.m161_reach.specs.Hand.{InHand}
use Rattle.m161_reach.proofs.system.MachinesSystem.is_end.Goals as goal

pub returns : goal.returns
unfolding rules_of
returns g c = c.ends_at.ensures ∙ ap (λ (h : InHand). is_end c.args.self.now h.place) c.state.view_is
