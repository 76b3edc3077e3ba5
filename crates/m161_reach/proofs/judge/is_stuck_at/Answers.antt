use Rattle.std.proofs.Common.{◌∙◌, sym, length, nat_lt}
use Rattle.m161_states.specs.Verdicts.{is_stuck_in}
use Rattle.m161_reach.proofs.Fresh.{fresh_stuck}
use Rattle.m161_reach.proofs.judge.is_stuck_at.Goals as goal

pub returns : goal.returns
returns g c =
    c.is_stuck.ensures
    ∙ sym (fresh_stuck (nat_lt c.place.inside.typed (length c.goal.inside.keys.now)) c.place.inside.core.state)
    ∙ (λ i. is_stuck_in (c.goal.view_is i) (c.place.view_is i))
