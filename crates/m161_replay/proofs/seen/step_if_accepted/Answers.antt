use Rattle.std.proofs.Common.{◌∙◌, ap, sym, Some}
use Rattle.m161_replay.proofs.Places.{step_is_seen, step_unseen}
use Rattle.m161_replay.proofs.seen.step_if_accepted.Goals as goal

pub returns-in-Some : goal.returns-in-Some
returns-in-Some g c = step_unseen c.args.p c.args.core.now.state _ (sym c.refusal.ensures.value ∙ c.in-Some.is)

pub returns-in-None : goal.returns-in-None
returns-in-None g c = ap (λ x. Some x) c.step_seen.ensures ∙ step_is_seen c.args.p c.args.core.now.state (sym c.refusal.ensures.value ∙ c.in-None.is)
