use Rattle.std.proofs.Common.{sym, ◌∙◌}
use Rattle.m161_trace.proofs.Spaced.{same_if, unless_ok}
use Rattle.m161_trace.proofs.processor.add_state.Goals as goal

pub returns-then-same_state : goal.returns-then-same_state
returns-then-same_state c = same_if _ _ _ (sym c.same_state.ensures ∙ c.if-same_state.true)

pub returns : goal.returns
returns c = unless_ok _ _ _ _ _ (sym c.same_state.ensures ∙ c.if-same_state.false) c.push_doing.ensures
