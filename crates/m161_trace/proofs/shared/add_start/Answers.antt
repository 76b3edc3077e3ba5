use Rattle.std.proofs.Common.{sym, ◌∙◌}
use Rattle.m161_trace.proofs.Spaced.{not_when, when_ok}
use Rattle.m161_trace.proofs.shared.add_start.Goals as goal

pub returns-then-is_new : goal.returns-then-is_new
returns-then-is_new c = when_ok _ _ _ _ _ (sym c.is_new.ensures ∙ c.if-is_new.true) c.push_starts.ensures

pub returns-else-is_new : goal.returns-else-is_new
returns-else-is_new c = not_when _ _ _ (sym c.is_new.ensures ∙ c.if-is_new.false)
