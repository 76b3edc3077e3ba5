use Rattle.std.proofs.Common.{sym, ◌∙◌}
use Rattle.m161_trace.proofs.Spaced.{same_if, unless_ok}
use Rattle.m161_trace.proofs.processor.add_changed_row.Goals as goal

pub returns-then-same_row : goal.returns-then-same_row
returns-then-same_row c = same_if _ _ _ (sym c.same_row.ensures ∙ c.if-same_row.true)

pub returns : goal.returns
returns c = unless_ok _ _ _ _ _ (sym c.same_row.ensures ∙ c.if-same_row.false) c.push_row_words.ensures
