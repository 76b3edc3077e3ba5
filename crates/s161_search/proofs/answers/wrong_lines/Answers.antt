use Rattle.std.proofs.lemmas.Result.{IfOk-weaker}
use Rattle.s161_search.specs.Explores.{states_text}
use Rattle.s161_search.proofs.answers.wrong_lines.Goals as goal

pub returns : goal.returns
returns c = IfOk-weaker c.found_lines.result _ _ (λ lines h. h (states_text c.args.states) c.in_ok-line.ensures) c.found_lines.ensures
