use Rattle.std.proofs.Common.{◌≡◌, ◌++◌}
use Rattle.s161_run.specs.Runs.{output_text, started_texts}
use Rattle.s161_run.proofs.summary.summary_with.Given as goal

abbrev pub invariant-loop-p : goal.invariant-loop-p
invariant-loop-p l =
    l.text.items ≡ output_text l.core.state.board.console.output ++ started_texts l.core.state l.p
