use Rattle.std.proofs.Common.{◌∙◌, ◌++◌, ap, sym, append_assoc}
use Rattle.s161_run.specs.Runs.{output_text, started_text, started_texts}
use Rattle.s161_run.proofs.Shown.{started_more}
use Rattle.s161_run.proofs.summary.summary_with.Goals as goal

pub loop-p-preserved : goal.loop-p-preserved
loop-p-preserved c =
    let s = c.args.core.now.state in
    let output = output_text s.board.console.output in
    c.in_ok-push_processor.ensures ∙ ap (λ text. text ++ started_text s c.loop-p.p) c.loop-p.invariant
    ∙ append_assoc output (started_texts s c.loop-p.p) (started_text s c.loop-p.p)
    ∙ ap (λ text. output ++ text) (sym (started_more s c.loop-p.p))
