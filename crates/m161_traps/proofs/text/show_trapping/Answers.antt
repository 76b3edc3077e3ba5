use Rattle.std.proofs.Common.{◌∙◌, ◌++◌, None, ap, sym}
use Rattle.std.specs.Prelude.{slice_index_or}
use Rattle.m161_traps.specs.Shown.{trapping_if}
use Rattle.m161_traps.proofs.Lasting.{texts_more}
use Rattle.m161_traps.proofs.text.show_trapping.Goals as goal

pub loop-p-preserved : goal.loop-p-preserved
loop-p-preserved c =
    let tails = c.args.tails.now in
    let p = c.loop-p.p in
    c.in_ok-push_trapping.ensures
    ∙ ap (λ text. text ++ trapping_if p (slice_index_or tails p None)) c.loop-p.invariant
    ∙ sym (texts_more (λ p. trapping_if p (slice_index_or tails p None)) p)
