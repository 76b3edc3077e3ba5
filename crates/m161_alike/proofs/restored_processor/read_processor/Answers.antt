use Rattle.std.proofs.Common.{◌∙◌, ap, sym, subst}
use Rattle.m161_tlb.specs.Rows.{AreApart}
use Rattle.m161_cpu.specs.Restore.{restored_processor}
use Rattle.m161_machine.specs.State.{State, processor_at}
use Rattle.m161_machine.specs.Restore.{with_processor}
use Rattle.m161_alike.specs.View.{processor_view}
use Rattle.m161_alike.proofs.Restoring.{restored, view_is}
use Rattle.m161_alike.proofs.restored_processor.read_processor.Goals as goal

pub restore_processor-requires-clause-apart : goal.restore_processor-requires-clause-apart
restore_processor-requires-clause-apart g c = λ strict. subst AreApart (sym c.rows_of-rows.ensures) (c.requires.apart strict)

pub returns-clause-state : goal.returns-clause-state
returns-clause-state g c =
    c.restore_processor.ensures.state
    ∙ (λ i. with_processor c.args.p (restored_processor (c.parts_of-parts.ensures i) (c.rows_of-rows.ensures i)) c.args.core.now.state)

pub returns-clause-view : goal.returns-clause-view
returns-clause-view g c = λ known q h.
    c.restore_processor.ensures.state
    ∙ (λ i. with_processor c.args.p (restored_processor (c.parts_of-parts.ensures i) (c.rows_of-rows.ensures i)) c.args.core.now.state)
    ∙ ap (λ x. with_processor c.args.p x c.args.core.now.state) (restored known q c.args.words.now h)

pub returns-clause-same : goal.returns-clause-same
returns-clause-same g c = λ known q h.
    ap (λ (s : State). processor_view known (processor_at c.args.p s.processors))
    (c.restore_processor.ensures.state
    ∙ (λ i. with_processor c.args.p (restored_processor (c.parts_of-parts.ensures i) (c.rows_of-rows.ensures i)) c.args.core.now.state)
    ∙ ap (λ x. with_processor c.args.p x c.args.core.now.state) (restored known q c.args.words.now h))
    ∙ view_is known q c.args.core.now.state.processors c.args.p c.requires.place
