use Rattle.std.proofs.Common.{◌∙◌, ap}
use Rattle.m161_machine.specs.declared.conf.Conf.{Conf}
use Rattle.m161_machine.specs.Restore.{with_processor}
use Rattle.m161_alike.specs.Restored.{with_ticks}
use Rattle.m161_alike.specs.View.{processor_view}
use Rattle.m161_reach.proofs.Remaking.{viewed_again}
use Rattle.m161_reach.proofs.restore.remake_processor.Goals as goal

pub read_processor-requires-clause-apart : goal.read_processor-requires-clause-apart
read_processor-requires-clause-apart g c = λ strict. c.can_have.ensures c.if-not-can_have.false (ap (λ (conf : Conf). conf.strict) c.conf-strict.ensures ∙ strict)

pub returns-clause-view : goal.returns-clause-view
returns-clause-view g c = λ known q sizes is.
    c.read_processor.ensures.view known (processor_view known q)
    (c.bounded_words_can_be_held.ensures.processors known q c.args.words.now sizes is (c.is_bounded.ensures.yes c.if-not-is_bounded.false))
    ∙ ap (λ x. with_processor c.args.p (with_ticks x) c.args.core.now.state) (viewed_again known q)
