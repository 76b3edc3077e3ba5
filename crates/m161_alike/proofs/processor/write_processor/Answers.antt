use Rattle.std.proofs.Common.{◌∙◌, ◌++◌, ap}
use Rattle.m161_machine.specs.State.{processor_at}
use Rattle.m161_alike.specs.View.{processor_view}
use Rattle.m161_alike.specs.Words.{processor_words}
use Rattle.m161_alike.proofs.processor.write_processor.Goals as goal

pub returns-in-Ok-clause-ok : goal.returns-in-Ok-clause-ok
returns-in-Ok-clause-ok g c =
    c.in-Ok.ensures.ok
    ∙ ap (λ k. c.args.out.now.items ++ processor_words (processor_view k (processor_at c.args.p c.args.core.now.state.processors)))
    c.of.ensures
