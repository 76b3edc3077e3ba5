use Rattle.std.proofs.Common.{◌∙◌, sym}
use Rattle.m161_machine.proofs.Starting.{no_starts}
use Rattle.m161_machine.proofs.step.start_new.Goals as goal

pub returns-then-not-changed-clause-processors : goal.returns-then-not-changed-clause-processors
returns-then-not-changed-clause-processors g c =
    sym (no_starts c.args.started.now c.args.board.now.state 0 c.args.processors.now.items
    (sym (c.requires.same (sym c.changed.ensures ∙ c.if-not-changed.true))))
