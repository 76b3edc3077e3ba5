use Rattle.std.proofs.Common.{◌∙◌, sym, ap, rules}
use Rattle.m161_machine.proofs.Starting.{no_starts}
use Rattle.m161_machine.proofs.step.start_by_board.Goals as goal
use Rattle.m161_machine.proofs.step.start_by_board.Goals.{then-started, else-started}

pub returns-clause-processors : goal.returns-clause-processors
returns-clause-processors g c =
    elim c.if-started.branch [
      | then-started w ↦ ap (λ v. v.items) w.processors-is ∙ w.start_others.ensures
      | else-started w ↦ ap (λ v. v.items) w.processors-is
          ∙ sym (no_starts c.args.started.now c.args.board.now.state 0 c.args.processors.now.items (search rules))
    ]
