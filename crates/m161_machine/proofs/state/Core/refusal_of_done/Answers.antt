use Rattle.std.proofs.Common.{◌∙◌, ap, sym}
use Rattle.m161_machine.specs.State.{CoreValue}
use Rattle.m161_machine.proofs.Accepting.{done_accepted}
use Rattle.m161_machine.proofs.state.Core.refusal_of_done.Goals as goal

pub returns-in-Some-latch-clause-none : goal.returns-in-Some-latch-clause-none
returns-in-Some-latch-clause-none g c =
    done_accepted c.args.self.now.state c.in-Some-latch._byte (sym c.in_default.ensures.value)
    (ap (λ (v : CoreValue). v.state.board.console.latch) (sym c.self.view_is) ∙ sym c.latch.ensures ∙ c.in-Some-latch.is)
