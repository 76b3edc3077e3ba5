use Rattle.std.proofs.Common.{◌∙◌, ap, ◌+◌}
use Rattle.m161_states.specs.Question.{processors_of}
use Rattle.m161_reach.proofs.Asked.{processors_are}
use Rattle.m161_reach.proofs.machines.Machines.width.Goals as goal

pub returns : goal.returns
returns g c =
    ap (λ n. n + 2)
    (c.processors.ensures ∙ c.law.ensures.number
    ∙ processors_are c.self.inside.boot.now.state c.self.inside.goal.now c.self.inside.known c.self.invariant
    ∙ ap processors_of c.self.view_is)
