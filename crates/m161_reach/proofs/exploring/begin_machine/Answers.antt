use Rattle.std.proofs.Common.{subst}
use Rattle.m161_explore.specs.Unfinished.{IsUnfinished}
use Rattle.m161_states.specs.Question.{Question}
use Rattle.m161_reach.specs.Hand.{IsReady}
use Rattle.m161_reach.specs.Reach.{IsMet, rules_of}
use Rattle.m161_reach.proofs.Knowing.{nothing_learnt}
use Rattle.m161_reach.proofs.exploring.begin_machine.Goals as goal

pub returns-clause-exploring : goal.returns-clause-exploring
returns-clause-exploring g c = λ limit some.
    let P : Question → Type 0 = λ q. IsUnfinished (rules_of q) (IsMet q) (IsReady q) limit c.in_ok-unfinished.unfinished in
    record {
      unfinished = subst P c.new.ensures (c.in_ok-unfinished.ensures.unfinished limit some);
      learnt = nothing_learnt c.args.boot.now.state c.args.goal.now c.nothing-known.result c.nothing-known.ensures;
    }
