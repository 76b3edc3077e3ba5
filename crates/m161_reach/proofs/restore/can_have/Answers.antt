use Rattle.m161_reach.proofs.restore.can_have.Goals as goal

pub returns-else-not-strict : goal.returns-else-not-strict
returns-else-not-strict c = λ yes strict. c.are_apart.ensures yes
