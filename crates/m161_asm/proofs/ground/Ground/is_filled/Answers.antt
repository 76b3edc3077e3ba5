use Rattle.m161_asm.proofs.Grounds.{filled_then, filled_else}
use Rattle.m161_asm.proofs.ground.Ground.is_filled.Goals as goal

pub returns-then-size-gt0-clause-value : goal.returns-then-size-gt0-clause-value
returns-then-size-gt0-clause-value c =
    filled_then c.args.self.now c.args.address c.args.size c.requires.ordered c.requires.within
    c.if-size-gt0.true

pub returns-else-size-gt0-clause-value : goal.returns-else-size-gt0-clause-value
returns-else-size-gt0-clause-value c =
    filled_else c.args.self.now c.args.address c.args.size c.requires.ordered c.requires.within
    c.if-size-gt0.false
