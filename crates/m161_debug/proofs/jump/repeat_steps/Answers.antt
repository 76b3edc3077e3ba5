use Rattle.std.proofs.Common.{arith}
use Rattle.m161_debug.proofs.Repeating.{steps_repeat}
use Rattle.m161_debug.proofs.jump.repeat_steps.Goals as goal

pub returns-clause-repeats : goal.returns-clause-repeats
returns-clause-repeats g c =
    let within = c.steps_from-number.ensures.within.1 in
    steps_repeat c.args.past.now.log c.args.past.now.state c.args.p c.args.first c.steps_from-number.result _ _ c.args.again.now c.steps-all.new.self c.requires.before (omega (arith, within, c.requires.inside.1))
    c.steps_from-number.ensures.steps c.steps-all.ensures.run c.steps-all.ensures.end
