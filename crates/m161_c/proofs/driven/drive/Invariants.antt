use Rattle.m161_c.proofs.Driving.{Going}
use Rattle.m161_c.proofs.driven.drive.Given as goal

-- the events so far are chosen and made
abbrev pub invariant-loop-made : goal.invariant-loop-made
invariant-loop-made l = Going l.policy l.fn.machine l.made l.cursor l.machine
