use Rattle.s161_texts.proofs.Driving.{Printing}
use Rattle.s161_texts.proofs.driven.trace_policy.Given as goal

-- the events so far are chosen and made, and their lines are put out
abbrev pub invariant-loop-made : goal.invariant-loop-made
invariant-loop-made g l =
    Printing l.policy l.fn.machine.state l.fn.lines (g.O.Write.contents l.fn.output) l.made l.cursor l.machine.state l.lines (g.O.Write.contents l.output)
