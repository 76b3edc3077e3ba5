use Rattle.std.proofs.Common.{◌≡◌}
use Rattle.m161_gdb.specs.Motions.{motion_by_control, tabulate}
use Rattle.m161_gdb.proofs.motions.motions_by_control.Given as goal

abbrev pub invariant-loop-p : goal.invariant-loop-p
invariant-loop-p l = l.chosen.items ≡ tabulate (motion_by_control l.control l.general l.motion) l.p
