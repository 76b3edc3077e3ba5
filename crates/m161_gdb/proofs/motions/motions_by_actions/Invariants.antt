use Rattle.std.proofs.Common.{◌≡◌}
use Rattle.m161_gdb.specs.Motions.{tabulate}
use Rattle.m161_gdb.specs.Packets.{first_naming}
use Rattle.m161_gdb.proofs.motions.motions_by_actions.Given as goal

abbrev pub invariant-loop-p : goal.invariant-loop-p
invariant-loop-p l = l.chosen.items ≡ tabulate (λ p. first_naming p l.actions) l.p
