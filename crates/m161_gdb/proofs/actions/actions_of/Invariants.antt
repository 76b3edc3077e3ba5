use Rattle.std.proofs.Common.{◌≡◌, length}
use Rattle.m161_gdb.specs.Packets.{actions_of, parts, read_actions}
use Rattle.m161_gdb.specs.helpers.Lists.{all_behind}
use Rattle.m161_gdb.proofs.actions.actions_of.Given as goal

abbrev pub invariant-loop-part : goal.invariant-loop-part
invariant-loop-part l = all_behind l.actions (read_actions (parts 59 l.rest)) ≡ actions_of l.text

abbrev pub decreases-loop-part : goal.decreases-loop-part
decreases-loop-part l = length l.rest
