use Rattle.std.proofs.Common.{◌≡◌, take}
use Rattle.s161_base.specs.FaultLines.{shown_name}
use Rattle.s161_base.proofs.pieces.plain_front.Given as goal

-- no byte so far is written by its number
abbrev pub invariant-loop-i : goal.invariant-loop-i
invariant-loop-i l = shown_name (take l.i l.name) ≡ take l.i l.name
