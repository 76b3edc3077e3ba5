use Rattle.std.proofs.Common.{take}
use Rattle.std.specs.Prelude.{All}
use Rattle.m161_audit.specs.helpers.Progress.{IsWithin}
use Rattle.m161_audit.proofs.shootdown.bounds.Given as goal

-- the bounds of the shootdowns so far
abbrev pub invariant-loop-item : goal.invariant-loop-item
invariant-loop-item l = All (IsWithin l.low l.high) (take l.item-index l.items)
