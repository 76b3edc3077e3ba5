use Rattle.std.proofs.Common.{◌≡◌, ◌≤◌, [], length, take, vec_capacity}
use Rattle.m161_audit.specs.Tracking.{tracked}
use Rattle.m161_audit.proofs.shootdown.from_start.Given as goal

-- the shootdowns so far
abbrev pub invariant-loop-watch : goal.invariant-loop-watch
invariant-loop-watch l = (l.items.items ≡ tracked (take l.watch-index l.watches) []) × (length l.watches ≤ vec_capacity l.items)
