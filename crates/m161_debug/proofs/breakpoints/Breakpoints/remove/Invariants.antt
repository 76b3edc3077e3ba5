use Rattle.std.proofs.Common.{◌≡◌, ◌≤◌, take, length}
use Rattle.m161_debug.specs.Breakpoints.{without_breakpoint}
use Rattle.m161_debug.proofs.breakpoints.Breakpoints.remove.Given as goal

abbrev pub invariant-loop-i : goal.invariant-loop-i
invariant-loop-i l = record {
  kept : l.kept ≡ without_breakpoint l.breakpoint (take l.i l.self-inside.table);
  few : length l.kept ≤ l.i;
}
