use Rattle.std.proofs.Common.{◌≡◌, ◌++◌, drop, map}
use Rattle.m161_c.specs.Explored.{watch_of}
use Rattle.m161_c.proofs.explored.watches_of.Given as goal

-- the watches so far, and those of the numbers that are left
abbrev pub invariant-loop-watch : goal.invariant-loop-watch
invariant-loop-watch l = map watch_of l.numbers ≡ l.watches.items ++ map watch_of (drop l.watch-index l.numbers)
