use Rattle.std.proofs.Common.{◌≡◌, ◌++◌, take}
use Rattle.m161_alike.proofs.board.push_waiting.Given as goal

-- the bytes so far
abbrev pub invariant-loop-place : goal.invariant-loop-place
invariant-loop-place g l = l.out.items ≡ l.fn.out.items ++ take l.place l.core.state.board.console.waiting
