use Rattle.std.proofs.Common.{◌≡◌, ◌++◌, length, take, drop}
use Rattle.m161_machine.specs.State.{with_starts}
use Rattle.m161_machine.proofs.step.start_others.Given as goal

-- the processors so far are started, where they have to be
abbrev pub invariant-loop-c : goal.invariant-loop-c
invariant-loop-c g l =
    (l.processors.items ≡ with_starts l.before l.board.state 0 (take l.c l.initial.processors.items) ++ drop l.c l.initial.processors.items)
    × (length l.processors.items ≡ length l.initial.processors.items)
