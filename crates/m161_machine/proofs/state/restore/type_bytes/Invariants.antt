use Rattle.std.proofs.Common.{◌≡◌, take}
use Rattle.m161_machine.specs.Restore.{with_waiting}
use Rattle.m161_machine.proofs.state.restore.type_bytes.Given as goal

-- the bytes so far wait
abbrev pub invariant-loop-place : goal.invariant-loop-place
invariant-loop-place g l =
    (l.board.state ≡ with_waiting (take l.place l.bytes) l.fn.board.state)
    × (l.board.room ≡ l.fn.board.room) × (l.board.changed ≡ l.fn.board.changed)
