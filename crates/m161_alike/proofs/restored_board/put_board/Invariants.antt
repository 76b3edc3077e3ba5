use Rattle.std.proofs.Common.{◌≡◌, ◌≤◌, drop, length, take}
use Rattle.m161_machine.specs.Restore.{with_board_parts}
use Rattle.m161_alike.specs.RestoredBoard.{board_in, conflict_in, part_at, waiting_in, with_places}
use Rattle.m161_alike.proofs.restored_board.put_board.Given as goal

-- the parts so far are those of the words
abbrev pub invariant-loop-p : goal.invariant-loop-p
invariant-loop-p g l =
    let before = l.fn.core.state in
    (l.core.state
    ≡ with_places l.p l.words
    (with_board_parts (board_in l.words) (waiting_in (take 256 (drop (part_at (length before.processors)) l.words))) (conflict_in l.words) before))
    × (l.fn.core.room ≤ l.core.room)
