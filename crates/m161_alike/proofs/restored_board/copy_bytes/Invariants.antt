use Rattle.std.proofs.Common.{◌≡◌, length, take}
use Rattle.m161_alike.specs.RestoredBoard.{waiting_in}
use Rattle.m161_alike.proofs.restored_board.copy_bytes.Given as goal

-- the bytes so far are those of the words
abbrev pub invariant-loop-place : goal.invariant-loop-place
invariant-loop-place l = (length l.bytes ≡ 256) × (take l.place l.bytes ≡ waiting_in (take l.place l.words))
