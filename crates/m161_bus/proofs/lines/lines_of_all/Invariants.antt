use Rattle.std.proofs.Common.{◌≡◌, ◌<◌, ℕ, length, slice_index, slice_index_or}
use Rattle.m161_bus.specs.Board.{lines_at, place_at_boot}
use Rattle.m161_bus.proofs.lines.lines_of_all.Given as goal

abbrev pub invariant-loop-i : goal.invariant-loop-i
invariant-loop-i l =
    (length l.lines ≡ 32)
    × ((c : ℕ) → c < l.i
    → slice_index l.lines c ≡ lines_at l.through (slice_index_or l.places c (place_at_boot 0)))
