use Rattle.std.proofs.Common.{◌≡◌, ◌==◌, ◌-◌, ◌<◌, length, slice_index}
use Rattle.std.specs.Prelude.{IfSome, filter}
use Rattle.std.specs.List.{last_or, range_with_len}
use Rattle.m161_drive.specs.Priorities.{last_point}
use Rattle.m161_drive.proofs.ranking.last_point.Given as goal

-- the last so far, or one of the rest
abbrev pub invariant-loop-j : goal.invariant-loop-j
invariant-loop-j l =
    (last_or l.last (filter (λ j. slice_index l.points j == l.step) (range_with_len l.j (length l.points - l.j)))
    ≡ last_point l.step l.points)
    × IfSome l.last (λ j. j < length l.points)
