use Rattle.std.proofs.Common.{◌≡◌, ◌-◌}
use Rattle.std.specs.Prelude.{find}
use Rattle.std.specs.List.{range_with_len}
use Rattle.m161_drive.specs.Ready.{is_ticking}
use Rattle.m161_drive.proofs.ready.ticking_between.Given as goal

-- the rest of the range has what the whole has
abbrev pub invariant-loop-p : goal.invariant-loop-p
invariant-loop-p g l =
    find (is_ticking l.core.state) (range_with_len l.p (l.to - l.p))
    ≡ find (is_ticking l.core.state) (range_with_len l.from (l.to - l.from))
