use Rattle.std.proofs.Common.{◌≡◌, ◌++◌, ◌+◌, ◌-◌, ◌≤◌, take, length}
use Rattle.std.specs.Prelude.{filter}
use Rattle.std.specs.List.{range_with_len}
use Rattle.m161_drive.specs.Ready.{is_ready}
use Rattle.m161_drive.proofs.ready.add_ready.Given as goal

-- those so far and those of the rest are all
abbrev pub invariant-loop-p : goal.invariant-loop-p
invariant-loop-p g l = record {
  long : length l.places ≡ 32;
  low : l.from ≤ l.p;
  few : l.count ≤ l.written + (l.p - l.from);
  all :
      take l.count l.places ++ filter (is_ready l.core.state) (range_with_len l.p (l.to - l.p))
      ≡ take l.written l.fn.places ++ filter (is_ready l.core.state) (range_with_len l.from (l.to - l.from));
}
