use Rattle.std.proofs.Common.{◌≡◌, ◌≤◌, ◌+◌, ◌-◌, length}
use Rattle.std.specs.Prelude.{filter}
use Rattle.std.specs.List.{range_with_len}
use Rattle.m161_drive.specs.Ready.{is_ready, ready}
use Rattle.m161_places.proofs.counts.count_ready.Given as goal

-- those so far and those of the rest are all
abbrev pub invariant-loop-p : goal.invariant-loop-p
invariant-loop-p g l = record {
  few : l.count ≤ l.p;
  within : l.p-end ≤ 32;
  all : l.count + length (filter (is_ready l.core.state) (range_with_len l.p (l.p-end - l.p))) ≡ length (ready l.core.state);
}
