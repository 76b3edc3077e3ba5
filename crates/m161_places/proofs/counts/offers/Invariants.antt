use Rattle.std.proofs.Common.{◌≡◌, ◌-◌, ◌++◌, length}
use Rattle.std.specs.Prelude.{slice_get}
use Rattle.m161_drive.specs.Choice.{cursor_at}
use Rattle.m161_places.specs.Places.{offers}
use Rattle.m161_places.proofs.counts.offers.Given as goal

-- those so far and those of the rest are all
abbrev pub invariant-loop : goal.invariant-loop
invariant-loop g l = record {
  places : length l.entry ≡ 1;
  all :
      l.counts.items ++ offers (l.n - l.counter) l.policy (slice_get l.policy.keys) l.cursor l.core.state
      ≡ l.fn.counts.items ++ offers l.n l.policy (slice_get l.policy.keys) (cursor_at l.policy l.fn.core.state) l.fn.core.state;
}
