use Rattle.std.proofs.Common.{◌<◌, ◌≤◌, ◌+◌, ◌-◌, ◌/◌, ℕ, arith}
use Rattle.std.specs.List.{slice_index_or}
use Rattle.m161_symbols.specs.declared.named.Place.{Place}
use Rattle.m161_symbols.proofs.Nearest.{below_middle, above_middle}
use Rattle.m161_symbols.proofs.named.count_below.Goals as goal

pub loop-low-preserved-then-from-bound : goal.loop-low-preserved-then-from-bound
loop-low-preserved-then-from-bound c =
    let places = c.args.places.now in
    let m : ℕ = c.loop-low.low + (c.loop-low.high - c.loop-low.low) / 2 in
    let e : Place = record { value = 0; number = 0 } in
    let test : (slice_index_or places m e).value < c.args.bound =
    omega (arith, c.from.ensures, c.if-from-bound.true) in
    record {
      within = (omega arith, omega arith);
      below =
          λ i d h. below_middle places c.args.bound m i d e c.requires (omega arith) test h;
      above = c.loop-low.invariant.above;
    }

pub loop-low-preserved : goal.loop-low-preserved
loop-low-preserved c =
    let places = c.args.places.now in
    let m : ℕ = c.loop-low.low + (c.loop-low.high - c.loop-low.low) / 2 in
    let e : Place = record { value = 0; number = 0 } in
    let test : c.args.bound ≤ (slice_index_or places m e).value =
    omega (arith, c.from.ensures, c.if-from-bound.false) in
    record {
      within = (omega arith, omega arith);
      below = c.loop-low.invariant.below;
      above = λ i d h k. above_middle places c.args.bound m i d e c.requires test h k;
    }
