use Rattle.std.proofs.Common.{◌+◌, ◌-◌, ◌/◌, Bool, arith, subst, take}
use Rattle.std.specs.Prelude.{MatchBool}
use Rattle.m161_reach.specs.From.{asked_of}
use Rattle.m161_reach.specs.Hangs.{IsFreeAt, IsHungAt}
use Rattle.m161_reach.specs.helpers.Walk.{HangsAlong}
use Rattle.m161_reach.proofs.Walking.{ends_not, free_less, goes_less}
use Rattle.m161_reach.proofs.hang.least_hang.Goals as goal

-- the first of events that go along go along
pub unreachable-requires : goal.unreachable-requires
unreachable-requires g c =
    let q = asked_of c.args.boot.now.state c.args.goal.now in
    let es = c.args.events.now in
    let middle = c.loop-low.low + (c.loop-low.high - c.loop-low.low) / 2 in
    ends_not q (take middle es) (goes_less q es middle c.requires.goes)
    (subst (HangsAlong q c.args.limit (take middle es)) c.in_default.is c.in_ok-hangs.ensures)

pub loop-low-preserved : goal.loop-low-preserved
loop-low-preserved g c =
    let q = asked_of c.args.boot.now.state c.args.goal.now in
    let es = c.args.events.now in
    let limit = c.args.limit in
    let middle = c.loop-low.low + (c.loop-low.high - c.loop-low.low) / 2 in
    let along = subst (HangsAlong q limit (take middle es)) c.in-Some.is c.in_ok-hangs.ensures in
    let free : IsFreeAt q limit (take middle es) =
    subst (λ (b : Bool). MatchBool b (IsHungAt q limit (take middle es)) (IsFreeAt q limit (take middle es))) c.if-hangs.false along.1 in
    let more = c.loop-low-test.true in
    record {
      ordered = omega (arith, more);
      within = c.loop-low.invariant.within;
      hangs = c.loop-low.invariant.hangs;
      free = λ k below. free_less q limit es k middle (omega (arith, below)) free;
    }

pub returns : goal.returns
returns g c = record {
  within = c.loop-low.invariant.within;
  hangs = c.loop-low.invariant.hangs;
  first = λ k below. c.loop-low.invariant.free k (let done = c.loop-low-test.false in omega (arith, below, done));
}
