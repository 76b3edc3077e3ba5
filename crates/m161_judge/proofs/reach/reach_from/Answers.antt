use Rattle.std.proofs.Common.{arith}
use Rattle.m161_judge.proofs.Reaching.{sought_found, sought_open, sought_refused, walk_more}
use Rattle.m161_judge.proofs.reach.reach_from.Goals as goal

pub loop-place-preserved : goal.loop-place-preserved
loop-place-preserved g c = λ s before.
    walk_more c.args.never.now s c.args.events.now c.loop-place.place _ c.loop-place.core.state c.make_event.new.core.state
    c.in_ok-outcome.field-0 c.in-Some.outcome c.would_reach-would.result c.reach_by.result (omega arith) (c.loop-place.invariant s before)
    c.would_reach-would.ensures c.in_ok-outcome.ensures c.in-Some.is c.reach_by.ensures c.in_default-reach_by.is

pub returns-in-Some-reach_by-clause-found : goal.returns-in-Some-reach_by-clause-found
returns-in-Some-reach_by-clause-found g c = λ s before.
    sought_found c.args.never.now s c.args.events.now c.loop-place.place _ c.loop-place.core.state c.make_event.new.core.state
    c.in_ok-outcome.field-0 c.in-Some.outcome c.would_reach-would.result c.reach_by.result c.in-Some-reach_by.reach (omega arith)
    (c.loop-place.invariant s before) c.would_reach-would.ensures c.in_ok-outcome.ensures c.in-Some.is c.reach_by.ensures c.in-Some-reach_by.is

pub returns-in_default-clause-found : goal.returns-in_default-clause-found
returns-in_default-clause-found g c = λ s before.
    sought_refused c.args.never.now s c.args.events.now c.loop-place.place _ c.loop-place.core.state c.make_event.new.core.state
    c.in_ok-outcome.field-0 (omega arith) (c.loop-place.invariant s before) c.in_ok-outcome.ensures c.in_default.is

pub returns-clause-found : goal.returns-clause-found
returns-clause-found g c = λ s before.
    sought_open c.args.never.now s c.args.events.now c.loop-place.place c.loop-place.core.state (omega arith) (c.loop-place.invariant s before)
