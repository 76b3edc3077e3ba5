use Rattle.m161_shorten.proofs.Finding.{found_here, none_so_far, not_here, nowhere, other_here}
use Rattle.m161_shorten.proofs.ranges.find_step.Goals as goal

pub loop-k-init : goal.loop-k-init
loop-k-init c = none_so_far c.args.p c.args.events.now

pub returns-then-p-q-clause-value : goal.returns-then-p-q-clause-value
returns-then-p-q-clause-value c =
    found_here c.args.p c.in-Step.q c.loop-k.k c.args.events.now c.loop-k.invariant c.loop-k-test.true c.in-Step.is c.if-p-q.true

pub returns-in_default-clause-value : goal.returns-in_default-clause-value
returns-in_default-clause-value c = other_here c.args.p c.loop-k.k c.args.events.now c.loop-k.invariant c.loop-k-test.true c.in_default.not-Step

pub loop-k-preserved : goal.loop-k-preserved
loop-k-preserved c =
    not_here c.args.p c.in-Step.q c.loop-k.k c.args.events.now c.loop-k.invariant c.loop-k-test.true c.in-Step.is c.if-p-q.false

pub returns-clause-value : goal.returns-clause-value
returns-clause-value c = nowhere c.args.p c.loop-k.k c.args.events.now c.loop-k.invariant c.loop-k-test.false
