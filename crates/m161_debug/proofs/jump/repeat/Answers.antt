use Rattle.std.proofs.Common.{arith}
use Rattle.m161_machine.proofs.Continuing.{continues_none}
use Rattle.m161_debug.proofs.Repeating.{repeats_on}
use Rattle.m161_debug.proofs.jump.repeat.Goals as goal

pub loop-made-init : goal.loop-made-init
loop-made-init g c = record {
  again = continues_none c.args.again.now (let last = c.replay.ensures.last in omega (arith, last));
  rest = c.requires.before;
  within = omega arith;
}

pub loop-made-preserved : goal.loop-made-preserved
loop-made-preserved g c = record {
  again = repeats_on c.args.past.now.log c.args.past.now.state c.loop-made.made c.in_ok-made.field-0 c.args.again.now c.loop-made.again _ c.loop-made.invariant.again c.in_ok-made.ensures.repeats;
  rest = c.in_ok-made.ensures.repeats.rest;
  within = omega (arith, c.in_ok-made.ensures.within.1);
}
