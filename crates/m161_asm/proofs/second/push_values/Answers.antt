use Rattle.std.proofs.Common.{arith}
use Rattle.m161_asm.specs.Text.{word_of_value}
use Rattle.m161_asm.specs.Seen.{symbols_seen}
use Rattle.m161_asm.specs.helpers.Seen.{value_seen}
use Rattle.m161_asm.proofs.Each.{one_more, stopped, all_done, front_err}
use Rattle.m161_asm.proofs.second.push_values.Goals as goal

pub loop-v-preserved : goal.loop-v-preserved
loop-v-preserved c =
    rw c.in_ok-push-in-Ok.ensures.items
    (one_more value_seen (word_of_value (symbols_seen c.args.symbols.now)) c.args.values.now
    _ _ _ _ _ c.loop-v-test.true c.in-Ok.ensures c.loop-v.invariant)

pub returns-in-Err : goal.returns-in-Err
returns-in-Err c =
    front_err _ _ _
    (stopped value_seen (word_of_value (symbols_seen c.args.symbols.now)) c.args.values.now
    _ _ _ _ _ c.loop-v-test.true c.in-Err.ensures c.loop-v.invariant)

pub returns : goal.returns
returns c =
    all_done value_seen (word_of_value (symbols_seen c.args.symbols.now)) c.args.values.now
    _ _ _ (omega (arith, c.loop-v-test.false)) c.loop-v.invariant
