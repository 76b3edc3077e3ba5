use Rattle.std.proofs.Common.{arith}
use Rattle.m161_asm.specs.Text.{field_of}
use Rattle.m161_asm.specs.Seen.{symbols_seen}
use Rattle.m161_asm.specs.helpers.Seen.{part_seen}
use Rattle.m161_asm.proofs.Each.{one_more, stopped, all_done}
use Rattle.m161_asm.proofs.values.fields_of.Goals as goal

pub loop-part-preserved : goal.loop-part-preserved
loop-part-preserved c =
    rw c.in_ok-push-in-Ok.ensures.items
    (one_more part_seen (field_of (symbols_seen c.args.symbols.now) c.args.at) c.args.parts.now
    _ _ _ _ _ c.loop-part-test.true c.in-Ok.ensures c.loop-part.invariant)

pub returns-in-Err : goal.returns-in-Err
returns-in-Err c =
    stopped part_seen (field_of (symbols_seen c.args.symbols.now) c.args.at) c.args.parts.now
    _ _ _ _ _ c.loop-part-test.true c.in-Err.ensures c.loop-part.invariant

pub returns : goal.returns
returns c =
    all_done part_seen (field_of (symbols_seen c.args.symbols.now) c.args.at) c.args.parts.now
    _ _ _ (omega (arith, c.loop-part-test.false)) c.loop-part.invariant
