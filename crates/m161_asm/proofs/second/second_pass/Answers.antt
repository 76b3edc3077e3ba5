use Rattle.std.specs.Prelude.{take}
use Rattle.std.proofs.Common.{refl, arith}
use Rattle.m161_asm.specs.Seen.{symbols_seen}
use Rattle.m161_asm.specs.helpers.Seen.{above_of, line_seen}
use Rattle.m161_asm.proofs.Prefixes.{filled_all, filled_here, lawful_here, told_here}
use Rattle.m161_asm.proofs.second.second_pass.Goals as goal

pub fill-requires-clause-room : goal.fill-requires-clause-room
fill-requires-clause-room c =
    rw c.loop-i.invariant.address
    (lawful_here c.args.lines.now c.index-lines-i.result c.loop-i.i c.index-lines-i.is
    c.loop-i-test.true c.requires).0.within

pub fill-requires-clause-lawful : goal.fill-requires-clause-lawful
fill-requires-clause-lawful c =
    (lawful_here c.args.lines.now c.index-lines-i.result c.loop-i.i c.index-lines-i.is
    c.loop-i-test.true c.requires).0.statement

pub returns-in-Err-clause-value : goal.returns-in-Err-clause-value
returns-in-Err-clause-value c =
    let x = c.index-lines-i.result in
    told_here c.at_line.result c.in-Err.error
    (symbols_seen c.args.symbols.now) c.args.lines.now x c.loop-i.i c.fill.new.self
    c.index-lines-i.is c.at_line.ensures.told c.loop-i-test.true
    (c.in-Err.ensures (above_of (take c.loop-i.i c.args.lines.now))
    (line_seen x) refl c.loop-i.invariant)

pub loop-i-preserved : goal.loop-i-preserved
loop-i-preserved c =
    let x = c.index-lines-i.result in
    filled_here c.fill.new.self (symbols_seen c.args.symbols.now) c.args.lines.now x c.loop-i.i
    c.index-lines-i.is c.loop-i-test.true
    (c.in_default.ensures (above_of (take c.loop-i.i c.args.lines.now)) (line_seen x) refl
    c.loop-i.invariant)

pub returns-clause-value : goal.returns-clause-value
returns-clause-value c =
    filled_all _ (symbols_seen c.args.symbols.now) c.args.lines.now _
    (omega (arith, c.loop-i-test.false)) c.loop-i.invariant
