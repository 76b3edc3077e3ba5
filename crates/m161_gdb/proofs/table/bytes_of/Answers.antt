use Rattle.std.proofs.Common.{sym}
use Rattle.m161_gdb.specs.Packets.{bytes_of}
use Rattle.m161_gdb.proofs.Cutting.{bytes_more}
use Rattle.m161_gdb.proofs.table.bytes_of.Goals as goal

pub loop-rest-preserved : goal.loop-rest-preserved
loop-rest-preserved c =
    bytes_more c.loop-rest.rest.now c.loop-rest.line c.push.new.self c.in-Some.byte (bytes_of c.args.digits.now)
    c.in-len2-up.len_at_least (sym c.in-Some.ensures) c.in_ok-push.ensures c.loop-rest.invariant
