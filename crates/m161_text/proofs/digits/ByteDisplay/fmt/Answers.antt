use Rattle.std.proofs.Common.{arith}
use Rattle.m161_text.proofs.Hex.{byte_shown}
use Rattle.m161_text.proofs.digits.ByteDisplay.fmt.Goals as goal

pub returns-clause-writes : goal.returns-clause-writes
returns-clause-writes g c = λ plain ok.
    let shown = byte_shown c.in_radix.result c.laid_out.result c.args.self.now.0 (omega arith) c.laid_out.ensures c.in_radix.ensures in
    let h = rw shown at c.write.ensures.writes in
    h plain ok
