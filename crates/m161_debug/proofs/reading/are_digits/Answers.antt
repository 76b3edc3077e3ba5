use Rattle.std.proofs.Common.{arith}
use Rattle.m161_debug.proofs.Numerals.{digit_in, digits_more}
use Rattle.m161_debug.proofs.reading.are_digits.Goals as goal
use Rattle.m161_debug.proofs.reading.are_digits.Goals.{then-byte-lt48-via-then-byte-lt48, then-byte-lt48-via-else-byte-lt48+then-byte-gt57}

pub returns-then-byte-lt48-clause-no : goal.returns-then-byte-lt48-clause-no
returns-then-byte-lt48-clause-no c = λ _ all.
    let digit = digit_in c.args.bytes.now c.loop-byte.byte-index all (omega arith) in
    elim c.then-byte-lt48.branch [
      | then-byte-lt48-via-then-byte-lt48 w ↦ omega (arith, digit.0)
      | then-byte-lt48-via-else-byte-lt48+then-byte-gt57 w ↦ omega (arith, digit.1)
    ]

pub loop-byte-preserved : goal.loop-byte-preserved
loop-byte-preserved c = digits_more c.args.bytes.now c.loop-byte.byte-index (omega arith) c.loop-byte.invariant (omega arith) (omega arith)
