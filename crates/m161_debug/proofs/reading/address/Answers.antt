use Rattle.std.proofs.Common.{◌≡◌, false, rules, true}
use Rattle.m161_debug.proofs.Parts.{address_read, no_address}
use Rattle.m161_debug.proofs.reading.address.Goals as goal

pub returns-then-is_short : goal.returns-then-is_short
returns-then-is_short c =
    let bytes = c.as_bytes.ensures.value in
    let short : c.is_short.result ≡ true = search rules in
    let long = c.is_short.ensures.yes short in
    address_read c.args.text.now c.digits_of-digits.result.now c.parse_hex.result c.digits_of-digits.ensures long.0 long.1 (rw bytes at c.parse_hex.ensures)

pub returns-else-is_short : goal.returns-else-is_short
returns-else-is_short c =
    let short : c.is_short.result ≡ false = search rules in
    no_address c.args.text.now c.digits_of-digits.result.now c.digits_of-digits.ensures (c.is_short.ensures.no short)
