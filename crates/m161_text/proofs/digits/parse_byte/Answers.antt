use Rattle.std.proofs.Common.{◌≡◌, length, arith}
use Rattle.m161_text.proofs.digits.parse_byte.Goals as goal

pub returns-in_err-parse_hex : goal.returns-in_err-parse_hex
returns-in_err-parse_hex c =
    let long : length c.args.text.now ≡ 2 = omega arith in
    let bytes = c.as_bytes.ensures.value in
    let none = rw (bytes, long) at c.in_err-parse_hex.ensures in
    rw c.from_residual.ensures none
