use Rattle.std.proofs.Common.{◌≡◌, length, arith}
use Rattle.m161_text.proofs.digits.parse_page.Goals as goal

pub returns : goal.returns
returns c =
    let long : length c.args.text.now ≡ 5 = omega arith in
    let bytes = c.as_bytes.ensures.value in
    rw (bytes, long) at c.parse_hex.ensures
