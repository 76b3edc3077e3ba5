use Rattle.std.proofs.Common.{rules, ◌≡◌}
use Rattle.m161_steplog.proofs.Codes.{code_read}
use Rattle.m161_steplog.proofs.line.parse_code.Goals as goal

pub returns : goal.returns
returns c =
    let same : c.in_ok-code.code ≡ c.in_ok-parse_decimal.field-0 = search rules in
    code_read c.args.text.now c.in_ok-code.code c.from_number.result (rw same c.in_ok-parse_decimal.ensures) c.from_number.ensures.value c.from_number.ensures.back
