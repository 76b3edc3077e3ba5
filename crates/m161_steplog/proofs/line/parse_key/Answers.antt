use Rattle.m161_steplog.proofs.LogLines.{not_taken, taken}
use Rattle.m161_steplog.proofs.line.parse_key.Goals as goal

pub returns-in-taken : goal.returns-in-taken
returns-in-taken c = taken _ _ c.args.text.now c.parse_byte.result c.in_ok-byte.ensures c.in-taken.is c.parse_byte.ensures

pub returns-in_default : goal.returns-in_default
returns-in_default c = not_taken _ _ c.args.text.now c.in_ok-byte.ensures c.in_default.not-taken
