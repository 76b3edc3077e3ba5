use Rattle.m161_decode.proofs.Meant.{meant, meant_row, meant_numbers}
use Rattle.m161_decode.proofs.decoding.decode_in_uses.Goals as goal

pub returns-clause-row : goal.returns-clause-row
returns-clause-row c = meant_row c.args.word c.by_opcode.result c.by_opcode.ensures

pub returns-clause-operands : goal.returns-clause-operands
returns-clause-operands c = meant_numbers c.args.word c.by_opcode.result c.by_opcode.ensures

pub returns-clause-value : goal.returns-clause-value
returns-clause-value c = meant c.args.word c.by_opcode.result c.by_opcode.ensures
