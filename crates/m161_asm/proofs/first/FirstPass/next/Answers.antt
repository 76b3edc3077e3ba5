use Rattle.std.specs.Prelude.{Ok, []}
use Rattle.std.proofs.Common.{arith}
use Rattle.m161_asm.specs.helpers.Seen.{above_of}
use Rattle.m161_asm.proofs.Above.{told, gone, took, above_len}
use Rattle.m161_asm.proofs.first.FirstPass.next.Goals as goal

pub returns-in-Err-clause-value : goal.returns-in-Err-clause-value
returns-in-Err-clause-value c = λ below.
    told c.at_line.result c.in-Err.error
    (above_of c.args.self.now.lines.items) _ c.args.line.now below (Ok []) c.at_line.ensures.told
    (omega (arith, above_len c.args.self.now.lines.items, c.args.self.now.lines.ok))
    c.in-Err.ensures.value

pub returns-in-Ok-take-clause-value : goal.returns-in-Ok-take-clause-value
returns-in-Ok-take-clause-value c = λ below.
    gone (above_of c.args.self.now.lines.items) _ c.args.line.now below _ c.in-Ok.ensures.value
    (took _ _ _ c.in-Ok-take.ensures.lines)
