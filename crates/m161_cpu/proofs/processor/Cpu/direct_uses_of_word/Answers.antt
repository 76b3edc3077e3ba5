use Rattle.std.proofs.Common.{rules}
use Rattle.std.specs.Prelude.{None}
use Rattle.m161_cpu.specs.Scene.{scene_of}
use Rattle.m161_cpu.proofs.Used.{direct_by_instr, plain_uses}
use Rattle.m161_cpu.proofs.processor.Cpu.direct_uses_of_word.Goals as goal

pub returns-then-word-lt32 : goal.returns-then-word-lt32
returns-then-word-lt32 g c = λ b strict.
    plain_uses (scene_of c.args.self.now c.args.c c.args.ram.now b c.args.links.now strict) None c.args.word (search rules)

pub returns : goal.returns
returns g c = λ b strict.
    direct_by_instr (scene_of c.args.self.now c.args.c c.args.ram.now b c.args.links.now strict) c.args.word c.decode_in_uses.result c.direct_uses_of_instr.result
    c.decode_in_uses.ensures.row c.decode_in_uses.ensures.operands c.decode_in_uses.ensures.value (c.direct_uses_of_instr.ensures b strict)
