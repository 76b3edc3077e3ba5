use Rattle.std.proofs.Common.{◌∙◌, rules}
use Rattle.m161_cpu.specs.Scene.{scene_of}
use Rattle.m161_cpu.proofs.Used.{plain_uses, word_uses}
use Rattle.m161_cpu.proofs.processor.Cpu.uses_of_word.Goals as goal

pub returns-then-word-lt32 : goal.returns-then-word-lt32
returns-then-word-lt32 g c = λ b strict.
    plain_uses (scene_of c.args.self.now c.args.c c.args.ram.now b c.args.links.now strict) c.args.fetch c.args.word (search rules)

pub returns : goal.returns
returns g c = λ b strict.
    c.uses_of_instr.ensures b strict
    ∙ word_uses (scene_of c.args.self.now c.args.c c.args.ram.now b c.args.links.now strict) c.args.fetch c.args.word c.decode.result c.decode.ensures.row c.decode.ensures.operands c.decode.ensures.value
