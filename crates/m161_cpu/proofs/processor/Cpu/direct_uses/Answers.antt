use Rattle.std.proofs.Common.{rules}
use Rattle.m161_cpu.specs.Scene.{scene_of}
use Rattle.m161_cpu.specs.declared.fault.Access.TheVariants.{Fetch}
use Rattle.m161_cpu.proofs.Used.{direct_by_word, direct_fetched}
use Rattle.m161_cpu.proofs.processor.Cpu.direct_uses.Goals as goal

pub returns-in-Some : goal.returns-in-Some
returns-in-Some g c = λ b strict.
    direct_by_word (scene_of c.args.self.now c.args.c c.args.ram.now b c.args.links.now strict) c.word.result c.direct_uses_of_word.result
    (direct_fetched c.args.ram.now c.args.self.now c.pc.result c.in-Some.at c.word.result c.pc.ensures (c.in-Some.ensures.value Fetch) c.in-Some.ensures.segment (search rules) c.in-Some.ensures.kernel c.word.ensures)
    (c.direct_uses_of_word.ensures b strict)
