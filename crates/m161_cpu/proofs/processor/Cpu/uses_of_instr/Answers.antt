use Rattle.std.proofs.Common.{rules}
use Rattle.m161_cpu.specs.Scene.{scene_of}
use Rattle.m161_cpu.proofs.Used.{load_uses, other_uses}
use Rattle.m161_cpu.proofs.processor.Cpu.uses_of_instr.Goals as goal

pub returns-in-Load : goal.returns-in-Load
returns-in-Load g c = λ b strict.
    rw c.in-Load.is (load_uses (scene_of c.args.self.now c.args.c c.args.ram.now b c.args.links.now strict) c.args.fetch c.in-Load.op c.in-Load.rt c.in-Load.offset c.in-Load.base c.via.result (search rules))

pub returns-in_default : goal.returns-in_default
returns-in_default g c = λ b strict.
    other_uses (scene_of c.args.self.now c.args.c c.args.ram.now b c.args.links.now strict) c.args.fetch c.args.instr.now c.in_default.not-Load c.in_default.not-Store
