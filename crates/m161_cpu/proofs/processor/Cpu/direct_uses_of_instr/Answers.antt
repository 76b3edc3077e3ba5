use Rattle.std.proofs.Common.{rules}
use Rattle.std.specs.Prelude.{None}
use Rattle.m161_cpu.specs.Scene.{scene_of}
use Rattle.m161_cpu.proofs.Used.{direct_load, other_uses}
use Rattle.m161_cpu.proofs.processor.Cpu.direct_uses_of_instr.Goals as goal

pub returns-in-Some : goal.returns-in-Some
returns-in-Some g c = λ b strict.
    rw c.in-Load.is (direct_load (scene_of c.args.self.now c.args.c c.args.ram.now b c.args.links.now strict) c.in-Load.op c.in-Load.rt c.in-Load.offset c.in-Load.base c.in-Some.field-0 (search rules))

pub returns-in_default : goal.returns-in_default
returns-in_default g c = λ b strict.
    other_uses (scene_of c.args.self.now c.args.c c.args.ram.now b c.args.links.now strict) None c.args.instr.now c.in_default.not-Load c.in_default.not-Store
