use Rattle.std.proofs.Common.{rules}
use Rattle.std.specs.Prelude.{None}
use Rattle.m161_cpu.specs.Scene.{scene_of}
use Rattle.m161_cpu.proofs.Used.{store_direct}
use Rattle.m161_cpu.proofs.processor.Cpu.direct_uses_of_store.Goals as goal

pub returns-in-Some : goal.returns-in-Some
returns-in-Some g c = λ b strict rt offset base is.
    store_direct (scene_of c.args.self.now c.args.c c.args.ram.now b c.args.links.now strict) None c.args.op rt offset base c.args.address c.in-Some.at c.place_of_store.result is c.in-Some.ensures.value c.in-Some.ensures.segment (search rules)
