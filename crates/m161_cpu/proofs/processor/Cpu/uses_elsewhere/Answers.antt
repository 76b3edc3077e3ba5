use Rattle.m161_cpu.specs.Scene.{scene_of}
use Rattle.m161_cpu.proofs.Used.{fetched_by, not_fetched_by}
use Rattle.m161_cpu.proofs.processor.Cpu.uses_elsewhere.Goals as goal

pub returns-in-Some : goal.returns-in-Some
returns-in-Some g c = λ b strict.
    fetched_by (scene_of c.args.self.now c.args.c c.args.ram.now b c.args.links.now strict) c.fetched-fetch.result c.in-Some.word c.uses_of_word.result c.fetched-fetch.ensures c.in-Some.is (c.uses_of_word.ensures b strict)

pub returns-in-None : goal.returns-in-None
returns-in-None g c = λ b strict.
    not_fetched_by (scene_of c.args.self.now c.args.c c.args.ram.now b c.args.links.now strict) c.fetched-fetch.result c.fetched-fetch.ensures c.in-None.is
