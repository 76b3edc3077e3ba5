use Rattle.std.proofs.Common.{◌∙◌, sym, rules}
use Rattle.m161_cpu.specs.declared.fault.Access.TheVariants.{Store}
use Rattle.m161_cpu.specs.Scene.{scene_of}
use Rattle.m161_cpu.proofs.Used.{store_located, store_not_located, via_some}
use Rattle.m161_cpu.proofs.processor.Cpu.uses_of_store.Goals as goal

pub returns-in_default : goal.returns-in_default
returns-in_default g c = λ b strict rt offset base is.
    store_not_located (scene_of c.args.self.now c.args.c c.args.ram.now b c.args.links.now strict) c.args.fetch c.args.op rt offset base c.args.address c.store_width.result _ is c.store_width.ensures.value (sym c.in_default.ensures)

pub returns : goal.returns
returns g c = λ b strict rt offset base is.
    store_located (scene_of c.args.self.now c.args.c c.args.ram.now b c.args.links.now strict) c.args.fetch c.args.op rt offset base c.args.address c.store_width.result c.in-Ok.to c.via_row.result c.place_of_store.result is c.store_width.ensures.value (sym c.in-Ok.ensures)
    (c.via_row.ensures ∙ via_some Store c.store_width.result c.args.address c.args.self.now c.in-Ok.to (sym c.in-Ok.ensures)) (search rules)
