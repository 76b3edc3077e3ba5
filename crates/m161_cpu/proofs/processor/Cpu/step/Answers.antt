use Rattle.m161_cpu.specs.Scene.{scene_of}
use Rattle.m161_cpu.proofs.Apart.{leaves_apart}
use Rattle.m161_cpu.proofs.Units.{leaves_unit}
use Rattle.m161_cpu.proofs.processor.Cpu.step.Goals as goal

pub returns-clause-apart : goal.returns-clause-apart
returns-clause-apart g c = λ strict apart.
    leaves_apart (scene_of c.args.self.now c.args.c c.args.ram.now c.args.board.now.state c.args.links.now c.args.strict)
    (scene_of c.rest_or_run.new.self c.args.c c.rest_or_run.new.ram c.rest_or_run.new.board.state c.rest_or_run.new.links c.args.strict) c.rest_or_run.result c.rest_or_run.ensures.step strict apart

pub returns-clause-unit : goal.returns-clause-unit
returns-clause-unit g c =
    leaves_unit (scene_of c.args.self.now c.args.c c.args.ram.now c.args.board.now.state c.args.links.now c.args.strict)
    (scene_of c.rest_or_run.new.self c.args.c c.rest_or_run.new.ram c.rest_or_run.new.board.state c.rest_or_run.new.links c.args.strict) c.rest_or_run.result c.rest_or_run.ensures.step
