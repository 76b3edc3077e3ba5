use Rattle.m161_audit.proofs.Made.{input_passes}
use Rattle.m161_audit.proofs.run.make_input.Goals as goal

pub returns-in-Ok : goal.returns-in-Ok
returns-in-Ok g c = λ watches s items at.
    input_passes watches s c.args.core.now.state c.event.new.self.state items c.args.event c.in-Ok.field-0 c.requires at c.in-Ok.ensures.makes
