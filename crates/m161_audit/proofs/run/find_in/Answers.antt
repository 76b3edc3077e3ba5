use Rattle.m161_audit.proofs.Parts.{finds_in, passes_none}
use Rattle.m161_audit.proofs.run.find_in.Goals as goal

pub returns : goal.returns
returns g c = λ watches s at.
    finds_in watches s c.args.events.now c.find_from.result c.find_from.new.core.state c.find_from.new.shootdowns
    (c.find_from.ensures.found watches s (passes_none watches s c.args.core.now.state c.args.shootdowns.now at))
