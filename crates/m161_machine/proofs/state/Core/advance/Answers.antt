use Rattle.m161_machine.proofs.Advancing.{advances_planned}
use Rattle.m161_machine.proofs.state.Core.advance.Goals as goal

pub returns-clause-advances : goal.returns-clause-advances
returns-clause-advances g c =
    advances_planned c.args.p c.args.self.now.state c.make_planned.new.self.state c.args.kept.now c.plan_all.new.places c.make_planned.new.kept c.make_planned.result
    c.plan_all.ensures c.make_planned.ensures.within c.make_planned.ensures.length c.make_planned.ensures.leads c.make_planned.ensures.events
