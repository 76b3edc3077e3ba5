use Rattle.std.proofs.Common.{subst, take}
use Rattle.m161_machine.specs.History.{Continues, History, events_of}
use Rattle.m161_debug.proofs.session.booted_again.Goals as goal

pub returns : goal.returns
returns g c =
    let events = take c.args.number (events_of c.args.past.now.log) in
    subst (λ (m : History). Continues m events c.repeat.new.again) c.in_ok-machine.ensures
    c.in_ok-repeat.ensures
