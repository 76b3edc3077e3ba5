use Rattle.std.proofs.Common.{arith, subst}
use Rattle.m161_states.specs.System.{event_of}
use Rattle.m161_reach.specs.helpers.Advance.{TakesNext}
use Rattle.m161_reach.proofs.Walking.{took}
use Rattle.m161_reach.proofs.walk.go.Goals as goal

pub returns-in-Some : goal.returns-in-Some
returns-in-Some g c =
    let q = c.args.machines.now in
    let x = c.args.place.now in
    let n = c.args.event in
    let t = c.take_event.new.place in
    let to = took q x n t c.in-Some._outcome (subst (TakesNext q.goal x (event_of q x n) t) c.in-Some.is c.in_ok-_outcome.ensures) in
    (to.0, omega (arith, c.width.ensures), to.1, to.2)
