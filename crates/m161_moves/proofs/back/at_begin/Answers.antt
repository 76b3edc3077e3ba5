use Rattle.std.proofs.Common.{◌≡◌, ◌∙◌, sym, subst}
use Rattle.std.specs.Prelude.{None, Some}
use Rattle.m161_moves.specs.helpers.Places.{return_of}
use Rattle.m161_moves.proofs.Returning.{begins_behind, begins_here, returns}
use Rattle.m161_moves.proofs.back.at_begin.Goals as goal

pub returns-in-Some : goal.returns-in-Some
returns-in-Some g c =
    let course = g.R.Run.course c.args.run.now in
    returns course c.args.stops.now c.args.chosen.now c.args.from 0 c.in-Some.reason c.requires.interrupted c.if-from-gt0.true
    (subst (λ n. return_of course c.args.stops.now c.args.chosen.now n ≡ Some c.in-Some.reason) c.requires.begin (sym c.at_return.ensures ∙ c.in-Some.is))

pub returns-in_default : goal.returns-in_default
returns-in_default g c =
    let course = g.R.Run.course c.args.run.now in
    begins_behind course c.args.stops.now c.args.chosen.now c.args.from c.requires.interrupted c.if-from-gt0.true
    (subst (λ n. return_of course c.args.stops.now c.args.chosen.now n ≡ None) c.requires.begin (sym c.at_return.ensures ∙ c.in_default.is))

pub returns-else-from-gt0 : goal.returns-else-from-gt0
returns-else-from-gt0 g c =
    begins_here (g.R.Run.course c.args.run.now) c.args.stops.now c.args.chosen.now c.args.from c.requires.interrupted c.if-from-gt0.false
