use Rattle.std.proofs.Common.{◌∙◌, ◌<◌, ◌≤◌, sym, arith}
use Rattle.m161_moves.proofs.Returning.{returns, touches_behind, touches_here}
use Rattle.m161_moves.proofs.back.reason_at.Goals as goal

pub returns-then-from-place : goal.returns-then-from-place
returns-then-from-place g c =
    let place = g.R.Run.place c.args.run.now in
    let more : c.args.from ≤ place = omega arith in
    c.touch_of.ensures ∙ c.requires.behind.touches
    ∙ touches_here (g.R.Run.course c.args.run.now) c.args.stops.now c.args.chosen.now c.args.from place c.requires.interrupted c.requires.some more

pub returns-in-Some : goal.returns-in-Some
returns-in-Some g c =
    let place = g.R.Run.place c.args.run.now in
    let less : place < c.args.from = omega arith in
    sym (returns (g.R.Run.course c.args.run.now) c.args.stops.now c.args.chosen.now c.args.from place c.in-Some.reason c.requires.interrupted less
    (sym c.at_return.ensures ∙ c.in-Some.is))

pub returns-in-None : goal.returns-in-None
returns-in-None g c =
    let place = g.R.Run.place c.args.run.now in
    let less : place < c.args.from = omega arith in
    c.touch_of-in-None.ensures ∙ c.requires.behind.touches
    ∙ touches_behind (g.R.Run.course c.args.run.now) c.args.stops.now c.args.chosen.now c.args.from place c.requires.interrupted c.requires.some less
    (sym c.at_return.ensures ∙ c.in-None.is)
