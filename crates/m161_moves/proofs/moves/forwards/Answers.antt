use Rattle.std.proofs.Common.{◌∙◌, ◌<◌, ◌≤◌, refl, sym, subst, ap, arith}
use Rattle.m161_moves.specs.Course.{Course}
use Rattle.m161_moves.specs.helpers.Looking.{StandsFor}
use Rattle.m161_moves.specs.helpers.Places.{behind_of}
use Rattle.m161_moves.proofs.Ahead.{NoneBefore, at_start, further, goes_on, interrupted, none_yet, one_more}
use Rattle.m161_moves.proofs.moves.forwards.Goals as goal

pub returns-then-is_interrupted-clause-ok : goal.returns-then-is_interrupted-clause-ok
returns-then-is_interrupted-clause-ok g c =
    interrupted (g.R.Run.course c.args.run.now) c.args.stops.now c.args.chosen.now (g.R.Run.place c.args.run.now) (sym c.is_interrupted.ensures ∙ c.if-is_interrupted.true)

pub loop-found-init : goal.loop-found-init
loop-found-init g c =
    let course = g.R.Run.course c.args.run.now in
    let from = g.R.Run.place c.args.run.now in
    record {
      same = refl;
      more = omega arith;
      stands = λ none. c.ahead-found.ensures.step;
      found = c.ahead-found.ensures.reason ∙ at_start course c.args.stops.now c.args.chosen.now from (sym c.is_interrupted.ensures ∙ c.if-is_interrupted.false);
      before = none_yet course c.args.stops.now c.args.chosen.now from;
    }

pub go_on-requires : goal.go_on-requires
go_on-requires g c =
    let run = c.loop-found.run in
    let course = g.R.Run.course c.args.run.now in
    let place = g.R.Run.place run in
    let within : place < course.end = goes_on course c.args.stops.now c.args.chosen.now (g.R.Run.place c.args.run.now) place (sym c.is_interrupted.ensures ∙ c.if-is_interrupted.false)
    (subst (λ (k : Course). place ≤ k.end) c.loop-found.invariant.same (g.met.R.Run.within run)) (sym c.loop-found.invariant.found ∙ c.in_default.is) in
    record {
      within = subst (λ (k : Course). place < k.end) (sym c.loop-found.invariant.same) within;
      looks = c.stop_at_steps-looks.ensures;
      step = subst (λ (k : Course). StandsFor c.args.stops.now c.args.chosen.now (k.step place) c.loop-found.found.step) (sym c.loop-found.invariant.same)
          (c.loop-found.invariant.stands c.in_default.is within);
    }

pub loop-found-preserved : goal.loop-found-preserved
loop-found-preserved g c =
    let stops = c.args.stops.now in
    let chosen = c.args.chosen.now in
    let course = g.R.Run.course c.args.run.now in
    let from = g.R.Run.place c.args.run.now in
    let old = g.R.Run.place c.loop-found.run in
    let new = g.R.Run.place c.go_on.new.run in
    let no_flag = sym c.is_interrupted.ensures ∙ c.if-is_interrupted.false in
    let same = c.go_on.ensures.course ∙ c.loop-found.invariant.same in
    let more = c.loop-found.invariant.more in
    let one = c.in_ok-found.ensures.ok.0 in
    record {
      same = same;
      more = omega (arith, more, one);
      stands = λ none below. subst (λ (k : Course). StandsFor stops chosen (k.step new) c.in_ok-found.found.step) same
          (c.in_ok-found.ensures.step none (subst (λ (k : Course). new < k.end) (sym same) below));
      found = c.in_ok-found.ensures.ok.1 ∙ ap (λ k. behind_of k stops chosen new) same ∙ further course stops chosen from new no_flag (omega (arith, more, one));
      before = subst (NoneBefore course stops chosen from) (sym one)
          (one_more course stops chosen from old c.loop-found.invariant.before (sym c.loop-found.invariant.found ∙ c.in_default.is));
    }
