use Rattle.std.proofs.Common.{◌≡◌, ◌∙◌, Bool, true, false, Ok, Err, rules, subst}
use Rattle.std.proofs.lemmas.Result.{err_from_is_err_and}
use Rattle.m161_moves.specs.Course.{Course}
use Rattle.m161_server.specs.helpers.Turns.{Serves}
use Rattle.m161_server.proofs.Passing.{next}
use Rattle.m161_server.proofs.serving.serve.Goals as goal

pub loop-byte-preserved : goal.loop-byte-preserved
loop-byte-preserved g c =
    let here = g.T.Run.course c.loop-byte.target in
    let place = g.T.Run.place c.args.target.now in
    let input = g.I.Read.remaining c.args.input.now in
    let output = g.O.Write.contents c.args.output.now in
    let to = g.T.Run.place c.turn.new.target in
    let l = g.I.Read.remaining c.turn.new.input in
    let w = g.O.Write.contents c.turn.new.output in
    let more : c.in_ok-turn.field-0 ≡ true = search rules in
    record {
      same = c.in_ok-turn.ensures.course ∙ c.loop-byte.invariant.same;
      serving = next (λ (k : Course). g.T.Run.fails k) here (g.T.Run.course c.args.target.now) place input output
          (g.T.Run.place c.loop-byte.target) c.loop-byte.talk (g.I.Read.remaining c.loop-byte.input) (g.O.Write.contents c.loop-byte.output)
          to c.turn.new.talk l w (Ok true) c.loop-byte.invariant.same
          (λ s. subst (λ (b : Bool). Serves (g.T.Run.fails here) here place input output to c.turn.new.talk l w (Ok b)) more
          (c.in_ok-turn.ensures.serves place input output s))
          c.loop-byte.invariant.serving;
    }

pub returns-then-not-branch-clause-ok : goal.returns-then-not-branch-clause-ok
returns-then-not-branch-clause-ok g c =
    let here = g.T.Run.course c.loop-byte.target in
    let place = g.T.Run.place c.args.target.now in
    let input = g.I.Read.remaining c.args.input.now in
    let output = g.O.Write.contents c.args.output.now in
    let to = g.T.Run.place c.turn.new.target in
    let l = g.I.Read.remaining c.turn.new.input in
    let w = g.O.Write.contents c.turn.new.output in
    let more : c.in_ok-turn.field-0 ≡ false = search rules in
    next (λ (k : Course). g.T.Run.fails k) here (g.T.Run.course c.args.target.now) place input output
    (g.T.Run.place c.loop-byte.target) c.loop-byte.talk (g.I.Read.remaining c.loop-byte.input) (g.O.Write.contents c.loop-byte.output)
    to c.turn.new.talk l w (Ok false) c.loop-byte.invariant.same
    (λ s. subst (λ (b : Bool). Serves (g.T.Run.fails here) here place input output to c.turn.new.talk l w (Ok b)) more
    (c.in_ok-turn.ensures.serves place input output s))
    c.loop-byte.invariant.serving

pub returns-in_err-turn-clause-err : goal.returns-in_err-turn-clause-err
returns-in_err-turn-clause-err g c =
    let here = g.T.Run.course c.loop-byte.target in
    let place = g.T.Run.place c.args.target.now in
    let input = g.I.Read.remaining c.args.input.now in
    let output = g.O.Write.contents c.args.output.now in
    let to = g.T.Run.place c.turn.new.target in
    let l = g.I.Read.remaining c.turn.new.input in
    let w = g.O.Write.contents c.turn.new.output in
    let made = err_from_is_err_and c.from_residual.result c.from_residual.ensures.1 in
    rw (made.1, made.2)
    (next (λ (k : Course). g.T.Run.fails k) here (g.T.Run.course c.args.target.now) place input output
    (g.T.Run.place c.loop-byte.target) c.loop-byte.talk (g.I.Read.remaining c.loop-byte.input) (g.O.Write.contents c.loop-byte.output)
    to c.turn.new.talk l w (Err c.in_err-turn.field-0.0) c.loop-byte.invariant.same
    (λ s. c.in_err-turn.ensures.serves place input output s)
    c.loop-byte.invariant.serving)
