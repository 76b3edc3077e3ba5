use Rattle.std.proofs.Common.{◌≡◌, Bool, true, false, Ok, rules, subst}
use Rattle.std.proofs.lemmas.Result.{err_from_is_err_and}
use Rattle.s161_debug.specs.helpers.Sessions.{Turns, place}
use Rattle.s161_debug.proofs.Passing.{begins, exhausted, failed, stopped, turned}
use Rattle.s161_debug.proofs.serving.serve.Goals as goal

pub loop-line-init : goal.loop-line-init
loop-line-init g c =
    begins c.args.session c.args.left (g.I.Read.remaining c.args.input.now) (g.O.Write.contents c.args.output.now) (g.E.Write.contents c.args.errors.now)

pub loop-line-preserved : goal.loop-line-preserved
loop-line-preserved g c =
    let input = g.I.Read.remaining c.loop-line.input in
    let left = g.I.Read.remaining c.serve_line.new.input in
    let p = place c.loop-line.session c.loop-line.left (g.O.Write.contents c.loop-line.output) (g.E.Write.contents c.loop-line.errors) in
    let q = place c.serve_line.new.session c.serve_line.new.left (g.O.Write.contents c.serve_line.new.output) (g.E.Write.contents c.serve_line.new.errors) in
    let more : c.in_ok-goes_on.goes_on ≡ true = search rules in
    let P : Bool → Type 0 = λ b. Turns input p (Ok b) left q in
    turned c.args.session c.args.left (g.I.Read.remaining c.args.input.now) (g.O.Write.contents c.args.output.now) (g.E.Write.contents c.args.errors.now) input p
    c.loop-line.invariant left q (subst P more c.in_ok-goes_on.ensures)

pub returns-then-not-goes_on-clause-ok : goal.returns-then-not-goes_on-clause-ok
returns-then-not-goes_on-clause-ok g c =
    let input = g.I.Read.remaining c.loop-line.input in
    let left = g.I.Read.remaining c.serve_line.new.input in
    let p = place c.loop-line.session c.loop-line.left (g.O.Write.contents c.loop-line.output) (g.E.Write.contents c.loop-line.errors) in
    let q = place c.serve_line.new.session c.serve_line.new.left (g.O.Write.contents c.serve_line.new.output) (g.E.Write.contents c.serve_line.new.errors) in
    let none : c.in_ok-goes_on.goes_on ≡ false = search rules in
    let P : Bool → Type 0 = λ b. Turns input p (Ok b) left q in
    stopped c.args.session c.args.left (g.I.Read.remaining c.args.input.now) (g.O.Write.contents c.args.output.now) (g.E.Write.contents c.args.errors.now) input p
    c.loop-line.invariant left q (subst P none c.in_ok-goes_on.ensures)

pub returns-in_err-goes_on-clause-err : goal.returns-in_err-goes_on-clause-err
returns-in_err-goes_on-clause-err g c =
    let input = g.I.Read.remaining c.loop-line.input in
    let left = g.I.Read.remaining c.serve_line.new.input in
    let p = place c.loop-line.session c.loop-line.left (g.O.Write.contents c.loop-line.output) (g.E.Write.contents c.loop-line.errors) in
    let q = place c.serve_line.new.session c.serve_line.new.left (g.O.Write.contents c.serve_line.new.output) (g.E.Write.contents c.serve_line.new.errors) in
    let made = err_from_is_err_and c.from_residual.result c.from_residual.ensures.1 in
    rw (made.1, made.2)
    (failed c.args.session c.args.left (g.I.Read.remaining c.args.input.now) (g.O.Write.contents c.args.output.now) (g.E.Write.contents c.args.errors.now) input p
    c.loop-line.invariant left q c.in_err-goes_on.field-0.0 c.in_err-goes_on.ensures)

pub returns-clause-err : goal.returns-clause-err
returns-clause-err g c =
    exhausted c.args.session c.args.left (g.I.Read.remaining c.args.input.now) (g.O.Write.contents c.args.output.now) (g.E.Write.contents c.args.errors.now) (g.I.Read.remaining c.loop-line.input)
    (place c.loop-line.session c.loop-line.left (g.O.Write.contents c.loop-line.output) (g.E.Write.contents c.loop-line.errors)) c.loop-line.invariant
