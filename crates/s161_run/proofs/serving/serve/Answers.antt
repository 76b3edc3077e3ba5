use Rattle.std.proofs.Common.{◌≡◌, ◌∙◌, ap, subst, sym, arith, [], None, Some, Ok, Err}
use Rattle.std.proofs.lemmas.Result.{err_from_is_err_and}
use Rattle.m161_drive.specs.declared.run.Stop.{Stop}
use Rattle.m161_drive.specs.Choice.{cursor_at}
use Rattle.m161_drive.specs.Policy.{Rules}
use Rattle.s161_run.specs.Driven.{rules_of}
use Rattle.s161_base.specs.Streams.{streams}
use Rattle.s161_run.specs.Consoles.{Serves}
use Rattle.s161_run.specs.helpers.Consoles.{Goes, place}
use Rattle.s161_run.proofs.Running.{at_last, begins, failed, stopped, turned}
use Rattle.s161_run.proofs.serving.serve.Goals as goal

pub loop-made-init : goal.loop-made-init
loop-made-init g c =
    let options = c.args.options in
    let policy_is : c.in-Ok.policy ≡ rules_of options [] = c.in-Ok.ensures.1 in
    begins options c.args.core.now.state (g.I.Read.remaining c.args.input.now) (g.O.Write.contents c.args.output.now) c.new-cursor.result
    c.requires.silent
    (c.new-cursor.ensures ∙ ap (λ (rules : Rules). cursor_at rules c.args.core.now.state) policy_is)

pub serve_once-requires-clause-end : goal.serve_once-requires-clause-end
serve_once-requires-clause-end g c = c.loop-made.invariant.at_end

pub serve_once-requires-clause-few : goal.serve_once-requires-clause-few
serve_once-requires-clause-few g c =
    let typed = c.loop-made.invariant.are_typed in
    let few = c.loop-made.invariant.few in
    let less = c.loop-made-test.true in
    omega (arith, typed, few, less)

pub loop-made-preserved : goal.loop-made-preserved
loop-made-preserved g c =
    let policy_is : c.in-Ok.policy ≡ rules_of c.args.options [] = c.in-Ok.ensures.1 in
    let p = place c.loop-made.cursor c.loop-made.core.state c.loop-made.ended (g.I.Read.remaining c.loop-made.input) (g.O.Write.contents c.loop-made.output) in
    let q = place c.serve_once.new.cursor c.serve_once.new.core.state c.serve_once.new.ended (g.I.Read.remaining c.serve_once.new.input) (g.O.Write.contents c.serve_once.new.output) in
    let goes = subst (λ stop. Goes c.in-Ok.policy p (Ok stop) q) c.in_default-stop.is c.in_ok-stop.ensures in
    turned c.args.options c.args.core.now.state (g.I.Read.remaining c.args.input.now) (g.O.Write.contents c.args.output.now) c.loop-made.made p
    c.loop-made.invariant q c.loop-made-test.true (subst (λ rules. Goes rules p (Ok None) q) policy_is goes)

pub returns-in-Some-clause-ok : goal.returns-in-Some-clause-ok
returns-in-Some-clause-ok g c =
    let policy_is : c.in-Ok.policy ≡ rules_of c.args.options [] = c.in-Ok.ensures.1 in
    let p = place c.loop-made.cursor c.loop-made.core.state c.loop-made.ended (g.I.Read.remaining c.loop-made.input) (g.O.Write.contents c.loop-made.output) in
    let q = place c.serve_once.new.cursor c.serve_once.new.core.state c.serve_once.new.ended (g.I.Read.remaining c.serve_once.new.input) (g.O.Write.contents c.serve_once.new.output) in
    let goes = subst (λ stop. Goes c.in-Ok.policy p (Ok stop) q) c.in-Some.is c.in_ok-stop.ensures in
    stopped c.args.options c.args.core.now.state (g.I.Read.remaining c.args.input.now) (g.O.Write.contents c.args.output.now) c.loop-made.made p
    c.loop-made.invariant q c.in-Some.stop c.loop-made-test.true (subst (λ rules. Goes rules p (Ok (Some c.in-Some.stop)) q) policy_is goes)

pub returns-in_err-stop-clause-err : goal.returns-in_err-stop-clause-err
returns-in_err-stop-clause-err g c =
    let policy_is : c.in-Ok.policy ≡ rules_of c.args.options [] = c.in-Ok.ensures.1 in
    let p = place c.loop-made.cursor c.loop-made.core.state c.loop-made.ended (g.I.Read.remaining c.loop-made.input) (g.O.Write.contents c.loop-made.output) in
    let q = place c.serve_once.new.cursor c.serve_once.new.core.state c.serve_once.new.ended (g.I.Read.remaining c.serve_once.new.input) (g.O.Write.contents c.serve_once.new.output) in
    let made = err_from_is_err_and c.from_residual.result c.from_residual.ensures.1 in
    rw (made.1, made.2)
    (failed c.args.options c.args.core.now.state (g.I.Read.remaining c.args.input.now) (g.O.Write.contents c.args.output.now) c.loop-made.made p
    c.loop-made.invariant q c.in_err-stop.field-0.0 c.loop-made-test.true (subst (λ rules. Goes rules p (Err c.in_err-stop.field-0.0) q) policy_is c.in_err-stop.ensures))

pub returns-clause-ok : goal.returns-clause-ok
returns-clause-ok g c =
    let options = c.args.options in
    let input = g.I.Read.remaining c.args.input.now in
    let before = g.O.Write.contents c.args.output.now in
    let left = g.I.Read.remaining c.loop-made.input in
    let after = g.O.Write.contents c.loop-made.output in
    let all = c.loop-made-test.false in
    let most = c.loop-made.auto.made-end in
    subst (λ (stop : Stop). Serves options options.events c.args.core.now.state (streams input left before after) (record { made = options.events; stop = stop }) c.loop-made.core.state [])
    (sym c.last_stop.ensures)
    (at_last options c.args.core.now.state input before c.loop-made.made
    (place c.loop-made.cursor c.loop-made.core.state c.loop-made.ended left after) c.loop-made.invariant (omega (arith, all, most)))
