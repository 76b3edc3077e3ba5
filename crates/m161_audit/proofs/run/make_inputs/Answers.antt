use Rattle.std.proofs.Common.{◌∙◌, ◌≡◌, arith, replicate, subst}
use Rattle.std.proofs.lemmas.Result.{err_from_is_err_and}
use Rattle.m161_audit.specs.helpers.Run.{Passes}
use Rattle.m161_audit.proofs.Made.{passes_again}
use Rattle.m161_audit.proofs.run.make_inputs.Goals as goal

pub returns-in_err-make_input : goal.returns-in_err-make_input
returns-in_err-make_input g c = λ watches s items at.
    let p = err_from_is_err_and c.from_residual.result c.from_residual.ensures.1 in
    let more = c.loop-made.invariant watches s items at in
    rw p.1 (p.2 ∙ c.in_err-make_input.ensures watches _ items more.1)

pub loop-made-preserved : goal.loop-made-preserved
loop-made-preserved g c = λ watches s items at.
    passes_again watches s c.args.event c.loop-made.made c.loop-made.core.state c.make_input.new.core.state items items (c.loop-made.invariant watches s items at)
    (λ more. c.in_ok-make_input.ensures watches _ items more)

pub returns : goal.returns
returns g c = λ watches s items at.
    let all : c.loop-made.made ≡ c.args.times = omega arith in
    subst (λ n. Passes watches s (replicate n c.args.event) c.loop-made.core.state items) all (c.loop-made.invariant watches s items at)
