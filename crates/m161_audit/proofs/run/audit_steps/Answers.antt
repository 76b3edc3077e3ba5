use Rattle.std.proofs.Common.{◌≡◌, arith, replicate, rules, subst}
use Rattle.m161_machine.specs.declared.event.Event.TheVariants.{Step}
use Rattle.m161_audit.specs.helpers.Run.{Passes}
use Rattle.m161_audit.proofs.Made.{finds_again, passes_again, still_at}
use Rattle.m161_audit.proofs.run.audit_steps.Goals as goal

pub returns-in-Some-clause-run : goal.returns-in-Some-clause-run
returns-in-Some-clause-run g c = λ watches s at.
    let more = c.loop-made.invariant watches s at in
    finds_again watches s (Step c.args.p) c.loop-made.made c.args.times c.args.p _ (omega arith) more.0
    (c.in-Some.ensures watches _ (still_at watches _ c.loop-made.core.state c.make_clean_step.new.core.state c.loop-made.shootdowns c.make_clean_step.new.shootdowns more.1 (c.make_clean_step.ensures.kept (search rules))))

pub loop-made-preserved-then-make_clean_step : goal.loop-made-preserved-then-make_clean_step
loop-made-preserved-then-make_clean_step g c = λ watches s at.
    passes_again watches s (Step c.args.p) c.loop-made.made c.loop-made.core.state c.make_clean_step.new.core.state c.loop-made.shootdowns c.make_clean_step.new.shootdowns (c.loop-made.invariant watches s at)
    (λ more. c.make_clean_step.ensures.made (search rules) watches _ more)

pub loop-made-preserved : goal.loop-made-preserved
loop-made-preserved g c = λ watches s at.
    passes_again watches s (Step c.args.p) c.loop-made.made c.loop-made.core.state c.audit_step.new.core.state c.loop-made.shootdowns c.audit_step.new.shootdowns (c.loop-made.invariant watches s at)
    (λ more. c.in_default.ensures watches _ (still_at watches _ c.loop-made.core.state c.make_clean_step.new.core.state c.loop-made.shootdowns c.make_clean_step.new.shootdowns more (c.make_clean_step.ensures.kept (search rules))))

pub returns-clause-run : goal.returns-clause-run
returns-clause-run g c = λ watches s at.
    let all : c.loop-made.made ≡ c.args.times = omega arith in
    subst (λ n. Passes watches s (replicate n (Step c.args.p)) c.loop-made.core.state c.loop-made.shootdowns) all (c.loop-made.invariant watches s at)
