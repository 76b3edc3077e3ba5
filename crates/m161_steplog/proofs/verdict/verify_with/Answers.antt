use Rattle.std.proofs.Common.{◌∙◌, subst, arith, rules, take_all}
use Rattle.std.proofs.lemmas.Result.{err_from_is_err_and}
use Rattle.m161_machine.specs.History.{boot_fault}
use Rattle.m161_steplog.specs.declared.verdict.Comparison.TheVariants as verdicts
use Rattle.m161_steplog.specs.Verdict.{IsVerdict}
use Rattle.m161_steplog.proofs.Verdicts.{repeated, differs, judged, no_memory}
use Rattle.m161_steplog.proofs.verdict.verify_with.Goals as goal

pub returns-in_err-repeats : goal.returns-in_err-repeats
returns-in_err-repeats g c =
    let p = err_from_is_err_and c.from_residual-in_err-repeats.result c.from_residual-in_err-repeats.ensures.1 in
    rw p.1 (no_memory c.args.file.now c.args.conf (boot_fault c.args.file.now c.args.conf) c.args.log.now c.in_ok-machine.machine p.0 c.in_ok-machine.ensures.answer (p.2 ∙ c.in_err-repeats.ensures))

pub returns-then-not-branch : goal.returns-then-not-branch
returns-then-not-branch g c = judged c.args.file.now c.args.conf (boot_fault c.args.file.now c.args.conf) c.args.log.now c.in_ok-machine.machine (verdicts.Differs c.loop-k.k) c.in_ok-machine.ensures.answer
    (subst (λ s. IsVerdict s c.args.log.now (verdicts.Differs c.loop-k.k)) c.into_core-core.ensures
    (differs c.into_core-core.result.state c.loop-k.core.state c.repeats.new.core.state c.args.log.now c.loop-k.k _ c.in_ok-repeats.field-0 (omega arith) c.loop-k.invariant c.in_ok-repeats.ensures (search rules)))

pub loop-k-preserved : goal.loop-k-preserved
loop-k-preserved g c = repeated c.into_core-core.result.state c.loop-k.core.state c.repeats.new.core.state c.args.log.now c.loop-k.k _ c.in_ok-repeats.field-0 (omega arith) c.loop-k.invariant c.in_ok-repeats.ensures (search rules)

pub returns : goal.returns
returns g c = judged c.args.file.now c.args.conf (boot_fault c.args.file.now c.args.conf) c.args.log.now c.in_ok-machine.machine verdicts.Agrees c.in_ok-machine.ensures.answer
    (subst (λ s. IsVerdict s c.args.log.now verdicts.Agrees) c.into_core-core.ensures
    (c.loop-k.core.state, rw (take_all c.loop-k.k c.args.log.now (omega arith)) at c.loop-k.invariant))
