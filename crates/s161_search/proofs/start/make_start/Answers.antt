use Rattle.std.proofs.Common.{[], refl, subst}
use Rattle.m161_judge.specs.Begun.{IsFirstOf}
use Rattle.m161_judge.specs.Memory.{IsKeptOf}
use Rattle.m161_machine.specs.History.{boot_fault}
use Rattle.s161_base.proofs.Asking.{says_err}
use Rattle.s161_search.specs.Given.{criteria_of}
use Rattle.s161_search.specs.Runs.{IsRunFault}
use Rattle.s161_search.specs.helpers.Inputs.{given_of}
use Rattle.s161_search.proofs.Booting.{begins}
use Rattle.s161_search.proofs.Failing.{boots_none, first_refused}
use Rattle.s161_search.proofs.Starting.{booted_good, started}
use Rattle.s161_search.proofs.start.make_start.Goals as goal

pub returns-in_err-core-clause-err : goal.returns-in_err-core-clause-err
returns-in_err-core-clause-err c =
    let given = given_of c.args.inputs.now in
    let s = c.args.booted.now in
    let boot = begins given s c.requires.booted in
    says_err (IsRunFault given) c.from_residual-in_err-core.result c.from_residual-in_err-core.ensures.1
    (first_refused given s c.in_err-core.field-0.0 (booted_good given s boot c.in_ok-steps.ensures.ok.good)
    (boots_none given s (boot_fault given.file given.conf) refl c.requires.booted, boot) c.in_err-core.ensures.err)

pub returns-clause-ok : goal.returns-clause-ok
returns-clause-ok c =
    let given = given_of c.args.inputs.now in
    let s = c.args.booted.now in
    let es = c.first_core.new.events.items in
    let first = c.in_ok-first.ensures in
    started given s first.0 (record { core = c.in_ok-core.core; events = c.first_core.new.events; steps = c.keep_on.new.steps; first = c.in_ok-first.first })
    c.requires.keys c.in_ok-core.ensures.ok
    (subst (λ xs. IsKeptOf (criteria_of given) s xs c.keep_on.new.steps) c.deref.ensures.value
    (c.in_ok-keep_on.ensures s [] c.deref.result.now refl c.in_ok-steps.ensures.ok))
    (subst (λ xs. IsFirstOf (criteria_of given) s xs first.0 c.in_ok-first.first) c.deref-2.ensures.value first.1)
