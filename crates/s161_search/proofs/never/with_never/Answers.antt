use Rattle.std.proofs.Common.{◌∙◌, ap, map, refl, subst}
use Rattle.m161_machine.specs.History.{boot_fault}
use Rattle.s161_base.proofs.Asking.{says_err}
use Rattle.s161_base.specs.Naming.{image_symbols}
use Rattle.s161_search.specs.helpers.Inputs.{given_of}
use Rattle.s161_search.specs.helpers.Never.{IsNeverFault, IsWordFault}
use Rattle.s161_search.proofs.Failing.{boots_none, word_failed}
use Rattle.s161_search.proofs.never.with_never.Goals as goal

pub returns-in_err-never-clause-err : goal.returns-in_err-never-clause-err
returns-in_err-never-clause-err c =
    let task = c.args.task in
    let given = given_of c.args.inputs in
    let words = map (λ word. word.now) c.args.words.now in
    let fault = c.in_err-never.field-0.0 in
    says_err (IsNeverFault task words given) c.from_residual-in_err-never.result c.from_residual-in_err-never.ensures.1
    (word_failed task words given fault (boots_none given c.args.booted.now (boot_fault given.file given.conf) refl c.requires)
    c.in_ok-check_watches.ensures.good
    (subst (λ x. IsWordFault x words fault) (c.in_ok-symbols.ensures ∙ ap (image_symbols task.image.now) c.deref.ensures.value) c.in_err-never.ensures.err))
