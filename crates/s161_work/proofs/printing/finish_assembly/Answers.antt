use Rattle.std.proofs.Common.{◌≡◌, IfSome, rules, subst}
use Rattle.std.proofs.lemmas.Result.{err_from_is_err_and}
use Rattle.s161_base.specs.Known.{IsText}
use Rattle.s161_texts.specs.Assemblies.{IsUnassembled}
use Rattle.s161_work.proofs.Assembling.{assembly_failed}
use Rattle.s161_work.proofs.printing.finish_assembly.Goals as goal

pub returns-in_err-assembly-clause-fault : goal.returns-in_err-assembly-clause-fault
returns-in_err-assembly-clause-fault g c =
    let made = err_from_is_err_and c.from_residual-in_err-assembly.result c.from_residual-in_err-assembly.ensures.1 in
    let source = c.in_ok-source.source.bytes.items in
    let whole : IfSome (g.I.Read.remaining c.args.input.now) (λ known. source ≡ known) = search rules in
    let utf8 : IsText source = c.in_ok-source.source.ok in
    let fault : IsUnassembled source c.in_err-assembly.field-0.0 =
    subst (λ text. IsUnassembled text c.in_err-assembly.field-0.0) c.as_str.ensures.value c.in_err-assembly.ensures.fault in
    rw (made.1, made.2) (assembly_failed (g.I.Read.remaining c.args.input.now) source c.in_err-assembly.field-0.0 whole utf8 fault)
