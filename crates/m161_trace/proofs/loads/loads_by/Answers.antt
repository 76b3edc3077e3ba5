use Rattle.std.proofs.Common.{◌≡◌, ◌∙◌, ap, sym, subst, Some}
use Rattle.std.specs.Prelude.{option_and_then}
use Rattle.m161_isa.specs.declared.instr.Instr.TheVariants as instrs
use Rattle.m161_cpu.specs.Uses.{reference_in}
use Rattle.m161_machine.specs.State.{processor_at}
use Rattle.m161_trace.specs.Loads.{loads_from}
use Rattle.m161_trace.specs.helpers.Loads.{IsLoadFrom}
use Rattle.m161_trace.proofs.Loading.{load_found, load_refers, word_refers}
use Rattle.m161_trace.proofs.loads.loads_by.Goals as goal

pub returns-in-Load : goal.returns-in-Load
returns-in-Load g c =
    let p = processor_at c.args.p c.args.core.now.state.processors in
    let x = c.in-Load in
    let f = load_refers p x.op x.rt x.offset x.base in
    let is : reference_in p c.args.word ≡ Some f.0 =
    sym (word_refers p c.args.word (instrs.Load x.op x.rt x.offset x.base) x.ensures.row x.ensures.operands) ∙ f.1 in
    let load : IsLoadFrom c.address.result f.0 = subst (λ a. IsLoadFrom a f.0) (sym c.address.ensures) f.2 in
    let reached = c.requires.reaches f.0 is in
    load_found p f.0 c.address.result c.args.via c.physical.result reached load (c.physical.ensures f.0 load reached)
    ∙ sym (ap (option_and_then (loads_from p)) is)
