use Rattle.std.proofs.Common.{◌≡◌, ◌∙◌, ap, sym, subst, Some}
use Rattle.m161_isa.specs.declared.instr.Instr.TheVariants as instrs
use Rattle.m161_cpu.specs.Uses.{reference_in, via_reference}
use Rattle.m161_cpu.specs.helpers.Uses.{address_by}
use Rattle.m161_machine.specs.State.{processor_at}
use Rattle.m161_trace.proofs.Loading.{word_refers}
use Rattle.m161_replay.specs.helpers.Loads.{IsLoad}
use Rattle.m161_replay.proofs.Loading.{load_found, load_refers}
use Rattle.m161_replay.proofs.load.loads_by.Goals as goal

pub returns-in-Load : goal.returns-in-Load
returns-in-Load g c =
    let p = processor_at c.args.p c.args.core.now.state.processors in
    let x = c.in-Load in
    let f = load_refers p x.op x.rt x.offset x.base in
    let is : reference_in p c.args.word ≡ Some f.0 =
    sym (word_refers p c.args.word (instrs.Load x.op x.rt x.offset x.base) x.ensures.row x.ensures.operands) ∙ f.1 in
    let load : IsLoad c.width_of_load.result c.address.result f.0 =
    subst (λ a. IsLoad c.width_of_load.result a f.0) (sym c.address.ensures) (subst (λ w. IsLoad w (address_by p x.offset x.base) f.0) (sym c.width_of_load.ensures.value) f.2) in
    load_found p f.0 c.width_of_load.result c.address.result c.physical.result (reference_in p c.args.word) load
    (c.physical.ensures f.0 load (c.requires.via ∙ ap (via_reference p) is)) is
