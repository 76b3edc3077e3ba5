use Rattle.std.proofs.Common.{◌≡◌, ◌∙◌, ◌+◌, ◌*◌, ◌%◌, ap, arith}
use Rattle.m161_cpu.specs.declared.processor.Outcome.TheVariants.{Trapped}
use Rattle.m161_machine.specs.Packed.{or_interrupt, vector_with}
use Rattle.m161_machine.proofs.Places.{trap_place}
use Rattle.m161_machine.proofs.packed.place_of_trap.Goals as goal

pub returns-clause-value : goal.returns-clause-value
returns-clause-value c =
    let place = 4 + c.number.result * 4 + c.vector_number.result in
    let code : place % 64 ≡ place = omega (arith, c.number.ensures.small, c.vector_number.ensures.small) in
    rw (c.from.ensures, code)
    (trap_place c.number.result c.vector_number.result _ c.vector_number.ensures.small
    ∙ ap (λ e. Trapped (or_interrupt e) (vector_with c.vector_number.result)) c.number.ensures.back
    ∙ ap (Trapped c.args.code) c.vector_number.ensures.value)
