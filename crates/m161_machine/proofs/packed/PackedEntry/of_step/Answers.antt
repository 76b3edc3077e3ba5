use Rattle.std.proofs.Common.{◌∙◌, ◌+◌, ◌*◌, ap, sym, arith}
use Rattle.m161_machine.specs.declared.event.Event.TheVariants.{Step}
use Rattle.m161_machine.specs.History.{entry}
use Rattle.m161_machine.specs.Packed.{place_of, word_of_entry}
use Rattle.m161_machine.proofs.Places.{step_word}
use Rattle.m161_machine.proofs.packed.PackedEntry.of_step.Goals as goal

pub invariant_of-result : goal.invariant_of-result
invariant_of-result c = (
  ap word_of_entry (step_word c.args.p c.place.result c.requires.small c.place.ensures.small.0)
      ∙ ap (λ o. c.args.p * 64 + place_of o) c.place.ensures.value
      ∙ ap (λ n. c.args.p * 64 + n) (sym c.place.ensures.place),
  λ key. absurd (let bad : ⊥ = let small = c.place.ensures.small.0 in omega (arith, key, small) in bad),
  λ conflict. let small = c.place.ensures.small in omega (arith, small.0, small.1, c.requires.small),
)

pub returns : goal.returns
returns c = step_word c.args.p c.place.result c.requires.small c.place.ensures.small.0 ∙ ap (entry (Step c.args.p)) c.place.ensures.value
