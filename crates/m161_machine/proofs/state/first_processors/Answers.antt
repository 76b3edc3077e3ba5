use Rattle.std.proofs.Common.{◌≡◌, ◌∙◌, ap, ◌+◌, ◌-◌, [], ◌∷◌, ◌++◌, replicate, arith}
use Rattle.std.proofs.lemmas.List.{replicate-append-replicate}
use Rattle.m161_cpu.specs.Processor.{started_processor, stopped_processor}
use Rattle.m161_machine.proofs.state.first_processors.Goals as goal

pub loop-made-preserved : goal.loop-made-preserved
loop-made-preserved g c =
    let k = c.loop-made.made in
    let first = started_processor c.args.entry 0 0 0 in
    let number : k - 1 + 1 ≡ k + 1 - 1 = omega (arith, c.loop-made.auto) in (
      c.push_reserved-in-loop-made.ensures.items ∙ ap (λ ps. ps ++ c.new.result ∷ []) c.loop-made.invariant.0
          ∙ ap (λ p. (first ∷ replicate (k - 1) stopped_processor) ++ p ∷ []) c.new.ensures
          ∙ ap (λ ps. first ∷ ps) (replicate-append-replicate (k - 1) 1 stopped_processor)
          ∙ ap (λ n. first ∷ replicate n stopped_processor) number,
      omega (arith, c.loop-made.invariant.1, c.push_reserved-in-loop-made.ensures.capacity),
    )
