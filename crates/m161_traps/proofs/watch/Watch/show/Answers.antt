use Rattle.std.proofs.Common.{◌∙◌, None, ap}
use Rattle.std.specs.Prelude.{slice_index_or}
use Rattle.m161_traps.specs.Shown.{trapping_if}
use Rattle.m161_traps.specs.Trapping.{last_trapping}
use Rattle.m161_traps.proofs.Lasting.{same_texts}
use Rattle.m161_traps.proofs.watch.Watch.show.Goals as goal

pub returns : goal.returns
returns c =
    let tails = c.args.self.now.tails in
    λ so_far h. c.in_ok-text.ensures
    ∙ same_texts (λ p. trapping_if p (slice_index_or tails p None)) (λ p. trapping_if p (last_trapping p so_far)) 0 32
    (λ p low. ap (trapping_if p) (h.last p low))
