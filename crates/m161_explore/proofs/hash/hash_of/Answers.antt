use Rattle.std.proofs.Common.{◌+◌, ◌*◌, ℕ, add-one, ap, ◌∙◌}
use Rattle.std.specs.Prelude.{slice_index_or}
use Rattle.m161_explore.specs.helpers.Keys.{mixed, pair}
use Rattle.m161_explore.proofs.hash.hash_of.Goals as goal

pub loop-at-preserved : goal.loop-at-preserved
loop-at-preserved c =
    let at : ℕ = c.loop-at.at in
    let two : ℕ = pair (slice_index_or c.args.words.now (2 * at) 0) (slice_index_or c.args.words.now (2 * at + 1) 0) in
    rw add-one (c.mix-hash.ensures ∙ ap (λ w. mixed c.loop-at.hash w) c.pair.ensures ∙ ap (λ h. mixed h two) c.loop-at.invariant)
