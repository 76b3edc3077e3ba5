use Rattle.std.proofs.Common.{ap, arith, length, length-set, refl, ◌∙◌}
use Rattle.m161_explore.specs.helpers.Keys.{bucket, parts}
use Rattle.m161_explore.proofs.Chains.{linked_next}
use Rattle.m161_explore.proofs.Parts.{length-parts}
use Rattle.m161_explore.proofs.keys.relink.Goals as goal

pub part-requires-clause-within : goal.part-requires-clause-within
part-requires-clause-within c =
    let n = length-parts c.args.cuts.now c.args.words.now in
    omega (arith, n, c.requires.sizes, c.loop-index-test.true)

pub loop-index-preserved : goal.loop-index-preserved
loop-index-preserved c = record {
  some = length-set c.loop-index.heads _ _ ∙ c.loop-index.invariant.some;
  sizes = length-set c.loop-index.before _ _ ∙ c.loop-index.invariant.sizes;
  linked = linked_next c.loop-index.heads c.loop-index.before _ _ (parts c.args.cuts.now c.args.words.now) c.loop-index.index c.bucket_of-place.result
      c.loop-index.invariant.linked (omega (arith, c.loop-index.invariant.sizes, c.loop-index-test.true)) c.bucket_of-place.ensures.within
      (c.bucket_of-place.ensures.is ∙ ap (λ x. bucket (length c.loop-index.heads) x) c.part.ensures) refl refl;
}
