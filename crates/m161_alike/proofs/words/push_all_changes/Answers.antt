use Rattle.std.proofs.Common.{◌*◌, ◌∙◌, refl, arith}
use Rattle.m161_alike.specs.Words.{word_change}
use Rattle.m161_alike.proofs.Memory.{changes_more, changes_none}
use Rattle.m161_alike.proofs.words.push_all_changes.Goals as goal

-- none of a block is changed
pub loop-place-preserved-then-is_same_block : goal.loop-place-preserved-then-is_same_block
loop-place-preserved-then-is_same_block c = (
  omega (arith, c.if-is_same_block.ensures.there refl),
  changes_none (λ i. word_change c.args.boot.now c.args.memory.now (4 * i)) c.args.out.now.items c.loop-place.out.items c.loop-place.place 64
      c.loop-place.invariant.1 (c.if-is_same_block.ensures.same refl),
)

pub loop-place-preserved : goal.loop-place-preserved
loop-place-preserved c = (
  omega (arith, c.loop-place-test.true),
  c.in_ok-push_change.ensures.ok
      ∙ changes_more (λ i. word_change c.args.boot.now c.args.memory.now (4 * i)) c.args.out.now.items c.loop-place.out.items c.loop-place.place
      c.loop-place.invariant.1,
)
