use Rattle.std.proofs.Common.{◌<◌, length, arith, ap, subst, sym, ◌∙◌}
use Rattle.m161_shorten.specs.Passes.{Place}
use Rattle.m161_shorten.specs.Blocks.{blocks}
use Rattle.m161_shorten.proofs.Starts.{blocks_few, start_next}
use Rattle.m161_shorten.proofs.passes.Passes.try_block.Goals as goal

pub overflow_add-self : goal.overflow_add-self
overflow_add-self g c =
    let es = c.self.inside.events.items in
    let stays = c.in_ok-tried.ensures.tries.stays c.if-tried.false in
    let long = ap length (c.deref-else-tried.ensures.value ∙ stays) in
    let some : c.self.inside.block < length (blocks es) = subst (λ (s : Place). s.block < length (blocks s.events)) (sym c.self.view_is) c.requires.some in
    let few = blocks_few es in
    let fits = c.deref-else-tried.type_inv.0 in
    omega (arith, long, some, few, fits)

pub invariant_of-self-else-tried : goal.invariant_of-self-else-tried
invariant_of-self-else-tried g c =
    let es = c.self.inside.events.items in
    let stays = c.in_ok-tried.ensures.tries.stays c.if-tried.false in
    start_next c.self.inside.block es c.try_start.new.events.items c.deref-else-tried.result.now c.self.inside.start c.block_end-self-inside.result
    c.self.invariant stays c.deref-else-tried.ensures.value c.block_end-self-inside.ensures.value
