use Rattle.std.proofs.Common.{◌≡◌, rules, length}
use Rattle.m161_shorten.proofs.Starts.{has_block}
use Rattle.m161_shorten.proofs.passes.Passes.has_block.Goals as goal

pub returns : goal.returns
returns c =
    let whole : c.len.result ≡ length c.self.inside.events.items = search rules in
    rw (← c.self.view_is) (has_block c.self.inside.block c.self.inside.events.items c.self.inside.start c.len.result c.self.invariant whole)
