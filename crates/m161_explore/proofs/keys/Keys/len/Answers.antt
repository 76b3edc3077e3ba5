use Rattle.std.proofs.Common.{length, ap, arith}
use Rattle.m161_explore.proofs.Parts.{length-parts}
use Rattle.m161_explore.proofs.keys.Keys.len.Goals as goal

pub returns : goal.returns
returns c =
    let n = length-parts c.self.inside.cuts.items c.self.inside.words.items in
    let v = ap length c.self.view_is in
    omega arith
