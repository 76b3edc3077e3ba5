use Rattle.std.proofs.Common.{length, ap, arith}
use Rattle.m161_explore.proofs.Pieces.{length-each}
use Rattle.m161_explore.proofs.views.Views.len.Goals as goal

pub returns : goal.returns
returns c =
    let n = length-each c.self.inside.pieces c.self.inside.lists in
    let v = ap length c.self.view_is in
    omega arith
