use Rattle.std.proofs.Common.{ℕ, List, [], subst}
use Rattle.std.proofs.lemmas.List.{append-nil}
use Rattle.m161_explore.specs.helpers.Trails.{IsTrail}
use Rattle.m161_explore.proofs.graph.trail_of.Goals as goal

pub returns : goal.returns
returns c =
    let P : List ℕ → Type 0 = λ x. IsTrail c.args.nodes.now c.args.from x in
    subst P (append-nil c.loop-here.events.items) (c.loop-here.invariant.trail [] c.loop-here-test.false)
