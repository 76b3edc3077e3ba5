use Rattle.std.proofs.Common.{◌∙◌, arith, inl, sym}
use Rattle.m161_reach.specs.From.{IsFreeFrom}
use Rattle.m161_reach.proofs.Marking.{path_ends, path_free, path_once}
use Rattle.m161_reach.proofs.path.is_free_along.Goals as goal
use Rattle.m161_reach.proofs.path.is_free_along.Goals.{then-count-most-via-then-count-most, then-count-most-via-else-count-most+then-ends_at}

pub returns-then-count-most : goal.returns-then-count-most
returns-then-count-most g c =
    let q = c.args.machines.now in
    let x = c.args.place.now in
    let t = c.go_along.new.place in
    let found = c.keep_once.new.marks.items in
    let path = path_once q x t c.go_along.new.marks.items found (c.in_ok-go_along.ensures.path x c.loop-before.invariant.path) c.keep_once.ensures.adds_none in
    let all : IsFreeFrom q c.args.limit x = elim c.then-count-most.branch [
      | then-count-most-via-then-count-most w ↦
          let many = w.if-count-most.true in
          let count = c.len-count.ensures in
          let most = c.loop-before.invariant.most in
          path_free q x t found c.args.limit c.requires path c.keep_once.ensures.rises (omega (arith, many, count, most))
      | then-count-most-via-else-count-most+then-ends_at w ↦ inl (path_ends q x t found path (sym w.ends_at.ensures ∙ w.if-ends_at.true))
    ] in
    λ yes. all
