use Rattle.std.proofs.Common.{ℕ, List, ap, arith, length, subst, sym, ◌∙◌}
use Rattle.std.proofs.lemmas.Result.{on_ok_weaker}
use Rattle.m161_explore.specs.helpers.Pieces.{Spells, piece_size}
use Rattle.m161_explore.proofs.Pieces.{each_kept, length-each, pushed_each, spelled_after, spelled_kept}
use Rattle.m161_explore.proofs.views.Views.push.Goals as goal

pub invariant_of-self : goal.invariant_of-self
invariant_of-self c = record {
  pieces = c.cut.ensures.pieces;
  spelled = spelled_kept piece_size _ _ c.self.inside.lists c.cut.ensures.kept c.self.invariant.spelled;
}

pub push-requires : goal.push-requires
push-requires c =
    let n = length-each c.self.inside.pieces c.self.inside.lists in
    let v = ap length c.self.view_is in omega arith

pub invariant_of-self-2 : goal.invariant_of-self-2
invariant_of-self-2 c =
    let P : List ℕ → Type 0 = λ x. Spells piece_size c.cut.new.pieces x c.args.words.now in
    record {
      pieces = c.cut.ensures.pieces;
      spelled = spelled_after piece_size c.cut.new.pieces c.self.inside.lists c.push.new.self c.deref-2.result.now c.args.words.now c.push.result
          (spelled_kept piece_size _ _ c.self.inside.lists c.cut.ensures.kept c.self.invariant.spelled)
          (subst P (sym c.deref-2.ensures.value) c.in_ok-cut.ensures.spells) c.push.ensures.ok c.push.ensures.err;
    }

pub returns : goal.returns
returns c =
    let P : List ℕ → Type 0 = λ x. Spells piece_size c.cut.new.pieces x c.args.words.now in
    on_ok_weaker c.push.result
    (λ more. pushed_each piece_size c.cut.new.pieces c.self.inside.lists c.push.new.self c.args.self.now c.deref-2.result.now c.args.words.now
    (subst P (sym c.deref-2.ensures.value) c.in_ok-cut.ensures.spells)
    (each_kept piece_size _ _ c.self.inside.lists c.cut.ensures.kept c.self.invariant.spelled ∙ c.self.view_is) more)
    c.push.ensures.ok
