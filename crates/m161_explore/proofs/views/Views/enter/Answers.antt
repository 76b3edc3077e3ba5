use Rattle.std.proofs.Common.{ℕ, List, ap, arith, length, subst, sym, ◌∙◌}
use Rattle.std.proofs.lemmas.Option.{MatchOption-at_none, MatchOption-at_some}
use Rattle.m161_explore.specs.helpers.Pieces.{Spells, piece_size}
use Rattle.m161_explore.proofs.Pieces.{each_kept, found_each, length-each, pushed_each, spelled_after, spelled_kept}
use Rattle.m161_explore.proofs.views.Views.enter.Goals as goal

pub invariant_of-self : goal.invariant_of-self
invariant_of-self c = record {
  pieces = c.cut.ensures.pieces;
  spelled = spelled_kept piece_size _ _ c.self.inside.lists c.cut.ensures.kept c.self.invariant.spelled;
}

pub invariant_of-self-in-Some : goal.invariant_of-self-in-Some
invariant_of-self-in-Some c = record {
  pieces = c.cut.ensures.pieces;
  spelled = spelled_kept piece_size _ _ c.self.inside.lists c.cut.ensures.kept c.self.invariant.spelled;
}

pub returns-in-Some : goal.returns-in-Some
returns-in-Some c =
    let P : List ℕ → Type 0 = λ x. Spells piece_size c.cut.new.pieces x c.args.words.now in
    let same = each_kept piece_size _ _ c.self.inside.lists c.cut.ensures.kept c.self.invariant.spelled ∙ c.self.view_is in
    let found = found_each piece_size c.cut.new.pieces c.self.inside.lists c.args.self.now c.deref-2.result.now c.args.words.now c.find.result c.cut.ensures.pieces
    (spelled_kept piece_size _ _ c.self.inside.lists c.cut.ensures.kept c.self.invariant.spelled)
    (subst P (sym c.deref-2.ensures.value) c.in_ok-cut.ensures.spells) same c.find.ensures in
    let at = MatchOption-at_some _ _ c.in-Some.known c.in-Some.is found in
    (same, at.0, at.1)

pub invariant_of-self-then-limit-len : goal.invariant_of-self-then-limit-len
invariant_of-self-then-limit-len c = record {
  pieces = c.cut.ensures.pieces;
  spelled = spelled_kept piece_size _ _ c.self.inside.lists c.cut.ensures.kept c.self.invariant.spelled;
}

pub returns-then-limit-len : goal.returns-then-limit-len
returns-then-limit-len c =
    let P : List ℕ → Type 0 = λ x. Spells piece_size c.cut.new.pieces x c.args.words.now in
    let same = each_kept piece_size _ _ c.self.inside.lists c.cut.ensures.kept c.self.invariant.spelled ∙ c.self.view_is in
    let found = found_each piece_size c.cut.new.pieces c.self.inside.lists c.args.self.now c.deref-2.result.now c.args.words.now c.find.result c.cut.ensures.pieces
    (spelled_kept piece_size _ _ c.self.inside.lists c.cut.ensures.kept c.self.invariant.spelled)
    (subst P (sym c.deref-2.ensures.value) c.in_ok-cut.ensures.spells) same c.find.ensures in
    let n = length-each c.cut.new.pieces c.self.inside.lists in
    let v = ap length same in
    (same, omega (arith, n, v, c.len.ensures, c.if-limit-len.true), MatchOption-at_none _ _ c.in_default.is found)

pub invariant_of-self-in_err-push : goal.invariant_of-self-in_err-push
invariant_of-self-in_err-push c =
    let P : List ℕ → Type 0 = λ x. Spells piece_size c.cut.new.pieces x c.args.words.now in
    record {
      pieces = c.cut.ensures.pieces;
      spelled = spelled_after piece_size c.cut.new.pieces c.self.inside.lists c.push.new.self c.deref-3.result.now c.args.words.now c.push.result
          (spelled_kept piece_size _ _ c.self.inside.lists c.cut.ensures.kept c.self.invariant.spelled)
          (subst P (sym c.deref-3.ensures.value) c.in_ok-cut.ensures.spells) c.push.ensures.ok c.push.ensures.err;
    }

pub invariant_of-self-2 : goal.invariant_of-self-2
invariant_of-self-2 c =
    let P : List ℕ → Type 0 = λ x. Spells piece_size c.cut.new.pieces x c.args.words.now in
    record {
      pieces = c.cut.ensures.pieces;
      spelled = spelled_after piece_size c.cut.new.pieces c.self.inside.lists c.push.new.self c.deref-3.result.now c.args.words.now c.push.result
          (spelled_kept piece_size _ _ c.self.inside.lists c.cut.ensures.kept c.self.invariant.spelled)
          (subst P (sym c.deref-3.ensures.value) c.in_ok-cut.ensures.spells) c.push.ensures.ok c.push.ensures.err;
    }

pub returns : goal.returns
returns c =
    let P : List ℕ → Type 0 = λ x. Spells piece_size c.cut.new.pieces x c.args.words.now in
    let spells = c.in_ok-cut.ensures.spells in
    let same = each_kept piece_size _ _ c.self.inside.lists c.cut.ensures.kept c.self.invariant.spelled ∙ c.self.view_is in
    let found = found_each piece_size c.cut.new.pieces c.self.inside.lists c.args.self.now c.deref-2.result.now c.args.words.now c.find.result c.cut.ensures.pieces
    (spelled_kept piece_size _ _ c.self.inside.lists c.cut.ensures.kept c.self.invariant.spelled)
    (subst P (sym c.deref-2.ensures.value) spells) same c.find.ensures in
    let n = length-each c.cut.new.pieces c.self.inside.lists in
    let v = ap length same in (
      pushed_each piece_size c.cut.new.pieces c.self.inside.lists c.push.new.self c.args.self.now c.deref-3.result.now c.args.words.now
          (subst P (sym c.deref-3.ensures.value) spells) same c.in_ok-push.ensures.ok,
      omega (arith, n, v, c.len.ensures, c.if-limit-len.false),
      MatchOption-at_none _ _ c.in_default.is found,
    )
