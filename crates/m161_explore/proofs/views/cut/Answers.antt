use Rattle.std.proofs.Common.{◌≡◌, ℕ, ◌+◌, ◌-◌, List, ap, arith, length, subst, sym, take, drop}
use Rattle.std.proofs.lemmas.List.{length_push}
use Rattle.m161_explore.specs.helpers.Pieces.{Spells, piece_size}
use Rattle.m161_explore.proofs.Pieces.{kept_on, spells_kept, spells_next}
use Rattle.m161_explore.proofs.views.cut.Goals as goal

pub loop-at-preserved : goal.loop-at-preserved
loop-at-preserved c =
    let at : ℕ = c.loop-at.at in
    let m : ℕ = c.min.result in
    let found = c.in_ok-number_of.ensures.found in
    let P : List ℕ → Type 0 = λ x. Spells piece_size c.number_of.new.pieces x (take (at + m) c.args.words.now) in
    let cut = ap (λ (x : ℕ). take x (drop at c.args.words.now)) (let e : at + m - at ≡ m = omega arith in e) in
    record {
      pieces = c.number_of.ensures.pieces;
      kept = kept_on _ _ _ c.loop-at.invariant.kept c.number_of.ensures.kept;
      spells = subst P (sym c.in_ok-push.ensures.items)
          (spells_next piece_size c.number_of.new.pieces c.loop-at.numbers.items c.args.words.now _ at m c.in_ok-number_of.field-0
          (spells_kept piece_size _ _ _ _ c.number_of.ensures.kept c.loop-at.invariant.spells)
          (c.loop-at.invariant.whole c.loop-at-test.true) (omega arith) (omega arith) (omega arith) found.0 found.1 cut);
      within = omega arith;
      whole = λ l. omega (arith, ap length c.in_ok-push.ensures.items, length_push c.loop-at.numbers.items c.in_ok-number_of.field-0, c.loop-at.invariant.whole c.loop-at-test.true);
    }
