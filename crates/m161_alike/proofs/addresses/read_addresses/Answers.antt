use Rattle.std.proofs.Common.{◌∙◌, ap, sym, arith, ◌*◌, ◌∷◌, [], ◌++◌, ℕ, List, get_or}
use Rattle.m161_alike.proofs.Covering.{all_told_at, two_told}
use Rattle.m161_alike.proofs.addresses.read_addresses.Goals as goal

pub loop-i-preserved : goal.loop-i-preserved
loop-i-preserved c =
    let words = c.args.words.now in
    c.in_ok-push.ensures.items ∙ ap (λ (l : List ℕ). l ++ get_or words (2 * c.loop-i.i) 0 ∷ []) c.loop-i.invariant
    ∙ sym (two_told words c.loop-i.i (omega (arith, c.loop-i-test.true)))

pub returns : goal.returns
returns c = c.loop-i.invariant ∙ all_told_at c.args.words.now c.loop-i.i (omega (arith, c.loop-i-test.false))
