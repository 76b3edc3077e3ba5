use Rattle.std.proofs.Common.{◌∙◌, ◌++◌, ◌-◌, ◌+◌, ◌<◌, take, set, sym, ap, arith, length}
use Rattle.std.proofs.Math.ListN.{length-set}
use Rattle.m161_drive.specs.Words.{after_words, draws}
use Rattle.m161_drive.proofs.Drawn.{drawn_more, words_left}
use Rattle.m161_drive.proofs.ranking.draw_points.Goals as goal

pub loop-j-preserved : goal.loop-j-preserved
loop-j-preserved c =
    let j = c.loop-j.j in
    let n = c.args.changes in
    let before = c.loop-j.invariant in
    let number = c.below.ensures.number in
    let after = c.below.ensures.after in
    let there : j < length c.loop-j.points = omega (arith, before.length_is, c.requires, c.loop-j-test.true) in
    record {
      length_is = length-set c.loop-j.points j c.below.result ∙ before.length_is;
      points_are =
          (λ i. take (j + 1) (set c.loop-j.points j (number i)) ++ draws (n - (j + 1)) c.args.within (after i))
          ∙ sym (drawn_more n j c.args.within c.loop-j.generator c.loop-j.points c.loop-j-test.true there)
          ∙ before.points_are;
      words_are = ap (after_words (n - (j + 1))) after ∙ sym (words_left n j c.loop-j.generator c.loop-j-test.true) ∙ before.words_are;
    }
