use Rattle.std.proofs.Common.{◌∙◌, ap, sym, ◌+◌, ◌-◌}
use Rattle.m161_drive.specs.Words.{after_words}
use Rattle.m161_drive.proofs.Drawn.{words_left}
use Rattle.m161_drive.proofs.orders.pass_words.Goals as goal

pub loop-word-preserved : goal.loop-word-preserved
loop-word-preserved c =
    ap (after_words (c.args.number - (c.loop-word.word + 1))) c.below-below.ensures.after
    ∙ sym (words_left c.args.number c.loop-word.word c.loop-word.generator c.loop-word-test.true) ∙ c.loop-word.invariant
