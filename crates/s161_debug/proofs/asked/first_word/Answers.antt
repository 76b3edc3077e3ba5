use Rattle.std.proofs.Common.{◌∙◌, ap, sym}
use Rattle.m161_debug.specs.Commands.{first_word}
use Rattle.s161_debug.proofs.Words.{first_word_alone, first_word_cut}
use Rattle.s161_debug.proofs.asked.first_word.Goals as goal

pub returns-in-Some : goal.returns-in-Some
returns-in-Some c = first_word_cut c.in-Some.word.now _ c.in-Some.ensures.0 ∙ ap first_word (sym c.in-Some.ensures.1)

pub returns-in-None : goal.returns-in-None
returns-in-None c = first_word_alone c.args.line.now c.in-None.ensures
