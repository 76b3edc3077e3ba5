use Rattle.m161_alike.proofs.Telling.{view_law, words_law}
use Rattle.m161_alike.proofs.view_words.words_tell_a_view.Goals as goal

pub returns-clause-views : goal.returns-clause-views
returns-clause-views c = view_law

pub returns-clause-words : goal.returns-clause-words
returns-clause-words c = words_law
