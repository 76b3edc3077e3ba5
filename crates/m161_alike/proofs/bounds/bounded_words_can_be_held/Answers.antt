use Rattle.m161_alike.proofs.Bounding.{board_bounds_law, bounds_law}
use Rattle.m161_alike.proofs.bounds.bounded_words_can_be_held.Goals as goal

pub returns-clause-processors : goal.returns-clause-processors
returns-clause-processors c = bounds_law

pub returns-clause-boards : goal.returns-clause-boards
returns-clause-boards c = board_bounds_law
