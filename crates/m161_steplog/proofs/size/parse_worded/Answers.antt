use Rattle.m161_steplog.proofs.Sizes.{no_number, no_words, worded_read}
use Rattle.m161_steplog.proofs.size.parse_worded.Goals as goal

pub returns-in_err-processors : goal.returns-in_err-processors
returns-in_err-processors c = rw c.from_residual.ensures (no_number c.args.processors.now c.args.words.now c.requires c.in_err-processors.ensures)

pub returns-in_err-mode : goal.returns-in_err-mode
returns-in_err-mode c = rw c.from_residual-in_err-mode.ensures (no_words c.args.processors.now c.args.words.now c.requires c.in_err-mode.ensures)

pub returns : goal.returns
returns c = worded_read c.args.processors.now c.args.words.now c.in_ok-processors.processors c.in_ok-mode.mode c.requires c.in_ok-processors.ensures c.in_ok-mode.ensures
