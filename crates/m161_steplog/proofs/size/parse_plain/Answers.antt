use Rattle.m161_steplog.proofs.Sizes.{no_plain, plain_read}
use Rattle.m161_steplog.proofs.size.parse_plain.Goals as goal

pub returns-in_err-processors : goal.returns-in_err-processors
returns-in_err-processors c = rw c.from_residual.ensures (no_plain c.args.text.now c.requires c.in_err-processors.ensures)

pub returns : goal.returns
returns c = plain_read c.args.text.now c.in_ok-processors.processors c.requires c.in_ok-processors.ensures
