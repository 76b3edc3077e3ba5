use Rattle.std.proofs.Common.{subst, sym}
use Rattle.s161_command.specs.Links.{IsLink}
use Rattle.s161_command.proofs.Linking.{link_of_if}
use Rattle.s161_command.proofs.link.link_or_word.Goals as goal

pub returns : goal.returns
returns c = λ text is. subst (IsLink text) (sym c.unwrap_or.ensures) (link_of_if text c.args.link is)
