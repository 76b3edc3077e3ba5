use Rattle.std.proofs.Common.{subst}
use Rattle.std.specs.Prelude.{MatchOption}
use Rattle.s161_command.specs.Links.{IsBadLink, IsLinkIf}
use Rattle.s161_command.proofs.link.link_if_given.Goals as goal

pub returns : goal.returns
returns c =
    subst (λ name. MatchOption c.unit_of.result (IsBadLink name) (IsLinkIf name)) c.text_given.ensures c.unit_of.ensures
