use Rattle.std.proofs.Common.{List, ℕ, Option, None, Some, ap}
use Rattle.std.specs.Prelude.{unwrap_or}
use Rattle.m161_isa.specs.declared.link.LinkUnit.{LinkUnit}
use Rattle.m161_isa.specs.declared.link.LinkUnit.TheVariants.{Word}
use Rattle.s161_command.specs.Links.{IsLink, IsLinkIf}

-- What `ll` links to where no unit is named.

-- the unit that is named, and else a word
pub link_of_if : (text : Option (List ℕ)) (link : Option LinkUnit) → IsLinkIf text link → IsLink text (unwrap_or link Word)
link_of_if None link is = ap (λ unit. unwrap_or unit Word) is
link_of_if (Some text) None is = absurd is
link_of_if (Some text) (Some unit) is = is
