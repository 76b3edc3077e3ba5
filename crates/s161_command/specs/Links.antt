use Rattle.std.specs.Prelude.{◌≡◌, ◌≢◌, List, Option, None, Some, codes}
use Rattle.clap.specs.Words.{Row, Text, first_of}
use Rattle.m161_isa.specs.declared.link.LinkUnit.{LinkUnit}
use Rattle.m161_isa.specs.declared.link.LinkUnit.TheVariants.{Word, Line}
use Rattle.s161_command.specs.declared.drive.Clash.{Clash}
use Rattle.s161_command.specs.declared.drive.Clash.TheVariants.{BadLink}

-- What the option `--link` says of `ll`: what it links a processor to.

-- the name of a unit
abbrev pub unit_name : LinkUnit → Text
unit_name Word = codes "word"
unit_name Line = codes "line"

-- the unit that is named, if one is
abbrev pub IsLinkIf : Option Text → Option LinkUnit → Type 0
IsLinkIf None unit = unit ≡ None
IsLinkIf (Some text) None = ⊥
IsLinkIf (Some text) (Some unit) = text ≡ unit_name unit

-- the unit that is named, and else a word
abbrev pub IsLink : Option Text → LinkUnit → Type 0
IsLink None unit = unit ≡ Word
IsLink (Some text) unit = text ≡ unit_name unit

-- no unit has this name
abbrev pub IsBadLink : Option Text → Type 0
IsBadLink None = ⊥
IsBadLink (Some text) = (text ≢ codes "word") × (text ≢ codes "line")

-- a command that takes no order isn't followed: why
abbrev pub RefusesLink : List Row → Clash → Type 0
RefusesLink rows BadLink = IsBadLink (first_of (codes "link") rows)
RefusesLink rows _ = ⊥
