use Rattle.std.specs.Prelude.{[]}
use Rattle.m161_dis.specs.declared.naming.Style.{Style}
use Rattle.m161_dis.specs.declared.naming.Naming.TheVariants.{Numbers}

-- How a text shows registers and addresses.

-- registers by their numbers, and no symbols
abbrev pub plain : Style
plain = record { registers = Numbers; symbols = [] }
