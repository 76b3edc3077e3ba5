use Rattle.std.specs.Prelude.{◌<◌, List, [], length, unwrap_or}
use Rattle.clap.specs.Words.{Row, Text, all_of}

-- Options that may be given more than once.

-- what is given for one: as often as it is given, in this order
abbrev pub texts_of : Text → List Row → List Text
texts_of name rows = unwrap_or (all_of name rows) []

-- more than 64
abbrev pub AreTooMany : List Text → Type 0
AreTooMany texts = 64 < length texts
