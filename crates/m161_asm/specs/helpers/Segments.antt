use Rattle.std.specs.Prelude.{◌≤◌, List, length}
use Rattle.m161_asm.specs.Text.{Segment}
use Rattle.m161_asm.specs.Segments.{word_count, ArePlaced, AreApart}

-- the limits of a program
pub record AreSegments (ss : List Segment) : Type 0 where
  pub words : word_count ss ≤ 4194304
  pub count : length ss ≤ 1024
  pub placed : ArePlaced ss
  pub apart : AreApart ss
