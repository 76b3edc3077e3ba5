use Rattle.std.specs.Prelude.{◌≡◌, List, Result, Ok}
use Rattle.m161_asm.specs.declared.first.FirstPass.{FirstPass}
use Rattle.m161_asm.specs.Tokens.{Placed}
use Rattle.m161_asm.specs.Lines.{◌>>=◌, SourceFault, SourceLine, sound, label_of, past_of, line_column, statement}
use Rattle.m161_asm.specs.Text.{new_label, symbols_in}
use Rattle.m161_asm.specs.Seen.{symbols_seen}
use Rattle.m161_asm.specs.helpers.Seen.{above_of}
use Rattle.m161_asm.specs.helpers.Passes.{IsBehind}

-- the pass has the symbols of its lines, and is at the position after them
pub record IsPass (p : FirstPass) : Type 0 where
  pub position : IsBehind p.position (above_of p.lines.items)
  pub symbols : symbols_seen p.symbols ≡ symbols_in (above_of p.lines.items)

-- the faults of a line before its statement: a bad token, or a label that an earlier line has
abbrev pub label_checked : List SourceLine → List Placed → Result (Unit {0}) SourceFault
label_checked above ts = do
  _ ← sound ts
  new_label above (label_of ts).0

-- the line of tokens, wherever it is
abbrev pub line_with : List Placed → Result SourceLine SourceFault
line_with ts = do
  s ← statement (past_of ts) (label_of ts).1
  Ok (record {
    label = (label_of ts).0;
    statement = s;
    column = line_column ts (label_of ts).1;
  })
