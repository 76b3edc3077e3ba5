use Rattle.std.proofs.Common.{◌≡◌, ◌++◌, map, take, string_bytes}
use Rattle.m161_text.specs.Lines.{text_of}
use Rattle.m161_steplog.specs.Text.{entry_text}
use Rattle.m161_steplog.proofs.log.push_entries.Given as goal

abbrev pub invariant-loop-entry : goal.invariant-loop-entry
invariant-loop-entry l = string_bytes l.text ≡ string_bytes l.fn.text ++ text_of (map entry_text (take l.entry-index l.entries))
