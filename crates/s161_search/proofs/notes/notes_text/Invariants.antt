use Rattle.std.proofs.Common.{◌≡◌, take, string_bytes}
use Rattle.s161_search.specs.Notes.{notes_text}
use Rattle.s161_search.proofs.notes.notes_text.Given as goal

-- the watches so far
abbrev pub invariant-loop-i : goal.invariant-loop-i
invariant-loop-i l = string_bytes l.text ≡ notes_text 0 (take l.i l.unstored)
