use Rattle.std.specs.Prelude.{◌≡◌, ℕ, ◌+◌, Bool, true, false, List, [], ◌∷◌, ◌++◌, codes, decimal}
use Rattle.m161_audit.specs.declared.watch.Watch.{Watch}
use Rattle.m161_stores.specs.declared.watches.Unstored.{Unstored}
use Rattle.m161_stores.specs.Watches.{AreUnstored}
use Rattle.m161_text.specs.Lines.{with_line_end}
use Rattle.m161_text.specs.Parts.{◌␣◌}

-- What is said on standard error of watches: to which of their words no Step stored.

-- the note on a word of a watch, with the watch's number and the word's name
abbrev pub note_line : ℕ → List ℕ → List ℕ
note_line watch name =
    codes "s161: note watch" ␣ decimal watch ␣ name ␣ codes "(no Step stored into this word)"

abbrev pub note_if : Bool → ℕ → List ℕ → List ℕ
note_if true watch name = with_line_end (note_line watch name)
note_if false watch name = []

-- the notes on both words of a watch
abbrev pub watch_notes : ℕ → Unstored → List ℕ
watch_notes watch u = note_if u.pte watch (codes "pte") ++ note_if u.done watch (codes "done")

-- those on watches, of which the first has this number
abbrev pub notes_text : ℕ → List Unstored → List ℕ
notes_text watch [] = []
notes_text watch (u ∷ us) = watch_notes watch u ++ notes_text (watch + 1) us

-- this is said of watches, where it is so of their words
abbrev pub Notes : (ℕ → Bool → Type 0) → List Watch → List ℕ → Type 0
Notes IsSo watches told =
    (unstored : List Unstored) × AreUnstored IsSo watches unstored × (told ≡ notes_text 0 unstored)
