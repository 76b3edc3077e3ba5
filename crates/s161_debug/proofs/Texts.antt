use Rattle.std.proofs.Common.{◌≡◌, ◌∙◌, ℕ, ◌<◌, Bool, true, false, List, [], ◌∷◌, ◌++◌, length, ap, sym, refl, append-nil, append_assoc}
use Rattle.std.specs.List.{AllByRecursion}
use Rattle.m161_text.specs.Lines.{lines_of, text_of, with_line_end}
use Rattle.m161_text.specs.Parts.{Lacks}
use Rattle.m161_text.proofs.Feeds.{lines_cut, lines_last}
use Rattle.s161_debug.specs.helpers.Sessions.{bytes_of}

-- Lines, and their text.

-- the lines of lines with their ends and a further text
pub lines_behind : (lines : List (List ℕ)) (more : List ℕ) → AllByRecursion (Lacks 10) lines → lines_of (text_of lines ++ more) ≡ lines ++ lines_of more
lines_behind [] more each = refl
lines_behind (line ∷ lines) more each =
    ap lines_of (append_assoc (with_line_end line) (text_of lines) more ∙ append_assoc line (10 ∷ []) (text_of lines ++ more))
    ∙ lines_cut line (text_of lines ++ more) each.0 ∙ ap (λ ls. line ∷ ls) (lines_behind lines more each.1)

-- one more line
pub text_more : (lines : List (List ℕ)) (line : List ℕ) → text_of (lines ++ line ∷ []) ≡ text_of lines ++ with_line_end line
text_more [] line = append-nil (with_line_end line)
text_more (first ∷ lines) line =
    ap (λ text. with_line_end first ++ text) (text_more lines line) ∙ sym (append_assoc (with_line_end first) (text_of lines) (with_line_end line))

pub all_more : (P : List ℕ → Type 0) (lines : List (List ℕ)) (line : List ℕ) → AllByRecursion P lines → P line → AllByRecursion P (lines ++ line ∷ [])
all_more P [] line each last = (last, tt)
all_more P (first ∷ lines) line each last = (each.0, all_more P lines line each.1 last)

-- a line that was read is one line
pub one_line : (ended : Bool) (line : List ℕ) → Lacks 10 line → (ended ≡ false → 0 < length line) → lines_of (bytes_of ended line) ≡ line ∷ []
one_line true line lacks some = lines_cut line [] lacks
one_line false line lacks some = lines_last line (some refl) lacks
