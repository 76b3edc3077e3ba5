use Rattle.std.specs.Prelude.{ℕ, Bool, false, ◌==◌, ◌||◌, nat_lt, if◌then◌else◌, List, [], ◌∷◌, length, replicate, slice_index_or, slice_set}
use Rattle.s161_texts.specs.declared.shared.Mark.{Mark}
use Rattle.s161_texts.specs.declared.shared.Mark.TheVariants.{Untouched, One, Several}
use Rattle.s161_texts.specs.declared.shared.SharedWords.{SharedWords}
use Rattle.s161_texts.specs.Shared.{Touch}

-- What is noted of each word of RAM.

-- after one touch more
abbrev pub mark_after : Mark → ℕ → Bool → Mark
mark_after Untouched p stores = One p stores
mark_after (One q stored) p stores =
    if p == q then One q (stored || stores) else Several (stored || stores)
mark_after (Several stored) p stores = Several (stored || stores)

-- two processors touched the word, and one stored it
abbrev pub is_mark_shared : Mark → Bool
is_mark_shared Untouched = false
is_mark_shared (One p stored) = false
is_mark_shared (Several stored) = stored

abbrev pub mark_at : List Mark → ℕ → Mark
mark_at marks word = slice_index_or marks word Untouched

-- the marks after a touch; of a word that isn't there nothing is noted
abbrev pub marked : List Mark → Touch → List Mark
marked marks t =
    if nat_lt t.word (length marks)
    then slice_set marks t.word (mark_after (mark_at marks t.word) t.processor t.stores)
    else marks

abbrev pub marks_after : List Mark → List Touch → List Mark
marks_after marks [] = marks
marks_after marks (t ∷ ts) = marks_after (marked marks t) ts

abbrev pub no_marks : ℕ → List Mark
no_marks words = replicate words Untouched

abbrev pub is_marked : SharedWords → ℕ → Bool
is_marked shared word = is_mark_shared (mark_at shared.marks.items word)
