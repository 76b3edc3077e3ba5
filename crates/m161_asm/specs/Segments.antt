use Rattle.std.specs.Prelude.{◌≡◌, ℕ, ◌+◌, ◌*◌, ◌%◌, ◌^◌, ◌≤◌, ◌<◌, false, List, [], ◌∷◌, map, length}
use Rattle.std.specs.List.{AllByRecursion}
use Rattle.m161_asm.specs.declared.program.Segment.{Segment as CodeSegment}
use Rattle.m161_asm.specs.Text.{Segment, overlap}

-- The segments of a program.

abbrev pub segment_seen : CodeSegment → Segment
segment_seen s = (s.address, s.words.items)

abbrev pub segments_seen : List CodeSegment → List Segment
segments_seen ss = map segment_seen ss

-- how many words they have
abbrev pub word_count : List Segment → ℕ
word_count [] = 0
word_count (s ∷ ss) = length s.1 + word_count ss

-- a segment has at least one word, begins at a multiple of 4 and ends by the end of all addresses
abbrev pub IsPlaced : Segment → Type 0
IsPlaced s = (0 < length s.1) × (s.0 % 4 ≡ 0) × (s.0 + 4 * length s.1 ≤ 2 ^ 32)

abbrev pub ArePlaced : List Segment → Type 0
ArePlaced ss = AllByRecursion IsPlaced ss

-- no two of them have an address in common
abbrev pub IsApart : Segment → Segment → Type 0
IsApart s t = overlap s.0 (length s.1) t.0 (length t.1) ≡ false

abbrev pub AreApart : List Segment → Type 0
AreApart [] = Unit {0}
AreApart (s ∷ ss) = AllByRecursion (IsApart s) ss × AreApart ss

-- each symbol's address is a multiple of 4
abbrev pub AreAligned : List (List ℕ × ℕ) → Type 0
AreAligned symbols = AllByRecursion (λ symbol. symbol.1 % 4 ≡ 0) symbols
