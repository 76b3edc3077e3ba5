use Rattle.std.specs.Prelude.{◌≡◌, ℕ, Bool, not, ◌==◌, List, map, filter, Option, None, Some, Result, Ok, Err, Vec}
use Rattle.std.specs.declared.alloc.Global.{Global}
use Rattle.m161_elf.specs.declared.header.ProgramHeader.{ProgramHeader}
use Rattle.m161_elf.specs.declared.image.LoadError.{LoadError}
use Rattle.m161_elf.specs.declared.image.LoadError.TheVariants.{NoMemory}
use Rattle.m161_elf.specs.declared.span.Span.{Span}
use Rattle.m161_elf.specs.Header.{e_phnum, segments_among}

-- The addresses at which a file has bytes.

-- a segment has bytes in the file
abbrev pub has_bytes : ProgramHeader → Bool
has_bytes s = not (s.p_filesz == 0)

-- the span of a segment's bytes in the file
abbrev pub span_of : ProgramHeader → Span
span_of s = record { address = s.p_vaddr; size = s.p_filesz }

-- the spans of the first program headers, in the table's order
abbrev pub spans_among : List ℕ → ℕ → List Span
spans_among file count = map span_of (filter has_bytes (segments_among file count))

-- the spans, in the table's order
abbrev pub spans : List ℕ → List Span
spans file = spans_among file (e_phnum file)

-- the result of `loads`, by the first fault: that fault; or without a fault the spans, or that
-- memory was refused
abbrev pub Lists : List ℕ → Option LoadError → Result (Vec Span Global) LoadError → Type 0
Lists file (Some first) (Ok listed) = ⊥
Lists file (Some first) (Err e) = e ≡ first
Lists file None (Ok listed) = listed.items ≡ spans file
Lists file None (Err e) = e ≡ NoMemory
