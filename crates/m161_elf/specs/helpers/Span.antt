use Rattle.std.specs.Prelude.{ℕ, ◌&&◌, if◌then◌else◌, List, Option, None, Some}
use Rattle.m161_elf.specs.declared.span.Span.{Span}
use Rattle.m161_elf.specs.Header.{header, is_load}
use Rattle.m161_elf.specs.Span.{has_bytes, span_of}

-- what program header i adds to the spans
abbrev pub span_at : List ℕ → ℕ → Option Span
span_at file i =
    if is_load (header file i) && has_bytes (header file i) then Some (span_of (header file i))
    else None
