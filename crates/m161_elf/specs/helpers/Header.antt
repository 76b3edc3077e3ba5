use Rattle.std.specs.Prelude.{ℕ, if◌then◌else◌, List, Option, None, Some}
use Rattle.m161_elf.specs.declared.header.ProgramHeader.{ProgramHeader}
use Rattle.m161_elf.specs.Header.{header, is_load}

-- program header i, if it is that of a segment to load
abbrev pub segment_at : List ℕ → ℕ → Option ProgramHeader
segment_at file i = if is_load (header file i) then Some (header file i) else None
