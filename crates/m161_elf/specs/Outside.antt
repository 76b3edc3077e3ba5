use Rattle.std.specs.Prelude.{ℕ, Bool, not, ◌&&◌, if◌then◌else◌, position, List, Option, None, option_map}
use Rattle.m161_elf.specs.declared.header.ProgramHeader.{ProgramHeader}
use Rattle.m161_elf.specs.Header.{e_phnum, header, headers, is_load}
use Rattle.m161_elf.specs.Image.{has_bad_header_table, is_outside_ram, is_truncated}
use Rattle.m161_elf.specs.declared.outside.OutsideRam.{OutsideRam}

-- The first segment of a file that isn't in RAM. Which one is told is this project's own.

-- a program header is that of a segment to load whose memory isn't all in RAM
abbrev pub is_at_fault : ℕ → ProgramHeader → Bool
is_at_fault ram h = is_load h && is_outside_ram ram h

-- what is told of program header i
abbrev pub outside_at : List ℕ → ℕ → ℕ → OutsideRam
outside_at file ram i = record {
  header = i;
  size = (header file i).p_memsz;
  address = (header file i).p_vaddr;
  ram = ram;
}

-- the file has its header and its table of program headers
abbrev pub has_headers : List ℕ → Bool
has_headers file = not (is_truncated file) && not (has_bad_header_table file)

-- the first program header at fault, by its place among all program headers
unfoldable pub first_outside_ram : List ℕ → ℕ → Option OutsideRam
first_outside_ram file ram =
    if has_headers file
    then option_map (outside_at file ram) (position (is_at_fault ram) (headers file (e_phnum file)))
    else None
