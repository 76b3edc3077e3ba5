use Rattle.std.specs.Prelude.{◌≡◌, ℕ, ◌+◌, ◌-◌, ◌*◌, ◌%◌, ◌^◌, ◌<◌, Bool, false, not, ◌==◌, nat_lt, nat_le, nat_eq, ◌&&◌, ◌||◌, if◌then◌else◌, min, List, [], ◌∷◌, length, find, reverse, slice_index, Option, None, Some, Result, Ok, Err}
use Rattle.std.specs.List.{list_any, starts_with}
use Rattle.std.specs.Option.{option_map_or}
use Rattle.m161_isa.specs.Choice.{first_answer}
use Rattle.m161_isa.specs.Address.{unmapped}
use Rattle.m161_elf.specs.declared.header.ProgramHeader.{ProgramHeader}
use Rattle.m161_elf.specs.declared.image.Image.{Image}
use Rattle.m161_elf.specs.declared.image.LoadError.{LoadError}
use Rattle.m161_elf.specs.declared.image.LoadError.TheVariants as fault
use Rattle.m161_elf.specs.Header.{e_type, e_machine, e_entry, e_phoff, e_phentsize, e_phnum, segments}

-- The image of a file, and the faults for which a file is refused. ELF32 specification; the order
-- of the faults, and that a later segment's bytes win, are this project's own.

-- `size` bytes from an address on are in RAM, all of them by kseg0 or all by kseg1
abbrev pub is_in_ram : ℕ → ℕ → ℕ → Bool
is_in_ram ram address size =
    option_map_or (λ at. nat_le (at + size) (min ram (2 ^ 29))) (unmapped address) false

-- the physical address of an address; 0 for one outside kseg0 and kseg1, which no segment with
-- memory has
abbrev pub place_in_ram : ℕ → ℕ
place_in_ram address = option_map_or (λ at. at) (unmapped address) 0

-- the faults, in their order

abbrev pub is_truncated : List ℕ → Bool
is_truncated file = nat_lt (length file) 52

-- 7f, "ELF", 32 bits, big-endian, version 1
abbrev pub is_not_elf32_big : List ℕ → Bool
is_not_elf32_big file =
    not (starts_with nat_eq file (0x7f ∷ 0x45 ∷ 0x4c ∷ 0x46 ∷ 1 ∷ 2 ∷ 1 ∷ []))

abbrev pub is_not_executable : List ℕ → Bool
is_not_executable file = not (e_type file == 2)

abbrev pub is_not_mips : List ℕ → Bool
is_not_mips file = not (e_machine file == 8)

-- a file without program headers needs no table
abbrev pub has_bad_header_table : List ℕ → Bool
has_bad_header_table file =
    not (e_phnum file == 0)
    && (not (e_phentsize file == 32) || nat_lt (length file) (e_phoff file + 32 * e_phnum file))

abbrev pub is_outside_file : List ℕ → ProgramHeader → Bool
is_outside_file file s = not (s.p_filesz == 0) && nat_lt (length file) (s.p_offset + s.p_filesz)

abbrev pub is_outside_ram : ℕ → ProgramHeader → Bool
is_outside_ram ram s = not (s.p_memsz == 0) && not (is_in_ram ram s.p_vaddr s.p_memsz)

abbrev pub is_larger_in_file : ProgramHeader → Bool
is_larger_in_file s = nat_lt s.p_memsz s.p_filesz

abbrev pub has_bad_entry : List ℕ → ℕ → Bool
has_bad_entry file ram = not (e_entry file % 4 == 0) || not (is_in_ram ram (e_entry file) 1)

-- the first fault that holds, each tested over all segments before the next fault
unfoldable pub first_fault : List ℕ → ℕ → Option LoadError
first_fault file ram =
    first_answer (
    (is_truncated file, fault.Truncated)
    ∷ (is_not_elf32_big file, fault.NotElf32Big)
    ∷ (is_not_executable file, fault.NotExecutable)
    ∷ (is_not_mips file, fault.NotMips)
    ∷ (has_bad_header_table file, fault.BadHeaderTable)
    ∷ (list_any (is_outside_file file) (segments file), fault.SegmentOutsideFile)
    ∷ (list_any (is_outside_ram ram) (segments file), fault.SegmentOutsideRam)
    ∷ (list_any is_larger_in_file (segments file), fault.FileLargerThanMemory)
    ∷ (has_bad_entry file ram, fault.BadEntry)
    ∷ []
    )

-- the segment has a byte at this physical address
abbrev pub covers : ℕ → ProgramHeader → Bool
covers at s = nat_le (place_in_ram s.p_vaddr) at && nat_lt at (place_in_ram s.p_vaddr + s.p_memsz)

-- that byte: the file's, or zero past the file's part
abbrev pub segment_byte : List ℕ → ℕ → ProgramHeader → ℕ
segment_byte file at s =
    if nat_lt at (place_in_ram s.p_vaddr + s.p_filesz)
    then slice_index file (s.p_offset + (at - place_in_ram s.p_vaddr))
    else 0

-- the byte at a physical address after loading: that of the last segment that has a byte there, or
-- 0
abbrev pub byte_left : List ℕ → List ProgramHeader → ℕ → ℕ
byte_left file loaded at =
    option_map_or (segment_byte file at) (find (covers at) (reverse loaded)) 0

-- the image of a file in `ram` bytes of RAM: its entry and the bytes
pub record IsImage (file : List ℕ) (ram entry : ℕ) (bytes : List ℕ) : Type 0 where
  pub entry_is : entry ≡ e_entry file
  pub size_is : length bytes ≡ ram
  pub bytes_are : (at : ℕ) → at < ram → slice_index bytes at ≡ byte_left file (segments file) at

-- the result of `load`, by the first fault: that fault; or without a fault the image, or that
-- memory was refused
abbrev pub Loads : List ℕ → ℕ → Option LoadError → Result Image LoadError → Type 0
Loads file ram (Some first) (Ok image) = ⊥
Loads file ram (Some first) (Err e) = e ≡ first
Loads file ram None (Ok image) = IsImage file ram image.entry image.bytes.items
Loads file ram None (Err e) = e ≡ fault.NoMemory
