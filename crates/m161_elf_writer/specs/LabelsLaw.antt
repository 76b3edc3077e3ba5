use Rattle.std.specs.Prelude.{◌≡◌, ℕ, ◌^◌, ◌<◌, Bool, true, nat_lt, List, length, map, filter}
use Rattle.std.specs.List.{list_all, AllByRecursion}
use Rattle.m161_asm.specs.declared.program.Program.{Program}
use Rattle.m161_asm.specs.Seen.{symbols_seen}
use Rattle.m161_asm.specs.Segments.{segments_seen}
use Rattle.m161_elf.specs.Image.{first_fault, IsImage}
use Rattle.m161_elf.specs.Symbols.{is_shown, name_bytes, symbols_in}
use Rattle.m161_elf_writer.specs.Labels.{file_with_symbols}
use Rattle.m161_elf_writer.specs.Written.{elf_bytes}

-- A program's file with symbols, loaded.

-- the file without symbols, and with them
abbrev pub plain : Program → List ℕ
plain p = elf_bytes p.entry (segments_seen p.segments.items)

abbrev pub labelled : Program → List ℕ
labelled p = file_with_symbols p.entry (segments_seen p.segments.items) (symbols_seen p.symbols)

-- both have the same first fault and the same image
abbrev pub LoadsAlike : Type 0
LoadsAlike =
    (p : Program) (ram : ℕ) → p.entry < 2 ^ 32 → (first_fault (labelled p) ram ≡ first_fault (plain p) ram)
    × ((entry : ℕ) (memory : List ℕ) → IsImage (plain p) ram entry memory
    → IsImage (labelled p) ram entry memory)

-- The symbols that are read from such a file.

-- the names and values of the symbols that a file lists
abbrev pub listed_in : List ℕ → List (List ℕ × ℕ)
listed_in file = map (λ s. (name_bytes file s, s.value)) (symbols_in file)

-- a label as texts have it: no byte of its name is zero, and its address is a word
abbrev pub IsLabel : List ℕ × ℕ → Type 0
IsLabel l = (list_all (nat_lt 0) l.0 ≡ true) × (l.1 < 2 ^ 32)

-- a label whose name is listed: 1 to 255 visible bytes
abbrev pub is_label_shown : List ℕ × ℕ → Bool
is_label_shown l = is_shown l.0

-- the symbols are the labels whose names are listed, in their order, unless they or the file are
-- more than can be read
abbrev pub LabelsAreListed : Type 0
LabelsAreListed =
    (p : Program) → AllByRecursion IsLabel (symbols_seen p.symbols)
    → length (symbols_seen p.symbols) < 2 ^ 20 → length (labelled p) < 2 ^ 32
    → listed_in (labelled p) ≡ filter is_label_shown (symbols_seen p.symbols)
