use Rattle.std.specs.Prelude.{◌≡◌, ℕ, ◌+◌, ◌-◌, ◌^◌, ◌<◌, Bool, true, false, not, nat_lt, nat_le, ◌&&◌, if◌then◌else◌, List, [], ◌∷◌, length, find, reverse, slice_index, None}
use Rattle.std.specs.List.{list_any}
use Rattle.std.specs.Option.{option_map_or}
use Rattle.m161_asm.specs.declared.program.Program.{Program}
use Rattle.m161_asm.specs.Segments.{segments_seen}
use Rattle.m161_asm.specs.Text.{Segment}
use Rattle.m161_elf.specs.Image.{first_fault, is_in_ram, place_in_ram, IsImage}
use Rattle.m161_isa.specs.Choice.{first_answer}
use Rattle.m161_elf.specs.declared.image.LoadError.TheVariants as fault
use Rattle.m161_elf_writer.specs.Written.{elf_bytes, size, words_bytes}

-- A program's file, loaded.

-- a segment has a byte at this physical address
abbrev pub has_byte : ℕ → Segment → Bool
has_byte at s = nat_le (place_in_ram s.0) at && nat_lt at (place_in_ram s.0 + size s)

-- that byte
abbrev pub byte_of : ℕ → Segment → ℕ
byte_of at s = slice_index (words_bytes s.1) (at - place_in_ram s.0)

-- the byte at a physical address after loading: that of the last segment that has a byte there, or
-- 0
abbrev pub byte_left_by : List Segment → ℕ → ℕ
byte_left_by ss at = option_map_or (byte_of at) (find (has_byte at) (reverse ss)) 0

-- one of two segments is in kseg0 and the other in kseg1
abbrev pub are_in_both : Segment → Segment → Bool
are_in_both s t = if nat_le 0xa0000000 s.0 then nat_lt t.0 0xa0000000 else nat_le 0xa0000000 t.0

-- a segment t has a byte at this physical address too, through the other of kseg0 and kseg1 than s
abbrev pub hides : ℕ → Segment → Segment → Bool
hides at s t = has_byte at t && are_in_both s t

-- each byte of each segment is within memory and at its place, unless a later segment hides it
abbrev pub AreLoaded : List ℕ → List Segment → Type 0
AreLoaded memory [] = Unit {0}
AreLoaded memory (s ∷ later) =
    ((at : ℕ) → has_byte at s ≡ true
    → (at < length memory)
    × (list_any (hides at s) later ≡ false → slice_index memory at ≡ byte_of at s))
    × AreLoaded memory later

-- the image of a program's file, if it has no fault, has the program's entry and its words
abbrev pub WrittenIsLoaded : Type 0
WrittenIsLoaded =
    (p : Program) (ram entry : ℕ) (memory : List ℕ) → p.entry < 2 ^ 32
    → first_fault (elf_bytes p.entry (segments_seen p.segments.items)) ram ≡ None
    → IsImage (elf_bytes p.entry (segments_seen p.segments.items)) ram entry memory
    → (entry ≡ p.entry)
    × ((at : ℕ) → at < ram
    → slice_index memory at ≡ byte_left_by (segments_seen p.segments.items) at)
    × AreLoaded memory (segments_seen p.segments.items)

-- a segment isn't all in RAM by kseg0, or all in RAM by kseg1
abbrev pub lies_outside : ℕ → Segment → Bool
lies_outside ram s = not (is_in_ram ram s.0 (size s))

-- an entry isn't in RAM by kseg0 or kseg1; a program's is a multiple of 4
abbrev pub is_entry_outside : ℕ → ℕ → Bool
is_entry_outside ram entry = not (is_in_ram ram entry 1)

-- the file of a program has no faults other than these, in this order
abbrev pub WrittenHasFewFaults : Type 0
WrittenHasFewFaults =
    (p : Program) (ram : ℕ) → p.entry < 2 ^ 32
    → first_fault (elf_bytes p.entry (segments_seen p.segments.items)) ram
    ≡ first_answer (
    (list_any (lies_outside ram) (segments_seen p.segments.items), fault.SegmentOutsideRam)
    ∷ (is_entry_outside ram p.entry, fault.BadEntry)
    ∷ []
    )
