use Rattle.std.specs.Prelude.{◌≡◌, ℕ, ◌<◌, ◌≤◌, true, false, List, length}
use Rattle.std.specs.List.{list_any}
use Rattle.m161_elf.specs.declared.header.ProgramHeader.{ProgramHeader}
use Rattle.m161_elf.specs.declared.segments.SegmentFaults.{SegmentFaults}
use Rattle.m161_elf.specs.Header.{e_phnum, header, is_load, segments_among}
use Rattle.m161_elf.specs.Image.{has_bad_header_table, is_larger_in_file, is_outside_file, is_outside_ram}

-- Facts about the program headers while a file is loaded.

-- which faults some of the first segments have
abbrev pub faults_among : List ℕ → ℕ → ℕ → SegmentFaults
faults_among file ram count = record {
  outside_file = list_any (is_outside_file file) (segments_among file count);
  outside_ram = list_any (is_outside_ram ram) (segments_among file count);
  larger_in_file = list_any is_larger_in_file (segments_among file count);
}

-- the facts about a segment without a fault
pub record IsSoundSegment (file : List ℕ) (ram : ℕ) (s : ProgramHeader) : Type 0 where
  pub in_file : is_outside_file file s ≡ false
  pub in_ram : is_outside_ram ram s ≡ false
  pub in_memory : is_larger_in_file s ≡ false

-- the facts about the program headers of a file without a fault
pub record IsSoundFile (file : List ℕ) (ram : ℕ) : Type 0 where
  pub header_is : 52 ≤ length file
  pub table_is : has_bad_header_table file ≡ false
  pub segments_are : (i : ℕ) → i < e_phnum file → is_load (header file i) ≡ true
      → IsSoundSegment file ram (header file i)
