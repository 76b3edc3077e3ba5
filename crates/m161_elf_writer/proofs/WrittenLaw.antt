use Rattle.std.proofs.Common.{◌≡◌, ℕ, ◌+◌, ◌*◌, ◌^◌, ◌<◌, ◌≤◌, List, [], ◌∷◌, ◌++◌, length, false, slice_index, ◌∙◌, arith}
use Rattle.std.specs.List.{list_any, AllByRecursion, AllByRecursion-prop}
use Rattle.std.proofs.Math.Bridge.{le_prop}
use Rattle.std.proofs.Math.Logic.{∥∥₁_elim, ∥∥₁_map}
use Rattle.std.proofs.Math.Nat.{ℕ_set}
use Rattle.std.proofs.lemmas.List.{length-map}
use Rattle.m161_asm.specs.Segments.{segment_seen, segments_seen, ArePlaced, AreApart}
use Rattle.m161_asm.specs.Text.{Segment}
use Rattle.m161_elf.specs.Image.{is_outside_ram}
use Rattle.m161_elf_writer.specs.Written.{elf_bytes, segment_bytes, segment_headers}
use Rattle.m161_elf_writer.specs.WrittenLaw.{byte_left_by, AreLoaded, WrittenIsLoaded}
use Rattle.m161_elf_writer.proofs.ReadBack.{entry_read, load_headers, memory_read, segments_read}
use Rattle.m161_elf.proofs.Sound.{in_ram}
use Rattle.m161_elf_writer.proofs.Views.{in_ram_from, loaded_from, low_from, IsInRam}

-- A program's file, loaded.

AreLoaded-prop : (memory : List ℕ) (ss : List Segment) → IsProp (AreLoaded memory ss)
AreLoaded-prop memory [] = hlevel
AreLoaded-prop memory (s ∷ later) = hlevel (le_prop, ℕ_set, AreLoaded-prop memory later)

pub all_low : (ss : List Segment) → ∥ ArePlaced ss ∥₁ → AllByRecursion (λ s. s.0 < 2 ^ 32) ss
all_low ss placed =
    ∥∥₁_elim placed (AllByRecursion-prop (λ s. s.0 < 2 ^ 32) (λ s. le_prop) ss) (low_from ss)

all_in_ram : (ram offset : ℕ) (ss : List Segment) → ∥ ArePlaced ss ∥₁
    → list_any (is_outside_ram ram) (load_headers offset ss) ≡ false
    → ∥ AllByRecursion (IsInRam ram) ss ∥₁
all_in_ram ram offset ss placed none = ∥∥₁_map placed (λ all. in_ram_from ram offset ss all none)

all_loaded : (memory : List ℕ) (ram : ℕ) (ss : List Segment) → length memory ≡ ram
    → ((at : ℕ) → at < ram → slice_index memory at ≡ byte_left_by ss at)
    → ∥ AllByRecursion (IsInRam ram) ss ∥₁ → ∥ AreApart ss ∥₁ → AreLoaded memory ss
all_loaded memory ram ss long bytes in_all apart =
    ∥∥₁_elim in_all (AreLoaded-prop memory ss)
    (λ all. ∥∥₁_elim apart (AreLoaded-prop memory ss)
    (λ each. loaded_from memory ram (λ at. 0) ss long bytes all each))

pub written : WrittenIsLoaded
written p ram entry memory fits none image =
    let ss = segments_seen p.segments.items in
    let few : length ss ≤ 1024 = omega (arith, p.count, length-map p.segments.items segment_seen) in
    let low = all_low ss p.placed in
    let first = 52 + 32 * length ss in
    let bytes : (at : ℕ) → at < ram → slice_index memory at ≡ byte_left_by ss at =
    λ at within. image.bytes_are at within ∙ memory_read p.entry ss at few low p.words in
    let in_all = all_in_ram ram first ss p.placed
    (rw (segments_read p.entry ss few low p.words) at (in_ram (elf_bytes p.entry ss) ram none))
    in (
      image.entry_is
          ∙ entry_read p.entry (length ss)
          (segment_headers first ss ++ segment_bytes ss) fits,
      bytes,
      all_loaded memory ram ss
          image.size_is bytes in_all p.apart,
    )
