use Rattle.std.proofs.Common.{◌≡◌, ℕ, ◌+◌, ◌<◌, ◌≤◌, Bool, true, false, if◌then◌else◌, cond, List, ◌∷◌, length, map, Option, None, Some, Ok, refl, sym, arith, zero, suc, inl, inr}
use Rattle.std.specs.Prelude.{filter, ◌||◌}
use Rattle.std.specs.List.{list_any, range_with_len}
use Rattle.std.proofs.lemmas.Bool.{cases_lt}
use Rattle.std.proofs.lemmas.Bool.Decides.{nat_tests}
use Rattle.m161_elf.specs.declared.header.ProgramHeader.{ProgramHeader}
use Rattle.m161_elf.specs.declared.image.Image.{Image}
use Rattle.m161_elf.specs.declared.image.LoadError.{LoadError}
use Rattle.m161_elf.specs.Header.{e_phnum, header, is_load, segments}
use Rattle.m161_elf.specs.helpers.Header.{segment_at}
use Rattle.m161_elf.specs.Image.{first_fault, IsImage, Loads, has_bad_header_table, is_larger_in_file, is_not_elf32_big, is_not_executable, is_not_mips, is_outside_file, is_outside_ram, is_truncated}
use Rattle.m161_elf.specs.helpers.Sound.{IsSoundFile, IsSoundSegment}

-- where no fault is found, the first test fails, and the rest finds none
later : {E : Type 0} (test : Bool) (e : E) (rest : Option E)
    → (if test then Some e else rest) ≡ None → (test ≡ false) × (rest ≡ None)
later true e rest none = absurd (cc)
later false e rest none = (refl, none)

pub neither : (a b : Bool) → (a || b) ≡ false → (a ≡ false) × (b ≡ false)
neither true b none = absurd (cc)
neither false b none = (refl, none)

none_after : {X : Type 0} (test : X → Bool) (x : X) (xs : List X) (kept : Bool)
    → list_any test (cond kept (x ∷ xs) xs) ≡ false → list_any test xs ≡ false
none_after test x xs true none = (neither (test x) (list_any test xs) none).1
none_after test x xs false none = none

none_first : {X : Type 0} (test : X → Bool) (x : X) (xs : List X) (kept : Bool)
    → list_any test (cond kept (x ∷ xs) xs) ≡ false → kept ≡ true → test x ≡ false
none_first test x xs true none is = (neither (test x) (list_any test xs) none).0
none_first test x xs false none is = absurd (cc)

-- a test that no segment passes fails at each header of a segment
none_among : {X : Type 0} (test kind : X → Bool) (f : ℕ → X) (from count i : ℕ)
    → list_any test (filter kind (map f (range_with_len from count))) ≡ false
    → from ≤ i → i < from + count → kind (f i) ≡ true → test (f i) ≡ false
none_among test kind f from zero i none after before load = absurd (omega arith)
none_among test kind f from (suc n) i none after before load =
    let rest = filter kind (map f (range_with_len (from + 1) n)) in
    elim (cases_lt from i) [
      | inl above ↦
          none_among test kind f (from + 1) n i (none_after test (f from) rest (kind (f from)) none)
          (omega arith) (omega arith) load
      | inr below ↦
          let here : i ≡ from = omega arith in
          rw here (none_first test (f from) rest (kind (f from)) none (rw here at load))
    ]

long_enough : (file : List ℕ) → is_truncated file ≡ false → 52 ≤ length file
long_enough file long = grind (arith, nat_tests)

pub is_sound : (file : List ℕ) (ram : ℕ) → first_fault file ram ≡ None → IsSoundFile file ram
unfolding first_fault
is_sound file ram none =
    let first = later (is_truncated file) _ _ none in
    let second = (later (is_not_elf32_big file) _ _ first.1).1 in
    let third = (later (is_not_executable file) _ _ second).1 in
    let fourth = (later (is_not_mips file) _ _ third).1 in
    let fifth = later (has_bad_header_table file) _ _ fourth in
    let sixth = later (list_any (is_outside_file file) (segments file)) _ _ fifth.1 in
    let seventh = later (list_any (is_outside_ram ram) (segments file)) _ _ sixth.1 in
    let eighth = later (list_any is_larger_in_file (segments file)) _ _ seventh.1 in
    let long : is_truncated file ≡ false = first.0 in
    record {
      header_is = long_enough file long;
      table_is = fifth.0;
      segments_are = λ i here load. record {
        in_file =
            none_among (is_outside_file file) is_load (header file) 0 (e_phnum file) i sixth.0
            (omega arith) (omega arith) load;
        in_ram =
            none_among (is_outside_ram ram) is_load (header file) 0 (e_phnum file) i seventh.0
            (omega arith) (omega arith) load;
        in_memory =
            none_among is_larger_in_file is_load (header file) 0 (e_phnum file) i eighth.0
            (omega arith) (omega arith) load;
      };
    }

pub in_ram : (file : List ℕ) (ram : ℕ) → first_fault file ram ≡ None
    → list_any (is_outside_ram ram) (segments file) ≡ false
unfolding first_fault
in_ram file ram none =
    let first = later (is_truncated file) _ _ none in
    let second = (later (is_not_elf32_big file) _ _ first.1).1 in
    let third = (later (is_not_executable file) _ _ second).1 in
    let fourth = (later (is_not_mips file) _ _ third).1 in
    let fifth = later (has_bad_header_table file) _ _ fourth in
    let sixth = later (list_any (is_outside_file file) (segments file)) _ _ fifth.1 in
    (later (list_any (is_outside_ram ram) (segments file)) _ _ sixth.1).0

pub found_where : {X : Type 0} (test : Bool) (x y : X) → Some y ≡ (if test then Some x else None)
    → (test ≡ true) × (x ≡ y)
found_where true x y found = (refl, cc)
found_where false x y found = absurd (cc)

-- what holds of a segment that is found
pub sound_at : (file : List ℕ) (ram i : ℕ) (s : ProgramHeader) → IsSoundFile file ram
    → i < e_phnum file → Some s ≡ segment_at file i → IsSoundSegment file ram s
sound_at file ram i s sound here found =
    let where_found = found_where (is_load (header file i)) (header file i) s found in
    rw (← where_found.1) (sound.segments_are i here where_found.0)

-- No fault holds where none is found.
pub no_fault : (found first : Option LoadError) → ((e : LoadError) → found ≡ Some e → ⊥)
    → found ≡ first → first ≡ None
no_fault (Some e) first not is = absurd (not e refl)
no_fault None first not is = sym is

-- An image is the answer where no fault holds.
pub loads : (file : List ℕ) (ram : ℕ) (first : Option LoadError) (image : Image) → first ≡ None
    → IsImage file ram image.entry image.bytes.items → Loads file ram first (Ok image)
loads file ram (Some e) image none is = absurd (cc)
loads file ram None image none is = is
