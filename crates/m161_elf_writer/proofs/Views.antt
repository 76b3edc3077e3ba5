use Rattle.std.proofs.Common.{◌≡◌, ℕ, ◌+◌, ◌*◌, ◌^◌, ◌<◌, ◌≤◌, List, [], ◌∷◌, length, Bool, true, false, if◌then◌else◌, slice_index, refl, ◌∙◌, ap, arith}
use Rattle.std.specs.Prelude.{nat_le, nat_lt, ◌&&◌, not, ◌==◌}
use Rattle.std.specs.List.{list_any, AllByRecursion}
use Rattle.std.proofs.lemmas.Bool.Decides.{nat_tests}
use Rattle.m161_asm.specs.Segments.{ArePlaced, AreApart, IsApart}
use Rattle.m161_asm.specs.Text.{Segment, overlap}
use Rattle.m161_elf.specs.Image.{is_in_ram, is_outside_ram, place_in_ram}
use Rattle.m161_elf_writer.specs.Written.{size}
use Rattle.m161_elf_writer.specs.WrittenLaw.{are_in_both, byte_of, has_byte, hides, AreLoaded}
use Rattle.m161_elf.proofs.Sound.{neither}
use Rattle.m161_elf_writer.proofs.ReadBack.{last_value, last_value-cons, load_header, load_headers}

-- The two views of RAM, and the segments that share no address.

in_view : (ram address size : ℕ) → is_in_ram ram address size ≡ true →
    (place_in_ram address + size ≤ ram)
    × (address ≡ place_in_ram address
    + (if nat_le 0xa0000000 address then 0xa0000000 else 0x80000000))
in_view ram address size within = (grind (arith, nat_tests), grind (arith, nat_tests))

-- segments without a common address that have a byte at one physical address lie in both views
meet : (at a m b n p q base : ℕ) → a ≡ p + base → b ≡ q + base → p ≤ at → at < p + 4 * m → q ≤ at
    → at < q + 4 * n → overlap a m b n ≡ true
meet at a m b n p q base e f h i j k = grind (arith, nat_tests)

same_view : (a b : ℕ)
    → (if nat_le 0xa0000000 a then nat_lt b 0xa0000000 else nat_le 0xa0000000 b) ≡ false
    → nat_le 0xa0000000 b ≡ nat_le 0xa0000000 a
same_view a b e = grind (arith, nat_tests)

bounds : (at place size : ℕ) → (nat_le place at && nat_lt at (place + size)) ≡ true
    → (place ≤ at) × (at < place + size)
bounds at place size e = (grind (arith, nat_tests), grind (arith, nat_tests))

-- a segment's memory is RAM, by kseg0 or by kseg1
abbrev pub IsInRam : ℕ → Segment → Type 0
IsInRam ram s = is_in_ram ram s.0 (size s) ≡ true

meet_in_one : (at ram : ℕ) (s t : Segment) → IsInRam ram s → IsInRam ram t → has_byte at s ≡ true
    → has_byte at t ≡ true → are_in_both s t ≡ false
    → overlap s.0 (length s.1) t.0 (length t.1) ≡ true
meet_in_one at ram s t in_s in_t here there one =
    let p = place_in_ram s.0 in
    let q = place_in_ram t.0 in
    let first = bounds at p (size s) here in
    let second = bounds at q (size t) there in
    let view_s = (in_view ram s.0 (size s) in_s).1 in
    let view_t = (in_view ram t.0 (size t) in_t).1
    ∙ ap (λ high. q + (if high then 0xa0000000 else 0x80000000)) (same_view s.0 t.0 one) in
    meet at s.0 (length s.1) t.0 (length t.1) p q
    (if nat_le 0xa0000000 s.0 then 0xa0000000 else 0x80000000) view_s view_t first.0 first.1
    second.0 second.1

unless : (has both overlaps : Bool) → (has && both) ≡ false
    → (has ≡ true → both ≡ false → overlaps ≡ true) → overlaps ≡ false → has ≡ false
unless false both overlaps e f g = refl
unless true both overlaps e f g = absurd (let yes = f refl e in cc)

absent : (at ram : ℕ) (s t : Segment) → IsInRam ram s → IsInRam ram t → IsApart s t
    → has_byte at s ≡ true → hides at s t ≡ false → has_byte at t ≡ false
absent at ram s t in_s in_t apart here not_hidden =
    unless (has_byte at t) (are_in_both s t) (overlap s.0 (length s.1) t.0 (length t.1)) not_hidden
    (λ there one. meet_in_one at ram s t in_s in_t here there one) apart

all_absent : (at ram : ℕ) (s : Segment) (later : List Segment) → IsInRam ram s
    → AllByRecursion (IsInRam ram) later → AllByRecursion (IsApart s) later
    → has_byte at s ≡ true → list_any (hides at s) later ≡ false
    → list_any (has_byte at) later ≡ false
all_absent at ram s [] in_s in_later apart here not_hidden = refl
all_absent at ram s (t ∷ ts) in_s in_later apart here not_hidden =
    let tests = neither (hides at s t) (list_any (hides at s) ts) not_hidden in
    rw (absent at ram s t in_s in_later.0 apart.0 here tests.0)
    (all_absent at ram s ts in_s in_later.1 apart.1 here tests.1)

-- where no segment has a byte there, another value is left
none_has : (at other : ℕ) (ss : List Segment) → list_any (has_byte at) ss ≡ false
    → last_value (byte_of at) (has_byte at) ss other ≡ other
none_has at other [] none = refl
none_has at other (s ∷ ss) none =
    let tests = neither (has_byte at s) (list_any (has_byte at) ss) none in
    last_value-cons (byte_of at) (has_byte at) s ss other
    ∙ ap (λ test. last_value (byte_of at) (has_byte at) ss (if test then byte_of at s else other))
    tests.0
    ∙ none_has at other ss tests.1

pub loaded_from : (memory : List ℕ) (ram : ℕ) (other : ℕ → ℕ) (ss : List Segment)
    → length memory ≡ ram
    → ((at : ℕ) → at < ram
    → slice_index memory at ≡ last_value (byte_of at) (has_byte at) ss (other at))
    → AllByRecursion (IsInRam ram) ss → AreApart ss → AreLoaded memory ss
loaded_from memory ram other [] long e in_all apart = tt
loaded_from memory ram other (s ∷ later) long e in_all apart =
    let next : ℕ → ℕ = λ at. if has_byte at s then byte_of at s else other at in
    let rest : (at : ℕ) → at < ram
    → slice_index memory at ≡ last_value (byte_of at) (has_byte at) later (next at) =
    λ at within. e at within ∙ last_value-cons (byte_of at) (has_byte at) s later (other at) in
    let within : (at : ℕ) → has_byte at s ≡ true → at < ram =
    λ at has. omega (
      arith,
      (bounds at (place_in_ram s.0) (size s) has).1,
      (in_view ram s.0 (size s) in_all.0).0,
    ) in
    let here : (at : ℕ) → has_byte at s ≡ true → list_any (hides at s) later ≡ false
    → slice_index memory at ≡ byte_of at s =
    λ at has not_hidden. rest at (within at has)
    ∙ none_has at (next at) later
    (all_absent at ram s later in_all.0 in_all.1 apart.0 has not_hidden)
    ∙ ap (λ test. if test then byte_of at s else other at) has in (
      λ at has. (omega (arith, within at has, long), here at has),
      loaded_from memory ram next later
          long rest in_all.1 apart.1,
    )

not_outside : (n : ℕ) (test : Bool) → 0 < n → (not (4 * n == 0) && not test) ≡ false → test ≡ true
not_outside n true some e = refl
not_outside n false some e = absurd (grind (arith, nat_tests))

pub in_ram_from : (ram offset : ℕ) (ss : List Segment) → ArePlaced ss
    → list_any (is_outside_ram ram) (load_headers offset ss) ≡ false
    → AllByRecursion (IsInRam ram) ss
in_ram_from ram offset [] placed none = tt
in_ram_from ram offset (s ∷ ss) placed none =
    let rest = load_headers (offset + size s) ss in
    let tests = neither (is_outside_ram ram (load_header offset s))
    (list_any (is_outside_ram ram) rest) none in (
      not_outside (length s.1) (is_in_ram ram s.0 (size s)) placed.0.0 tests.0,
      in_ram_from ram
          (offset + size s) ss placed.1 tests.1,
    )

pub low_from : (ss : List Segment) → ArePlaced ss → AllByRecursion (λ s. s.0 < 2 ^ 32) ss
low_from [] placed = tt
low_from (s ∷ ss) placed = (omega (arith, placed.0), low_from ss placed.1)
