use Rattle.std.proofs.Common.{◌≡◌, ◌≢◌, ◌∙◌, refl, sym, ap, subst, ℕ, ◌+◌, ◌-◌, ◌*◌, ◌/◌, ◌%◌, ◌^◌, ◌≤◌, Bool, true, false, List, length, get_or, set, Option, None, Some, Result, Ok, Err, arith, get_or-set_other}
use Rattle.std.specs.Prelude.{IfOk, not, nat_le, nat_lt, ◌==◌, ◌||◌, if◌then◌else◌, slice_get}
use Rattle.std.proofs.lemmas.Bool.Decides.{nat_tests}
use Rattle.std.proofs.lemmas.List.{length-set}
use Rattle.m161_isa.specs.Address.{unmapped}
use Rattle.m161_ram.specs.Word.{with_half, with_word, word_at}
use Rattle.m161_tlb.specs.declared.row.Row.{Row}
use Rattle.m161_tlb.specs.Rows.{find_row}
use Rattle.m161_cop0.specs.Control.{identifier_of}
use Rattle.m161_cpu.specs.Processor.{Processor}
use Rattle.m161_cpu.specs.Scene.{Store, and_then, apply_part, byte_to, half_to, result_map, stored_by, with_store, word_to}
use Rattle.m161_cpu.specs.Translation.{address_error, bus_error, by_row, by_segment, in_ram, is_misaddressed, physical, physical_at, reach, reach_word_of, through_row, translate}

-- A store to RAM is within one word, and leaves the other words as they were.

-- half-words and words are aligned
abbrev pub IsAligned : Option Store → Type 0
IsAligned None = Unit {0}
IsAligned (Some (byte_to at byte)) = Unit {0}
IsAligned (Some (half_to at half)) = at % 2 ≡ 0
IsAligned (Some (word_to at word)) = at % 4 ≡ 0

-- Results.

no_ok : {A E X : Type 0} (e : E) (y : A) → ◌≡◌ {A = Result A E} (Err e) (Ok y) → X
no_ok e y h = absurd (cc)

both_ok : {A B E : Type 0} (r : Result A E) (f : A → Result B E) (y : B) → and_then r f ≡ Ok y → (x : A) × (r ≡ Ok x) × (f x ≡ Ok y)
both_ok (Ok x) f y h = (x, refl, h)
both_ok (Err e) f y h = no_ok e y h

of_mapped : {A B E : Type 0} (P : B → Type 0) (f : A → B) (r : Result A E) (y : B) → IfOk r (λ x. P (f x)) → result_map f r ≡ Ok y → P y
of_mapped P f (Ok x) y holds h = let is : f x ≡ y = cc in subst P is holds
of_mapped P f (Err e) y holds h = no_ok e y h

-- A physical address is aligned as its address is: to 2 or to 4.

pub record Keeps (width : ℕ) : Type 0 where
  pages : (f a : ℕ) → a % width ≡ 0 → (f * 2 ^ 12 + a % 2 ^ 12) % width ≡ 0
  cached : (a : ℕ) → 0x80000000 ≤ a → a % width ≡ 0 → (a - 0x80000000) % width ≡ 0
  uncached : (a : ℕ) → 0xa0000000 ≤ a → a % width ≡ 0 → (a - 0xa0000000) % width ≡ 0

pages_2 : (f a : ℕ) → a % 2 ≡ 0 → (f * 2 ^ 12 + a % 2 ^ 12) % 2 ≡ 0
pages_2 f a h = omega arith

pages_4 : (f a : ℕ) → a % 4 ≡ 0 → (f * 2 ^ 12 + a % 2 ^ 12) % 4 ≡ 0
pages_4 f a h = omega arith

cached_2 : (a : ℕ) → 0x80000000 ≤ a → a % 2 ≡ 0 → (a - 0x80000000) % 2 ≡ 0
cached_2 a le h = omega arith

cached_4 : (a : ℕ) → 0x80000000 ≤ a → a % 4 ≡ 0 → (a - 0x80000000) % 4 ≡ 0
cached_4 a le h = omega arith

uncached_2 : (a : ℕ) → 0xa0000000 ≤ a → a % 2 ≡ 0 → (a - 0xa0000000) % 2 ≡ 0
uncached_2 a le h = omega arith

uncached_4 : (a : ℕ) → 0xa0000000 ≤ a → a % 4 ≡ 0 → (a - 0xa0000000) % 4 ≡ 0
uncached_4 a le h = omega arith

pub halves : Keeps 2
halves = record { pages = pages_2; cached = cached_2; uncached = uncached_2 }

pub words : Keeps 4
words = record { pages = pages_4; cached = cached_4; uncached = uncached_4 }

-- without the TLB
of_segment : (low mid high : Bool) (width address x : ℕ) → Keeps width → nat_lt address 0x80000000 ≡ low → nat_lt address 0xa0000000 ≡ mid →
    (if low then None else if mid then Some (address - 0x80000000) else if high then Some (address - 0xa0000000) else None) ≡ Some x
    → address % width ≡ 0 → x % width ≡ 0
of_segment true mid high width address x k low_is mid_is h al = absurd (let bad : ◌≡◌ {A = Option ℕ} None (Some x) = h in cc)
of_segment false true high width address x k low_is mid_is h al =
    let le : 0x80000000 ≤ address = grind (arith, nat_tests, low_is) in
    let is : address - 0x80000000 ≡ x = cc in
    ap (λ n. n % width) (sym is) ∙ k.cached address le al
of_segment false false true width address x k low_is mid_is h al =
    let le : 0xa0000000 ≤ address = grind (arith, nat_tests, mid_is) in
    let is : address - 0xa0000000 ≡ x = cc in
    ap (λ n. n % width) (sym is) ∙ k.uncached address le al
of_segment false false false width address x k low_is mid_is h al = absurd (let bad : ◌≡◌ {A = Option ℕ} None (Some x) = h in cc)

of_unmapped : (width address x : ℕ) → Keeps width → unmapped address ≡ Some x → address % width ≡ 0 → x % width ≡ 0
of_unmapped width address x k h al =
    of_segment (nat_lt address 0x80000000) (nat_lt address 0xa0000000) (nat_lt address 0xc0000000) width address x k refl refl h al

-- through a row
of_tests : {E : Type 0} (v d : Bool) (width address i frame : ℕ) (e f : E) → Keeps width → address % width ≡ 0 →
    IfOk (if not v then Err e else if d then Err f else Ok (physical (frame * 2 ^ 12 + address % 2 ^ 12) (Some i))) (λ to. to.at % width ≡ 0)
of_tests false d width address i frame e f k al = tt
of_tests true true width address i frame e f k al = tt
of_tests true false width address i frame e f k al = k.pages frame address al

of_row : (access : _) (width address i : ℕ) (o : Option Row) → Keeps width → address % width ≡ 0 → IfOk (through_row access address i o) (λ to. to.at % width ≡ 0)
of_row access width address i None k al = tt
of_row access width address i (Some row) k al = of_tests row.v _ width address i row.frame _ _ k al

of_rows : (access : _) (width address : ℕ) (rows : List Row) (o : Option ℕ) → Keeps width → address % width ≡ 0 → IfOk (by_row access address rows o) (λ to. to.at % width ≡ 0)
of_rows access width address rows None k al = tt
of_rows access width address rows (Some i) k al = of_row access width address i (slice_get rows i) k al

of_segments : (access : _) (width address : ℕ) (p : Processor) (o : Option ℕ) → Keeps width → unmapped address ≡ o → address % width ≡ 0 →
    IfOk (by_segment access address p o) (λ to. to.at % width ≡ 0)
of_segments access width address p (Some x) k u al = of_unmapped width address x k u al
of_segments access width address p None k u al =
    of_rows access width address p.rows (find_row p.rows (address / 2 ^ 12) (identifier_of p.control)) k al

aligned_if : (a b : Bool) → (not a || b) ≡ false → a ≡ true
aligned_if true b h = refl
aligned_if false b h = absurd (let bad : true ≡ false = h in cc)

aligned_address : (width address : ℕ) (p : Processor) → is_misaddressed width address p ≡ false → address % width ≡ 0
unfolding is_misaddressed
aligned_address width address p h =
    let is : (address % width == 0) ≡ true = aligned_if (address % width == 0) _ h in
    grind (arith, nat_tests, is)

of_test : (t : Bool) (access : _) (width address : ℕ) (p : Processor) → Keeps width → is_misaddressed width address p ≡ t →
    IfOk (if t then Err (address_error access address) else by_segment access address p (unmapped address)) (λ to. to.at % width ≡ 0)
of_test true access width address p k is = tt
of_test false access width address p k is = of_segments access width address p (unmapped address) k refl (aligned_address width address p is)

pub aligned : (access : _) (width address : ℕ) (p : Processor) (at : ℕ) → Keeps width → physical_at access width address p ≡ Ok at → at % width ≡ 0
unfolding physical_at
aligned access width address p at k h =
    of_mapped (λ n. n % width ≡ 0) _ (translate access width address p) at (of_test (is_misaddressed width address p) access width address p k refl) h

-- a place in RAM

ram_is : (t : Bool) (access : _) (x at : ℕ) → (if t then Ok x else Err (bus_error access)) ≡ Ok at → x ≡ at
ram_is true access x at h = let same : x ≡ at = cc in same
ram_is false access x at h = no_ok _ at h

pub reached : (access : _) (width address size : ℕ) (p : Processor) (at : ℕ) → Keeps width → reach access width address size p ≡ Ok at → at % width ≡ 0
reached access width address size p at k h =
    let x = both_ok (physical_at access width address p) (in_ram access width size) at h in
    ap (λ n. n % width) (sym (ram_is (nat_le (x.0 + width) size) access x.0 at x.2)) ∙ aligned access width address p x.0 k x.1

word_aligned : (x at : ℕ) → x / 4 * 4 ≡ at → at % 4 ≡ 0
word_aligned x at h = omega arith

pub reached_word : (access : _) (address size : ℕ) (p : Processor) (at : ℕ) → reach_word_of access address size p ≡ Ok at → at % 4 ≡ 0
reached_word access address size p at h =
    let x = both_ok (physical_at access 1 address p) (λ y. in_ram access 4 size (y / 4 * 4)) at h in
    word_aligned x.0 at (ram_is (nat_le (x.0 / 4 * 4 + 4) size) access (x.0 / 4 * 4) at x.2)

-- RAM after a store.

byte_left : (memory : List ℕ) (at byte i : ℕ) → i / 4 ≢ at / 4 → get_or (set memory at byte) i 0 ≡ get_or memory i 0
byte_left memory at byte i other = let ne : i ≢ at = omega (arith, other) in rw get_or-set_other refl

half_left : (memory : List ℕ) (at half i : ℕ) → at % 2 ≡ 0 → i / 4 ≢ at / 4 → get_or (with_half memory at half) i 0 ≡ get_or memory i 0
half_left memory at half i al other =
    let ne : i ≢ at = omega (arith, other) in
    let ne1 : i ≢ at + 1 = omega (arith, other, al) in
    rw (get_or-set_other, get_or-set_other) refl

word_left : (memory : List ℕ) (at word i : ℕ) → at % 4 ≡ 0 → i / 4 ≢ at / 4 → get_or (with_word memory at word) i 0 ≡ get_or memory i 0
word_left memory at word i al other =
    let ne : i ≢ at = omega (arith, other) in
    let ne1 : i ≢ at + 1 = omega (arith, other, al) in
    let ne2 : i ≢ at + 2 = omega (arith, other, al) in
    let ne3 : i ≢ at + 3 = omega (arith, other, al) in
    rw (get_or-set_other, get_or-set_other, get_or-set_other, get_or-set_other) refl

-- a byte of a word that isn't stored to
left : (memory : List ℕ) (o : Option Store) (at i : ℕ) → IsAligned o → i / 4 * 4 ≡ at → stored_by o ≢ Some at →
    get_or (apply_part with_store o memory) i 0 ≡ get_or memory i 0
left memory None at i al within other = refl
left memory (Some (byte_to to byte)) at i al within other =
    let ne : to / 4 * 4 ≢ at = λ h. other (ap Some h) in
    byte_left memory to byte i (omega (arith, ne, within))
left memory (Some (half_to to half)) at i al within other =
    let ne : to / 4 * 4 ≢ at = λ h. other (ap Some h) in
    half_left memory to half i al (omega (arith, ne, within))
left memory (Some (word_to to word)) at i al within other =
    let ne : to ≢ at = λ h. other (ap Some h) in
    word_left memory to word i al (omega (arith, ne, within, al))

pub word_stays : (memory : List ℕ) (o : Option Store) (at : ℕ) → IsAligned o → at % 4 ≡ 0 → stored_by o ≢ Some at →
    word_at (apply_part with_store o memory) at ≡ word_at memory at
word_stays memory o at al whole other =
    let stays = λ (i : ℕ) (within : i / 4 * 4 ≡ at). left memory o at i al within other in
    rw (stays at (omega (arith, whole)), stays (at + 1) (omega (arith, whole)), stays (at + 2) (omega (arith, whole)), stays (at + 3) (omega (arith, whole))) refl

pub same_size : (memory : List ℕ) (o : Option Store) → length (apply_part with_store o memory) ≡ length memory
same_size memory None = refl
same_size memory (Some (byte_to at byte)) = simp length-set
same_size memory (Some (half_to at half)) = simp length-set
same_size memory (Some (word_to at word)) = simp length-set
