use Rattle.std.proofs.Common.{◌≡◌, ◌∙◌, ◌≢◌, refl, sym, ap, subst, ℕ, zero, suc, ◌+◌, ◌-◌, ◌*◌, ◌/◌, ◌%◌, ◌^◌, ◌<◌, ⊎_elim, Bool, true, false, cond, List, [], ◌∷◌, length, set, get_or, slice_get, IfSome, Option, None, Some, Result, Ok, Err, arith}
use Rattle.std.specs.Prelude.{not, ◌&&◌, ◌||◌, ◌==◌, nat_le, nat_lt, if◌then◌else◌}
use Rattle.std.specs.List.{position_or_len}
use Rattle.std.proofs.lemmas.Bool.{and_left, cases_eq, eq-eqb, lt-leb, lt-ltb, ltb-true, ne_eqb}
use Rattle.std.proofs.lemmas.List.{length-set, get_or-set_same, get_or-set_other, get_or-replicate}
use Rattle.std.proofs.lemmas.List.Sums.{passes_at_first}
use Rattle.std.proofs.lemmas.List.Folds.{position_or_len-set}
use Rattle.std.proofs.lemmas.Option.{IfSome_then, cond_some, get_or_from_slice_get}
use Rattle.m161_isa.specs.Address.{unmapped}
use Rattle.m161_tlb.specs.declared.row.Row.{Row}
use Rattle.m161_tlb.specs.Row.{matches}
use Rattle.m161_tlb.specs.Rows.{blank_row, find_row}
use Rattle.m161_cop0.specs.Control.{identifier_of, is_user}
use Rattle.m161_cpu.specs.declared.fault.Access.{Access}
use Rattle.m161_cpu.specs.declared.fault.StepFault.{StepFault}
use Rattle.m161_cpu.specs.declared.fault.FaultKind.TheVariants as kind
use Rattle.m161_cpu.specs.Fault.{fault_at}
use Rattle.m161_cpu.specs.declared.translation.Physical.{Physical}
use Rattle.m161_cpu.specs.Processor.{Processor}
use Rattle.m161_cpu.specs.Scene.{result_map}
use Rattle.m161_cpu.specs.Translation.{address_error, by_row, by_segment, invalid, is_misaddressed, is_store, miss, physical, physical_at, through_row, translate}
use Rattle.m161_cpu.specs.helpers.Translation.{IsWidth}
use Rattle.m161_cpu.specs.Kept.{AreKept, Gives, GivesByRow, IsKept, Translations}
use Rattle.m161_cpu.specs.helpers.Kept.{IsFound, no_tag, no_translations, place_of, tag_of, without_page}

-- Translations that are kept are those of the rows, whatever becomes of the rows.

-- At the start none is kept.

nothing_kept : (rows : List Row) (access : Access) (k tag change : ℕ) → tag ≡ no_tag → IsKept rows access k tag change
nothing_kept rows access k tag change is page id rest small low fits = absurd (omega (arith, is, small, low, fits))

pub none_kept : (rows : List Row) (access : Access) → AreKept rows access no_translations
unfolding AreKept
none_kept rows access = (
  refl,
  refl,
  λ k below. nothing_kept rows access k _ _ (get_or-replicate 16 k no_tag 0 below),
)

-- What the rows give.

writable : (s d : Bool) → (s ≡ true → d ≡ true) → (s && not d) ≡ false
writable true true h = refl
writable false true h = refl
writable false false h = refl
writable true false h = absurd (let bad : false ≡ true = h refl in cc)

given_by_row : (access : Access) (address at i : ℕ) (o : Option Row) → GivesByRow access address at o
    → result_map (λ (to : Physical). to.at) (through_row access address i o) ≡ Ok at
given_by_row access address at i None g = absurd g
given_by_row access address at i (Some row) g =
    rw (g.0, writable (is_store access) row.d g.1) (ap Ok (sym g.2))

given : (access : Access) (address at : ℕ) (rows : List Row) (o : Option ℕ) → Gives rows access address at o
    → result_map (λ (to : Physical). to.at) (by_row access address rows o) ≡ Ok at
given access address at rows None g = absurd g
given access address at rows (Some i) g = given_by_row access address at i (slice_get rows i) g

-- and the other way

abbrev at_of : Result Physical StepFault → ℕ
at_of (Ok to) = to.at
at_of (Err f) = 0

chosen : (e f : StepFault) (v d s : Bool) (at i : ℕ) (to : Physical)
    → (if not v then Err e else if s && not d then Err f else Ok (physical at (Some i))) ≡ Ok to
    → (v ≡ true) × (s ≡ true → d ≡ true) × (to.at ≡ at)
chosen e f false d s at i to h = absurd (let bad : ◌≡◌ {A = Result Physical StepFault} (Err e) (Ok to) = h in cc)
chosen e f true true true at i to h = (refl, λ w. refl, sym (ap at_of h))
chosen e f true true false at i to h = (refl, λ w. refl, sym (ap at_of h))
chosen e f true false false at i to h = (refl, λ w. absurd (let bad : false ≡ true = w in cc), sym (ap at_of h))
chosen e f true false true at i to h = absurd (let bad : ◌≡◌ {A = Result Physical StepFault} (Err f) (Ok to) = h in cc)

row_gives : (access : Access) (address i : ℕ) (o : Option Row) (to : Physical)
    → through_row access address i o ≡ Ok to → GivesByRow access address to.at o
row_gives access address i None to h =
    absurd (let bad : ◌≡◌ {A = Result Physical StepFault} (Err (miss access address)) (Ok to) = h in cc)
row_gives access address i (Some row) to h =
    chosen (invalid access address) (fault_at kind.TlbModified address) row.v row.d (is_store access)
    (row.frame * 2 ^ 12 + address % 2 ^ 12) i to h

rows_give : (access : Access) (address : ℕ) (rows : List Row) (o : Option ℕ) (to : Physical)
    → by_row access address rows o ≡ Ok to → Gives rows access address to.at o
rows_give access address rows None to h =
    absurd (let bad : ◌≡◌ {A = Result Physical StepFault} (Err (miss access address)) (Ok to) = h in cc)
rows_give access address rows (Some i) to h = row_gives access address i (slice_get rows i) to h

by_rows : (access : Access) (width address : ℕ) (p : Processor) (wrong : Bool) (to : Physical)
    → (if wrong then Err (address_error access address) else by_segment access address p None) ≡ Ok to
    → Gives p.rows access address to.at (find_row p.rows (address / 2 ^ 12) (identifier_of p.control))
by_rows access width address p true to h =
    absurd (let bad : ◌≡◌ {A = Result Physical StepFault} (Err (address_error access address)) (Ok to) = h in cc)
by_rows access width address p false to h =
    rows_give access address p.rows (find_row p.rows (address / 2 ^ 12) (identifier_of p.control)) to h

in_kuseg : (address : ℕ) → address < 0x80000000 → unmapped address ≡ None
in_kuseg address below = rw (lt-ltb address 0x80000000 below) refl

-- what the translation of an address in kuseg tells of the rows
pub translated_gives : (access : Access) (width address : ℕ) (p : Processor) (to : Physical) → address < 0x80000000
    → translate access width address p ≡ Ok to
    → Gives p.rows access address to.at (find_row p.rows (address / 2 ^ 12) (identifier_of p.control))
translated_gives access width address p to below h =
    by_rows access width address p (is_misaddressed width address p) to
    (subst (λ (o : Option ℕ). (if is_misaddressed width address p then Err (address_error access address) else by_segment access address p o) ≡ Ok to) (in_kuseg address below) h)

-- A hit.

below_four : (width address : ℕ) → IsWidth width → address % width < 4
below_four width address w =
    ⊎_elim (λ e. subst (λ n. address % n < 4) (sym e) (omega arith))
    (λ more. ⊎_elim (λ e. subst (λ n. address % n < 4) (sym e) (omega arith))
    (λ e. subst (λ n. address % n < 4) (sym e) (omega arith)) more) w

not_misaddressed : (width address : ℕ) (p : Processor) → address % width ≡ 0 → address < 0x80000000
    → is_misaddressed width address p ≡ false
unfolding is_misaddressed
not_misaddressed width address p aligned below =
    or_false (address % width == 0) (is_user p.control) (nat_le 0x80000000 address) (eq-eqb (address % width) 0 aligned) (lt-leb 0x80000000 address below)
  where
    or_false : (a u k : Bool) → a ≡ true → k ≡ false → (not a || (u && k)) ≡ false
    or_false true true false refl_a refl_k = refl
    or_false true false false refl_a refl_k = refl
    or_false false u k bad refl_k = absurd (cc)
    or_false true u true refl_a bad = absurd (cc)

by_kuseg : (access : Access) (width address : ℕ) (p : Processor) → is_misaddressed width address p ≡ false → address < 0x80000000
    → physical_at access width address p
    ≡ result_map (λ (to : Physical). to.at) (by_row access address p.rows (find_row p.rows (address / 2 ^ 12) (identifier_of p.control)))
unfolding physical_at
by_kuseg access width address p right below =
    ap (λ b. result_map (λ (to : Physical). to.at) (if b then Err (address_error access address) else by_segment access address p (unmapped address))) right
    ∙ ap (λ o. result_map (λ (to : Physical). to.at) (by_segment access address p o)) (in_kuseg address below)

hit : (access : Access) (width address id at : ℕ) (p : Processor) (t : Translations) → IsWidth width
    → AreKept p.rows access t → id ≡ identifier_of p.control → id < 2 ^ 6 → IsFound t width address id at →
    physical_at access width address p ≡ Ok at
unfolding AreKept
hit access width address id at p t w kept id_is small found =
    let k : place_of address < 16 = omega arith in
    let x = kept.2 (place_of address) k (address / 2 ^ 12) id (address % width) small (below_four width address w) found.0 in
    let below : address < 0x80000000 = omega (arith, x.1) in
    let here : Gives p.rows access address at (find_row p.rows (address / 2 ^ 12) id) =
    subst (λ n. Gives p.rows access address n (find_row p.rows (address / 2 ^ 12) id)) (sym found.1) (x.3 address refl) in
    let gives : Gives p.rows access address at (find_row p.rows (address / 2 ^ 12) (identifier_of p.control)) =
    subst (λ n. Gives p.rows access address at (find_row p.rows (address / 2 ^ 12) n)) id_is here in
    by_kuseg access width address p (not_misaddressed width address p x.0 below) below
    ∙ given access address at p.rows (find_row p.rows (address / 2 ^ 12) (identifier_of p.control)) gives

pub found_hit : (access : Access) (width address id : ℕ) (p : Processor) (t : Translations) (o : Option ℕ) → IsWidth width
    → AreKept p.rows access t → id ≡ identifier_of p.control → id < 2 ^ 6 → IfSome o (λ at. IsFound t width address id at)
    → IfSome o (λ at. physical_at access width address p ≡ Ok at)
found_hit access width address id p t o w kept id_is small found =
    IfSome_then o found (λ at f. hit access width address id at p t w kept id_is small f)

-- A translation that was found is kept.

moved_number : (frame address other at change : ℕ) → other / 2 ^ 12 ≡ address / 2 ^ 12 → address < 2 ^ 32 → at < 2 ^ 32
    → at ≡ frame * 2 ^ 12 + address % 2 ^ 12 → change ≡ (at + (2 ^ 32 - address)) % 2 ^ 32
    → (other + change) % 2 ^ 32 ≡ frame * 2 ^ 12 + other % 2 ^ 12
moved_number frame address other at change same a b is change_is = omega (arith, same, a, b, is, change_is)

moved_row : (access : Access) (address other at change : ℕ) (o : Option Row) → other / 2 ^ 12 ≡ address / 2 ^ 12
    → address < 2 ^ 32 → at < 2 ^ 32 → change ≡ (at + (2 ^ 32 - address)) % 2 ^ 32
    → GivesByRow access address at o → GivesByRow access other ((other + change) % 2 ^ 32) o
moved_row access address other at change None same a b c g = absurd g
moved_row access address other at change (Some row) same a b c g =
    (g.0, g.1, moved_number row.frame address other at change same a b g.2 c)

moved : (access : Access) (rows : List Row) (address other at change : ℕ) (o : Option ℕ) → other / 2 ^ 12 ≡ address / 2 ^ 12
    → address < 2 ^ 32 → at < 2 ^ 32 → change ≡ (at + (2 ^ 32 - address)) % 2 ^ 32
    → Gives rows access address at o → Gives rows access other ((other + change) % 2 ^ 32) o
moved access rows address other at change None same a b c g = absurd g
moved access rows address other at change (Some i) same a b c g =
    moved_row access address other at change (slice_get rows i) same a b c g

new_kept : (rows : List Row) (access : Access) (k tag change address id at : ℕ) → k ≡ place_of address
    → tag ≡ tag_of address id → change ≡ (at + (2 ^ 32 - address)) % 2 ^ 32 → address < 0x80000000 → at < 2 ^ 32 → id < 2 ^ 6
    → Gives rows access address at (find_row rows (address / 2 ^ 12) id) → IsKept rows access k tag change
new_kept rows access k tag change address id at place is change_is below small few gives page other rest low rest_low fits =
    let page_is : page ≡ address / 2 ^ 12 = omega (arith, is, fits, few, low, rest_low) in
    let id_is : other ≡ id = omega (arith, is, fits, few, low, rest_low) in
    let rest_is : rest ≡ 0 = omega (arith, is, fits, few, low, rest_low) in (
      rest_is,
      omega (arith, page_is, below),
      ap (λ n. n % 16) page_is ∙ sym place,
      λ a in_page.
          let here = moved access rows address a at change (find_row rows (address / 2 ^ 12) id) (in_page ∙ page_is) (omega (arith, below)) small change_is gives in
          subst (λ n. Gives rows access a ((a + change) % 2 ^ 32) (find_row rows n other)) (sym page_is)
          (subst (λ n. Gives rows access a ((a + change) % 2 ^ 32) (find_row rows (address / 2 ^ 12) n)) (sym id_is) here),
    )

same_kept : (rows : List Row) (access : Access) (k tag other change changed : ℕ) → other ≡ tag → changed ≡ change
    → IsKept rows access k tag change → IsKept rows access k other changed
same_kept rows access k tag other change changed tag_is change_is h =
    subst (λ c. IsKept rows access k other c) (sym change_is) (subst (λ t. IsKept rows access k t change) (sym tag_is) h)

pub kept_more : (rows : List Row) (access : Access) (address id at place tag : ℕ) (t : Translations) → place ≡ place_of address
    → tag ≡ tag_of address id → address < 0x80000000 → at < 2 ^ 32 → id < 2 ^ 6
    → Gives rows access address at (find_row rows (address / 2 ^ 12) id) → AreKept rows access t
    → AreKept rows access (record {
      tags = set t.tags place tag;
      changes = set t.changes place ((at + (2 ^ 32 - address)) % 2 ^ 32);
    })
unfolding AreKept
kept_more rows access address id at place tag t place_is tag_is below small few gives h =
    let within_sixteen : place < 16 = omega (arith, place_is) in
    let change = (at + (2 ^ 32 - address)) % 2 ^ 32 in (
      length-set t.tags place tag ∙ h.0,
      length-set t.changes place change ∙ h.1,
      λ k within.
          ⊎_elim
          (λ same.
          new_kept rows access k _ _ address id at (same ∙ place_is)
          (ap (λ j. get_or (set t.tags place tag) j 0) same ∙ get_or-set_same t.tags place tag 0 (omega (arith, within_sixteen, h.0)) ∙ tag_is)
          (ap (λ j. get_or (set t.changes place change) j 0) same ∙ get_or-set_same t.changes place change 0 (omega (arith, within_sixteen, h.1)))
          below small few gives)
          (λ other.
          same_kept rows access k _ _ _ _ (get_or-set_other t.tags place k tag 0 other)
          (get_or-set_other t.changes place k change 0 other) (h.2 k within))
          (cases_eq k place),
    )

-- A row is written.

other_place : {X : Type 0} (xs : List X) (i j : ℕ) (x : X) → j ≢ i → slice_get (set xs i x) j ≡ slice_get xs j
other_place [] i j x other = refl
other_place (y ∷ ys) zero zero x other = absurd (other refl)
other_place (y ∷ ys) zero (suc j) x other = refl
other_place (y ∷ ys) (suc i) zero x other = refl
other_place (y ∷ ys) (suc i) (suc j) x other = other_place ys i j x (λ e. other (ap suc e))

unmatched : (page id : ℕ) (row : Row) → (row.page ≡ page → ⊥) → matches page id row ≡ false
unmatched page id row other = and_left (row.page == page) (row.g || (row.id == id)) (ne_eqb row.page page other)

-- a row that is for another page, and is written over by such a row, changes nothing of this page
pub find_row_after : (rows : List Row) (page id i : ℕ) (row : Row) → matches page id (get_or rows i blank_row) ≡ false
    → matches page id row ≡ false → find_row (set rows i row) page id ≡ find_row rows page id
unfolding find_row
find_row_after rows page id i row old new =
    let first : position_or_len (matches page id) (set rows i row) ≡ position_or_len (matches page id) rows =
    position_or_len-set (matches page id) rows i row blank_row (new ∙ sym old) in
    let long : length (set rows i row) ≡ length rows = length-set rows i row in
    λ j. cond (nat_lt (first j) (long j)) (Some (first j)) None

found_matches : (rows : List Row) (page id i : ℕ) → find_row rows page id ≡ Some i → matches page id (get_or rows i blank_row) ≡ true
unfolding find_row
found_matches rows page id i is =
    let x = cond_some (nat_lt (position_or_len (matches page id) rows) (length rows)) (position_or_len (matches page id) rows) i is in
    subst (λ n. matches page id (get_or rows n blank_row) ≡ true) x.1
    (passes_at_first (matches page id) rows blank_row (ltb-true _ _ x.0))

gives_elsewhere : (rows : List Row) (page id i : ℕ) (row : Row) (access : Access) (address at : ℕ) (o : Option ℕ)
    → matches page id (get_or rows i blank_row) ≡ false → find_row rows page id ≡ o
    → Gives rows access address at o → Gives (set rows i row) access address at o
gives_elsewhere rows page id i row access address at None old is g = g
gives_elsewhere rows page id i row access address at (Some n) old is g =
    let other : n ≢ i = λ e. absurd (
    let bad : true ≡ false = sym (found_matches rows page id n is) ∙ ap (λ j. matches page id (get_or rows j blank_row)) e ∙ old in cc) in
    subst (GivesByRow access address at) (sym (other_place rows i n row other)) g

gives_after : (rows : List Row) (page id i : ℕ) (row : Row) (access : Access) (address at : ℕ)
    → matches page id (get_or rows i blank_row) ≡ false → matches page id row ≡ false
    → Gives rows access address at (find_row rows page id)
    → Gives (set rows i row) access address at (find_row (set rows i row) page id)
gives_after rows page id i row access address at old new g =
    subst (Gives (set rows i row) access address at) (sym (find_row_after rows page id i row old new))
    (gives_elsewhere rows page id i row access address at (find_row rows page id) old refl g)

kept_on : (rows : List Row) (access : Access) (i : ℕ) (old row : Row) (k tag change : ℕ) → slice_get rows i ≡ Some old
    → (k ≡ old.page % 16 → ⊥) → (k ≡ row.page % 16 → ⊥) → IsKept rows access k tag change
    → IsKept (set rows i row) access k tag change
kept_on rows access i old row k tag change read not_old not_new h page id rest low rest_low fits =
    let x = h page id rest low rest_low fits in
    let old_is : get_or rows i blank_row ≡ old = get_or_from_slice_get rows i old blank_row read in
    let old_other : matches page id (get_or rows i blank_row) ≡ false =
    ap (matches page id) old_is ∙ unmatched page id old (λ e. not_old (sym x.2 ∙ ap (λ n. n % 16) (sym e))) in
    let new_other : matches page id row ≡ false = unmatched page id row (λ e. not_new (sym x.2 ∙ ap (λ n. n % 16) (sym e))) in
    (x.0, x.1, x.2, λ a in_page. gives_after rows page id i row access a _ old_other new_other (x.3 a in_page))

pub kept_after : (rows : List Row) (access : Access) (i : ℕ) (old row : Row) (t : Translations) (page other : ℕ) → slice_get rows i ≡ Some old
    → old.page ≡ page → row.page ≡ other → AreKept rows access t
    → AreKept (set rows i row) access (without_page other (without_page page t))
unfolding AreKept
kept_after rows access i old row t page other read page_is other_is h =
    let a = page % 16 in
    let b = other % 16 in
    let a_within : a < 16 = omega arith in
    let b_within : b < 16 = omega arith in
    let first = length-set t.tags a no_tag in
    let second = length-set (set t.tags a no_tag) b no_tag in (
      second ∙ first ∙ h.0,
      h.1,
      λ k within.
          ⊎_elim
          (λ same. nothing_kept (set rows i row) access k _ _
          (ap (λ j. get_or (set (set t.tags a no_tag) b no_tag) j 0) same ∙ get_or-set_same (set t.tags a no_tag) b no_tag 0 (omega (arith, b_within, first, h.0))))
          (λ not_new.
          let over = get_or-set_other (set t.tags a no_tag) b k no_tag 0 not_new in
          ⊎_elim
          (λ same. nothing_kept (set rows i row) access k _ _
          (over ∙ ap (λ j. get_or (set t.tags a no_tag) j 0) same ∙ get_or-set_same t.tags a no_tag 0 (omega (arith, a_within, h.0))))
          (λ not_old.
          same_kept (set rows i row) access k _ _ _ _ (over ∙ get_or-set_other t.tags a k no_tag 0 not_old) refl
          (kept_on rows access i old row k _ _ read (λ e. not_old (e ∙ ap (λ n. n % 16) page_is)) (λ e. not_new (e ∙ ap (λ n. n % 16) other_is)) (h.2 k within)))
          (cases_eq k a))
          (cases_eq k b),
    )
