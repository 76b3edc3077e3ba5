use Rattle.std.proofs.Common.{◌≡◌, ◌≢◌, ℕ, ◌+◌, ◌-◌, ◌<◌, ◌≤◌, Bool, true, false, if◌then◌else◌, cond, List, [], ◌∷◌, length, map, Option, None, Some, slice_index, refl, sym, ◌∙◌, ap, arith, suc, inl, inr}
use Rattle.std.specs.Prelude.{filter, find, reverse, nat_le, nat_lt, nat_eq, ◌||◌, ◌&&◌, slice_set}
use Rattle.std.specs.List.{range_with_len}
use Rattle.std.specs.Option.{is_some, option_map_or, option_or}
use Rattle.std.proofs.lemmas.Bool.{cases_lt, cases_eq}
use Rattle.std.proofs.lemmas.Bool.Decides.{nat_tests}
use Rattle.std.proofs.lemmas.List.{get_or-set_other, get_or-set_same, length-set, reverse-append}
use Rattle.std.proofs.lemmas.List.Folds.{find-append}
use Rattle.m161_elf.specs.declared.header.ProgramHeader.{ProgramHeader}
use Rattle.m161_elf.specs.Header.{e_phnum, header, is_load}
use Rattle.m161_elf.specs.Image.{byte_left, covers, place_in_ram, segment_byte}
use Rattle.m161_elf.specs.helpers.Cover.{is_taken, last_at, segments_from, IsCover}
use Rattle.m161_elf.specs.helpers.Header.{segment_at}
use Rattle.m161_elf.proofs.Sound.{found_where}

-- The table of the next free places.

-- An entry of a table after one entry is set.
entry_same : (next : List ℕ) (at v i : ℕ) → at < length next → i ≡ at →
    slice_index (slice_set next at v) i ≡ v
entry_same next at v i within e =
    ap (slice_index (slice_set next at v)) e ∙ get_or-set_same next at v 0 within

entry_other : (next : List ℕ) (at v i : ℕ) → i ≢ at →
    slice_index (slice_set next at v) i ≡ slice_index next i
entry_other next at v i other = get_or-set_other next at i v 0 other

or_false : (a : Bool) → (a || false) ≡ a
or_false true = refl
or_false false = refl

and_true : (a : Bool) → (a && true) ≡ a
and_true true = refl
and_true false = refl

or_true : (a : Bool) → (a || true) ≡ true
or_true true = refl
or_true false = refl

-- What is taken after the entry of a place is set to lead further.
pub taken_set : (next : List ℕ) (at v i : ℕ) → at < length next → at < v →
    is_taken (slice_set next at v) i ≡ (is_taken next i || nat_eq i at)
taken_set next at v i within further =
    elim (cases_eq i at) [
      | inl e ↦
          let test : nat_eq i at ≡ true = grind (arith, nat_tests) in
          let leads : nat_lt i v ≡ true = grind (arith, nat_tests) in
          ap (nat_lt i) (entry_same next at v i within e) ∙ leads
          ∙ sym (ap (λ t. is_taken next i || t) test ∙ or_true (is_taken next i))
      | inr o ↦
          let test : nat_eq i at ≡ false = grind (arith, nat_tests) in
          ap (nat_lt i) (entry_other next at v i o)
          ∙ sym (ap (λ t. is_taken next i || t) test ∙ or_false (is_taken next i))
    ]

or_left : (a b : Bool) → a ≡ true → (a || b) ≡ true
or_left true b e = refl
or_left false b e = absurd (cc)

or_right : (a b : Bool) → b ≡ true → (a || b) ≡ true
or_right true b e = refl
or_right false b e = e

-- The table after the entry of a place is set to lead further, over places that are taken.
pub cover_set : (next : List ℕ) (at v : ℕ) → IsCover next → at < length next → at < v
    → v < length next
    → ((i : ℕ) → at < i → i < v → is_taken next i ≡ true)
    → IsCover (slice_set next at v)
cover_set next at v cover within further fits between =
    let long : length (slice_set next at v) ≡ length next = length-set next at v in
    record {
      on = λ i h. elim (cases_eq i at) [
        | inl e ↦ let is = entry_same next at v i within e in omega (arith, is, e, further)
        | inr o ↦
            let is = entry_other next at v i o in
            let old = cover.on i (omega (arith, h, long)) in
            omega (arith, is, old)
      ];
      within = λ i h. elim (cases_eq i at) [
        | inl e ↦ let is = entry_same next at v i within e in omega (arith, is, fits, long)
        | inr o ↦
            let is = entry_other next at v i o in
            let old = cover.within i (omega (arith, h, long)) in
            omega (arith, is, old, long)
      ];
      over = λ i j h low high. elim (cases_eq i at) [
        | inl e ↦
            let is = entry_same next at v i within e in
            let up : j < v = omega (arith, is, high) in
            rw (taken_set next at v j within further)
            (elim (cases_eq j at) [
              | inl s ↦
                  or_right (is_taken next j) (nat_eq j at)
                  (let same : nat_eq j at ≡ true = grind (arith, nat_tests) in same)
              | inr d ↦
                  or_left (is_taken next j) (nat_eq j at) (between j (omega (arith, low, e, d)) up)
            ])
        | inr o ↦
            let is = entry_other next at v i o in
            rw (taken_set next at v j within further)
            (or_left (is_taken next j) (nat_eq j at)
            (cover.over i j (omega (arith, h, long)) low (omega (arith, is, high))))
      ];
    }

-- Two steps along the table lead over places that are taken.
pub over_two : (next : List ℕ) (at i : ℕ) → IsCover next → at < length next → at ≤ i
    → i < slice_index next (slice_index next at) → is_taken next i ≡ true
over_two next at i cover within low high =
    elim (cases_lt i (slice_index next at)) [
      | inl near ↦ cover.over at i within low near
      | inr far ↦ cover.over (slice_index next at) i (cover.within at within) far high
    ]

-- The segments from the last header on.

-- with one header more
pub from_step : (file : List ℕ) (i : ℕ) → i < e_phnum file →
    segments_from file i
    ≡ cond (is_load (header file i)) (header file i ∷ segments_from file (i + 1))
    (segments_from file (i + 1))
from_step file i here =
    let left : e_phnum file - i ≡ suc (e_phnum file - (i + 1)) = omega arith in
    ap (λ n. filter is_load (map (header file) (range_with_len i n))) left

pub from_with : (file : List ℕ) (i : ℕ) (s : ProgramHeader) → i < e_phnum file
    → Some s ≡ segment_at file i → segments_from file i ≡ s ∷ segments_from file (i + 1)
from_with file i s here found =
    let where_found = found_where (is_load (header file i)) (header file i) s found in
    from_step file i here
    ∙ ap (λ t. cond t (header file i ∷ segments_from file (i + 1)) (segments_from file (i + 1)))
    where_found.0
    ∙ ap (λ h. h ∷ segments_from file (i + 1)) where_found.1

not_found : {X : Type 0} (test : Bool) (x : X) → None ≡ (if test then Some x else None)
    → test ≡ false
not_found true x none = absurd (cc)
not_found false x none = refl

pub from_without : (file : List ℕ) (i : ℕ) → i < e_phnum file → None ≡ segment_at file i
    → segments_from file i ≡ segments_from file (i + 1)
from_without file i here none =
    from_step file i here
    ∙ ap (λ t. cond t (header file i ∷ segments_from file (i + 1)) (segments_from file (i + 1)))
    (not_found (is_load (header file i)) (header file i) none)

-- the last segment that has a byte, with an earlier segment more
last_with : (s : ProgramHeader) (rest : List ProgramHeader) (at : ℕ) →
    last_at (s ∷ rest) at ≡ option_or (last_at rest at) (cond (covers at s) (Some s) None)
last_with s rest at =
    ap (find (covers at)) (reverse-append (s ∷ []) rest)
    ∙ find-append (covers at) (reverse rest) (s ∷ [])

some_or : (o : Option ProgramHeader) (c : Bool) (s : ProgramHeader) →
    is_some (option_or o (cond c (Some s) None)) ≡ (is_some o || c)
some_or None true s = refl
some_or None false s = refl
some_or (Some x) c s = refl

value_or : (f : ProgramHeader → ℕ) (o : Option ProgramHeader) (c : Bool) (s : ProgramHeader) →
    option_map_or f (option_or o (cond c (Some s) None)) 0
    ≡ (if is_some o then option_map_or f o 0 else (if c then f s else option_map_or f o 0))
value_or f None true s = refl
value_or f None false s = refl
value_or f (Some x) c s = refl

pub taken_with : (s : ProgramHeader) (rest : List ProgramHeader) (at : ℕ) →
    is_some (last_at (s ∷ rest) at) ≡ (is_some (last_at rest at) || covers at s)
taken_with s rest at =
    ap is_some (last_with s rest at) ∙ some_or (last_at rest at) (covers at s) s

pub byte_with : (file : List ℕ) (s : ProgramHeader) (rest : List ProgramHeader) (at : ℕ) →
    byte_left file (s ∷ rest) at
    ≡ (if is_some (last_at rest at) then byte_left file rest at
    else (if covers at s then segment_byte file at s else byte_left file rest at))
byte_with file s rest at =
    ap (λ o. option_map_or (segment_byte file at) o 0) (last_with s rest at)
    ∙ value_or (segment_byte file at) (last_at rest at) (covers at s) s

-- One place taken, and the next free one found.

or_eq : (t c : Bool) → ((t || (c && true)) || false) ≡ (t || (c && true))
or_eq true c = refl
or_eq false true = refl
or_eq false false = refl

or_here : (t c : Bool) → c ≡ true → ((t || (c && false)) || true) ≡ (t || (c && true))
or_here true c e = refl
or_here false true e = refl
or_here false false e = absurd (cc)

or_between : (t c x : Bool) → ((t || (c && false)) || false) ≡ true
    → ((t || (c && false)) || false) ≡ (t || (c && x))
or_between true c x e = refl
or_between false true x e = absurd (cc)
or_between false false x e = absurd (cc)

or_past : (t c : Bool) → ((t || (c && false)) || false) ≡ (t || (c && false))
or_past true c = refl
or_past false true = refl
or_past false false = refl

taken_by : (t c : Bool) (i at further : ℕ) → (i ≡ at → c ≡ true) → at < further
    → (at < i → i < further → ((t || (c && nat_lt i at)) || nat_eq i at) ≡ true)
    → ((t || (c && nat_lt i at)) || nat_eq i at) ≡ (t || (c && nat_lt i further))
taken_by t c i at further here on between =
    elim (cases_lt i at) [
      | inl before ↦
          let a : nat_lt i at ≡ true = grind (arith, nat_tests) in
          let b : nat_lt i further ≡ true = grind (arith, nat_tests) in
          let e : nat_eq i at ≡ false = grind (arith, nat_tests) in
          rw (a, b, e) (or_eq t c)
      | inr behind ↦
          let a : nat_lt i at ≡ false = grind (arith, nat_tests) in
          elim (cases_eq i at) [
            | inl same ↦
                let b : nat_lt i further ≡ true = grind (arith, nat_tests) in
                let e : nat_eq i at ≡ true = grind (arith, nat_tests) in
                rw (a, b, e) (or_here t c (here same))
            | inr other ↦
                let e : nat_eq i at ≡ false = grind (arith, nat_tests) in
                elim (cases_lt i further) [
                  | inl inside ↦
                      rw (a, e) (or_between t c (nat_lt i further)
                      (rw (a, e) at (between (omega arith) inside)))
                  | inr past ↦
                      let b : nat_lt i further ≡ false = grind (arith, nat_tests) in
                      rw (a, b, e) (or_past t c)
                ]
          ]
    ]

pub taken_next : (before next after : List ℕ) (s : ProgramHeader) (at further i : ℕ)
    → at < length next → covers at s ≡ true → at < further
    → is_taken next i ≡ (is_taken before i || (covers i s && nat_lt i at))
    → is_taken after i ≡ is_taken (slice_set next at (at + 1)) i
    → (at + 1 ≤ i → i < further → is_taken (slice_set next at (at + 1)) i ≡ true)
    → is_taken after i ≡ (is_taken before i || (covers i s && nat_lt i further))
taken_next before next after s at further i within here on old same between =
    let set = taken_set next at (at + 1) i within (omega arith)
    ∙ ap (λ t. t || nat_eq i at) old in
    same ∙ set
    ∙ taken_by (is_taken before i) (covers i s) i at further
    (λ e. ap (λ j. covers j s) e ∙ here) on
    (λ low high. sym set ∙ between (omega arith) high)

byte_by : (t c : Bool) (i at further old byte now : ℕ) → (i ≡ at → c ≡ true)
    → (i ≡ at → t ≡ false) → at < further
    → (at < i → i < further → t ≡ true)
    → now ≡ (if nat_eq i at then byte else (if t then old else (if c && nat_lt i at then byte else old)))
    → now ≡ (if t then old else (if c && nat_lt i further then byte else old))
byte_by true c i at further old byte now here free on between e =
    elim (cases_eq i at) [
      | inl same ↦ absurd (let no = free same in cc)
      | inr other ↦ let test : nat_eq i at ≡ false = grind (arith, nat_tests) in rw test at e
    ]
byte_by false c i at further old byte now here free on between e =
    elim (cases_eq i at) [
      | inl same ↦
          let test : nat_eq i at ≡ true = grind (arith, nat_tests) in
          let b : nat_lt i further ≡ true = grind (arith, nat_tests) in
          rw (here same, b) (rw test at e)
      | inr other ↦
          let test : nat_eq i at ≡ false = grind (arith, nat_tests) in
          let kept = rw test at e in
          elim (cases_lt i at) [
            | inl before ↦
                let a : nat_lt i at ≡ true = grind (arith, nat_tests) in
                let b : nat_lt i further ≡ true = grind (arith, nat_tests) in
                rw b (rw a at kept)
            | inr behind ↦
                elim (cases_lt i further) [
                  | inl inside ↦ absurd (let yes = between (omega arith) inside in cc)
                  | inr past ↦
                      let a : nat_lt i at ≡ false = grind (arith, nat_tests) in
                      let b : nat_lt i further ≡ false = grind (arith, nat_tests) in
                      rw b (rw a at kept)
                ]
          ]
    ]

-- Two steps along the table, from a place that isn't free.
pub on_two : (next : List ℕ) (at : ℕ) → IsCover next → at < length next
    → slice_index next at ≢ at → at < slice_index next (slice_index next at)
on_two next at cover within taken =
    let one = cover.on at within in
    let two = cover.on (slice_index next at) (cover.within at within) in
    omega (arith, one, two, taken)

-- The entry of a place that is taken, set to lead further: nothing else is taken.
pub same_set : (next : List ℕ) (at v i : ℕ) → at < length next → at < slice_index next at → at < v
    → is_taken (slice_set next at v) i ≡ is_taken next i
same_set next at v i within taken further =
    taken_set next at v i within further
    ∙ elim (cases_eq i at) [
      | inl e ↦
          let is : is_taken next i ≡ true =
          ap (is_taken next) e
          ∙ (let t : nat_lt at (slice_index next at) ≡ true = grind (arith, nat_tests) in t) in
          ap (λ t. t || nat_eq i at) is ∙ sym is
      | inr o ↦
          let test : nat_eq i at ≡ false = grind (arith, nat_tests) in
          ap (λ t. is_taken next i || t) test ∙ or_false (is_taken next i)
    ]

free_not : (next : List ℕ) (at : ℕ) → slice_index next at ≡ at → is_taken next at ≡ false
free_not next at e =
    ap (nat_lt at) e ∙ (let t : nat_lt at at ≡ false = grind (arith, nat_tests) in t)

and_false : (c x : Bool) → x ≡ false → (c && x) ≡ false
and_false true x e = e
and_false false x e = refl

first_of_or : (t c x : Bool) → x ≡ false → (t || (c && x)) ≡ t
first_of_or t c x e = ap (λ b. t || b) (and_false c x e) ∙ or_false t

-- The bytes of memory after a segment's byte is put to a free place.
pub byte_next : (file memory old before next : List ℕ) (s : ProgramHeader) (at further i b : ℕ)
    → at < length next → at < length memory → covers at s ≡ true → at < further
    → slice_index next at ≡ at → b ≡ segment_byte file at s
    → ((j : ℕ) → j < length memory →
    is_taken next j ≡ (is_taken before j || (covers j s && nat_lt j at)))
    → slice_index memory i
    ≡ (if is_taken before i then slice_index old i
    else (if covers i s && nat_lt i at then segment_byte file i s else slice_index old i))
    → i < length memory
    → (at + 1 ≤ i → i < further → is_taken (slice_set next at (at + 1)) i ≡ true)
    → slice_index (slice_set memory at b) i
    ≡ (if is_taken before i then slice_index old i
    else (if covers i s && nat_lt i further then segment_byte file i s else slice_index old i))
byte_next file memory old before next s at further i b within inside here on free byte taken kept h
    between =
    let same : nat_lt at at ≡ false = grind (arith, nat_tests) in
    let not_before : is_taken before at ≡ false =
    sym (first_of_or (is_taken before at) (covers at s) (nat_lt at at) same) ∙ sym (taken at inside)
    ∙ free_not next at free in
    let result : slice_index (slice_set memory at b) i
    ≡ (if nat_eq i at then segment_byte file i s
    else (if is_taken before i then slice_index old i
    else (if covers i s && nat_lt i at then segment_byte file i s else slice_index old i))) =
    elim (cases_eq i at) [
      | inl e ↦
          let test : nat_eq i at ≡ true = grind (arith, nat_tests) in
          rw test (entry_same memory at b i inside e ∙ byte
          ∙ ap (λ j. segment_byte file j s) (sym e))
      | inr o ↦
          let test : nat_eq i at ≡ false = grind (arith, nat_tests) in
          rw test (entry_other memory at b i o ∙ kept)
    ] in
    byte_by (is_taken before i) (covers i s) i at further (slice_index old i)
    (segment_byte file i s) (slice_index (slice_set memory at b) i)
    (λ e. ap (λ j. covers j s) e ∙ here)
    (λ e. ap (is_taken before) e ∙ not_before) on
    (λ low high.
    let test : nat_eq i at ≡ false = grind (arith, nat_tests) in
    let less : nat_lt i at ≡ false = grind (arith, nat_tests) in
    sym (first_of_or (is_taken before i) (covers i s) (nat_lt i at) less) ∙ sym (taken i h)
    ∙ sym (or_false (is_taken next i))
    ∙ ap (λ t. is_taken next i || t) (sym test)
    ∙ sym (taken_set next at (at + 1) i within (omega arith)) ∙ between (omega arith) high)
    result

-- Past the end of a segment it is covered as far as it goes.
pub all_past : (s : ProgramHeader) (at i : ℕ) → place_in_ram s.p_vaddr + s.p_memsz ≤ at →
    (covers i s && nat_lt i at) ≡ covers i s
all_past s at i past =
    elim (cases_lt i at) [
      | inl before ↦
          let test : nat_lt i at ≡ true = grind (arith, nat_tests) in
          ap (λ t. covers i s && t) test ∙ and_true (covers i s)
      | inr behind ↦
          let test : nat_lt i (place_in_ram s.p_vaddr + s.p_memsz) ≡ false =
          grind (arith, nat_tests) in
          let none : covers i s ≡ false =
          ap (λ t. nat_le (place_in_ram s.p_vaddr) i && t) test
          ∙ and_false (nat_le (place_in_ram s.p_vaddr) i) false refl in
          ap (λ t. t && nat_lt i at) none ∙ sym none
    ]

-- A header more.

pub from_next : (file : List ℕ) (k i : ℕ) (s : ProgramHeader) → i ≡ k + 1 → k < e_phnum file
    → Some s ≡ segment_at file k → segments_from file k ≡ s ∷ segments_from file i
from_next file k i s e here found =
    from_with file k s here found ∙ ap (λ j. s ∷ segments_from file j) (sym e)

pub from_skip : (file : List ℕ) (k i : ℕ) → i ≡ k + 1 → k < e_phnum file
    → None ≡ segment_at file k → segments_from file k ≡ segments_from file i
from_skip file k i e here none =
    from_without file k here none ∙ ap (segments_from file) (sym e)

pub byte_more : (file : List ℕ) (s : ProgramHeader) (rest : List ProgramHeader) (at old byte : ℕ)
    (taken : Bool) → taken ≡ is_some (last_at rest at) → old ≡ byte_left file rest at
    → byte ≡ (if taken then old else (if covers at s then segment_byte file at s else old))
    → byte ≡ byte_left file (s ∷ rest) at
byte_more file s rest at old byte taken e f g =
    g
    ∙ ap (λ t. if t then old else (if covers at s then segment_byte file at s else old)) e
    ∙ ap (λ m.
    if is_some (last_at rest at) then m
    else (if covers at s then segment_byte file at s else m)) f
    ∙ sym (byte_with file s rest at)
