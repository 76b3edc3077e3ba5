use Rattle.std.proofs.Common.{◌≡◌, ℕ, zero, suc, ◌+◌, ◌-◌, ◌<◌, ◌≤◌, Bool, true, false, cond, List, [], ◌∷◌, length, map, Option, None, Some, get_or, refl, sym, ◌∙◌, ap, arith, inl, inr}
use Rattle.std.specs.Prelude.{filter, find, nat_eq, nat_lt, not, ◌&&◌}
use Rattle.std.specs.Ordering.{is_lt, nat_cmp}
use Rattle.std.specs.declared.cmp.Ordering.TheVariants.{Less, Equal, Greater}
use Rattle.std.specs.List.Sorted.{ties}
use Rattle.std.specs.List.{slice_get, slice_index_or}
use Rattle.std.specs.Option.{option_or}
use Rattle.std.proofs.lemmas.Bool.{cases_lt}
use Rattle.std.proofs.lemmas.List.{get_or_default}
use Rattle.std.proofs.lemmas.Bool.Decides.{nat_tests}
use Rattle.m161_symbols.specs.declared.named.Named.{Named}
use Rattle.m161_symbols.specs.declared.named.Place.{Place}
use Rattle.m161_symbols.specs.Names.{first_of, symbol_below}
use Rattle.m161_symbols.specs.helpers.{places_from, Splits}
use Rattle.m161_symbols.specs.Table.{has_value, seen, symbol_of, ArePlaces, IsRising}

-- The symbol below an address, found by places that rise.

-- the first that passes a test
module _ {X : Type 0} (test : X → Bool) where
  first_by : (t : Bool) (x : X) (xs : List X) → find test xs ≡ slice_get (filter test xs) 0
      → cond t (Some x) (find test xs) ≡ slice_get (cond t (x ∷ filter test xs) (filter test xs)) 0
  first_by true x xs rest = refl
  first_by false x xs rest = rest

  find_first : (xs : List X) → find test xs ≡ slice_get (filter test xs) 0
  find_first [] = refl
  find_first (x ∷ xs) = first_by (test x) x xs (find_first xs)

  pub find_same : (xs ys : List X) → filter test xs ≡ filter test ys → find test xs ≡ find test ys
  find_same xs ys e =
      find_first xs ∙ ap (λ zs. slice_get zs 0) e ∙ sym (find_first ys)

  passes_by : (t : Bool) (y x : X) (ys : List X) → test y ≡ t
      → (find test ys ≡ Some x → test x ≡ true)
      → cond t (Some y) (find test ys) ≡ Some x → test x ≡ true
  passes_by true y x ys is rest here = let same : y ≡ x = cc in ap test (sym same) ∙ is
  passes_by false y x ys is rest later = rest later

  pub find_passes : (xs : List X) (x : X) → find test xs ≡ Some x → test x ≡ true
  find_passes [] x found = absurd (cc)
  find_passes (y ∷ ys) x found = passes_by (test y) y x ys refl (find_passes ys x) found

  pub find_none : (xs : List X)
      → ((i : ℕ) (d : X) → i < length xs → test (get_or xs i d) ≡ false)
      → find test xs ≡ None
  find_none [] fails = refl
  find_none (x ∷ xs) fails =
      ap (λ t. cond t (Some x) (find test xs)) (fails 0 x (omega arith))
      ∙ find_none xs (λ i d h. fails (suc i) d (omega (arith, h)))

  pub find_at : (xs : List X) (i : ℕ) (d : X) → i < length xs → test (get_or xs i d) ≡ true
      → ((j : ℕ) (e : X) → j < i → test (get_or xs j e) ≡ false)
      → find test xs ≡ Some (get_or xs i d)
  find_at [] i d within passes fails = absurd (omega arith)
  find_at (x ∷ xs) zero d within passes fails =
      ap (λ t. cond t (Some x) (find test xs)) passes
  find_at (x ∷ xs) (suc i) d within passes fails =
      ap (λ t. cond t (Some x) (find test xs)) (fails 0 d (omega arith))
      ∙ find_at xs i d (omega (arith, within)) passes
      (λ j e h. fails (suc j) e (omega (arith, h)))

-- the first symbol of a value, by the places in the table's order
place_by : (t : Bool) (all ss : List (List ℕ × ℕ)) (s : List ℕ × ℕ) (n value : ℕ)
    → slice_get all n ≡ Some s
    → first_of ss value ≡ symbol_of all (find (has_value value) (places_from (n + 1) ss))
    → cond t (Some s) (first_of ss value)
    ≡ symbol_of all
    (cond t (Some (record { value = s.1; number = n }))
    (find (has_value value) (places_from (n + 1) ss)))
place_by true all ss s n value here later = sym here
place_by false all ss s n value here later = later

first_place : (all ss : List (List ℕ × ℕ)) (n value : ℕ)
    → ((k : ℕ) → slice_get all (n + k) ≡ slice_get ss k)
    → first_of ss value ≡ symbol_of all (find (has_value value) (places_from n ss))
first_place all [] n value same = refl
first_place all (s ∷ ss) n value same =
    let at : n ≡ n + 0 = omega arith in
    place_by (nat_eq s.1 value) all ss s n value (ap (slice_get all) at ∙ same 0)
    (first_place all ss (n + 1) value
    (λ k. let next : n + 1 + k ≡ n + suc k = omega arith in
    ap (slice_get all) next ∙ same (suc k)))

-- the numbers of the places in the table's order
number_by : (t : Bool) (ss : List (List ℕ × ℕ)) (s : List ℕ × ℕ) (n value : ℕ) (p : Place)
    → (find (has_value value) (places_from (n + 1) ss) ≡ Some p → p.number < n + 1 + length ss)
    → cond t (Some (record { value = s.1; number = n }))
    (find (has_value value) (places_from (n + 1) ss)) ≡ Some p
    → p.number < n + length (s ∷ ss)
number_by true ss s n value p rest here =
    let same : record { value = s.1; number = n } ≡ p = cc in
    let number : n ≡ p.number = ap (λ (q : Place). q.number) same in
    omega (arith, number)
number_by false ss s n value p rest later = omega (arith, rest later)

first_number : (ss : List (List ℕ × ℕ)) (n value : ℕ) (p : Place)
    → find (has_value value) (places_from n ss) ≡ Some p → p.number < n + length ss
first_number [] n value p found = absurd (cc)
first_number (s ∷ ss) n value p found =
    number_by (nat_eq s.1 value) ss s n value p (first_number ss (n + 1) value p) found

-- places that rise, made from those in the table's order
pub are_places : (all : List (List ℕ × ℕ)) (old new : List Place) → old ≡ places_from 0 all
    → IsRising new
    → ((value : ℕ) → filter (has_value value) new ≡ filter (has_value value) old)
    → ArePlaces all new
are_places all old new is rising same =
    let found = λ (value : ℕ).
    find_same (has_value value) new (places_from 0 all)
    (same value ∙ ap (filter (has_value value)) is) in
    record {
      rising = rising;
      firsts = λ value.
          first_place all all 0 value
          (λ k. let at : 0 + k ≡ k = omega arith in ap (slice_get all) at)
          ∙ ap (symbol_of all) (sym (found value));
      numbers = λ value p is. omega (arith, first_number all 0 value p (sym (found value) ∙ is));
    }

-- from an address down to a value
pub below_same : (symbols : List (List ℕ × ℕ)) (address value : ℕ) → value ≤ address
    → ((v : ℕ) → value < v → v ≤ address → first_of symbols v ≡ None)
    → symbol_below symbols address ≡ symbol_below symbols value
unfolding symbol_below
below_same symbols zero value le none =
    let same : zero ≡ value = omega arith in ap (symbol_below symbols) same
below_same symbols (suc below) value le none =
    elim (cases_lt value (suc below)) [
      | inl lower ↦
          ap (λ o. option_or o (symbol_below symbols below)) (none (suc below) lower (omega arith))
          ∙ below_same symbols below value (omega arith) (λ v h k. none v h (omega (arith, k)))
      | inr above ↦
          let same : suc below ≡ value = omega (arith, above) in ap (symbol_below symbols) same
    ]

pub below_here : (symbols : List (List ℕ × ℕ)) (value : ℕ) (s : List ℕ × ℕ)
    → first_of symbols value ≡ Some s → symbol_below symbols value ≡ Some s
unfolding symbol_below
below_here symbols zero s found = found
below_here symbols (suc below) s found =
    ap (λ o. option_or o (symbol_below symbols below)) found

pub below_none : (symbols : List (List ℕ × ℕ)) (address : ℕ)
    → ((v : ℕ) → v ≤ address → first_of symbols v ≡ None)
    → symbol_below symbols address ≡ None
unfolding symbol_below
below_none symbols zero none = none 0 (omega arith)
below_none symbols (suc below) none =
    ap (λ o. option_or o (symbol_below symbols below)) (none (suc below) (omega arith))
    ∙ below_none symbols below (λ v h. none v (omega (arith, h)))

low_by : (o p : Option (List ℕ × ℕ)) (below : ℕ) (s : List ℕ × ℕ) → o ≡ o
    → (o ≡ Some s → nat_eq s.1 (suc below) ≡ true) → (p ≡ Some s → s.1 ≤ below)
    → option_or o p ≡ Some s → s.1 ≤ suc below
low_by None p below s e passes rest found = omega (arith, rest found)
low_by (Some x) p below s e passes rest found =
    let test = passes found in grind (arith, nat_tests)

-- a symbol below an address isn't above it
pub below_low : (symbols : List (List ℕ × ℕ)) (address : ℕ) (s : List ℕ × ℕ)
    → symbol_below symbols address ≡ Some s → s.1 ≤ address
unfolding symbol_below
below_low symbols zero s found =
    let test = find_passes (λ x. nat_eq x.1 0) symbols s found in grind (arith, nat_tests)
below_low symbols (suc below) s found =
    low_by (first_of symbols (suc below)) (symbol_below symbols below) below s refl
    (find_passes (λ x. nat_eq x.1 (suc below)) symbols s) (below_low symbols below s) found

-- where no place has a value up to the address
pub nearest_none : (symbols : List (List ℕ × ℕ)) (places : List Place) (address : ℕ)
    → ArePlaces symbols places → Splits (address + 1) 0 places
    → symbol_below symbols address ≡ None
nearest_none symbols places address are splits =
    below_none symbols address
    (λ v h. are.firsts v
    ∙ ap (symbol_of symbols)
    (find_none (has_value v) places
    (λ i d k. let above = splits.above i d (omega arith) k in grind (arith, nat_tests))))

-- where some do, of which the last has the greatest value
module _ (symbols : List (List ℕ × ℕ)) (places : List Place) (address end first : ℕ) (d : Place)
    (are : ArePlaces symbols places) (some : 0 < end) (splits : Splits (address + 1) end places)
    (firsts : Splits (get_or places (end - 1) d).value first places) where
  abbrev value : ℕ
  value = (get_or places (end - 1) d).value

  inside : end - 1 < length places
  inside = omega (arith, some, splits.within)

  pub first_inside : first ≤ end - 1
  first_inside =
      elim (cases_lt (end - 1) first) [
        | inl less ↦ absurd (let low = firsts.below (end - 1) d less in omega arith)
        | inr more ↦ more
      ]

  pub first_value : (get_or places first d).value ≡ value
  first_value =
      let low = firsts.above first d (omega arith) (omega (arith, first_inside, inside)) in
      let high = are.rising first (end - 1) d first_inside inside in
      omega arith

  pub first_found : find (has_value value) places ≡ Some (get_or places first d)
  first_found =
      find_at (has_value value) places first d (omega (arith, first_inside, inside))
      (let e = first_value in grind (arith, nat_tests))
      (λ j e h. let low = firsts.below j e h in grind (arith, nat_tests))

  pub number_inside : (get_or places first d).number < length symbols
  number_inside = are.numbers value (get_or places first d) first_found

  pub value_low : value ≤ address
  value_low = let low = splits.below (end - 1) d (omega (arith, some)) in omega arith

  pub nearest_some : (s : List ℕ × ℕ)
      → slice_get symbols (get_or places first d).number ≡ Some s
      → symbol_below symbols address ≡ Some s
  nearest_some s is =
      below_same symbols address value value_low
      (λ v above high. are.firsts v
      ∙ ap (symbol_of symbols)
      (find_none (has_value v) places
      (λ i e k. elim (cases_lt i end) [
        | inl front ↦
            let le = are.rising i (end - 1) e (omega arith) inside in
            let same : get_or places (end - 1) e ≡ get_or places (end - 1) d =
            get_or_default places (end - 1) e d inside in
            let low = ap (λ (p : Place). p.value) same in
            grind (arith, nat_tests)
        | inr back ↦ let up = splits.above i e back k in grind (arith, nat_tests)
      ])))
      ∙ below_here symbols value s
      (are.firsts value ∙ ap (symbol_of symbols) first_found ∙ is)

-- what the middle place says of those before it and behind it
pub below_middle : (places : List Place) (bound m i : ℕ) (d e : Place) → IsRising places
    → m < length places → (slice_index_or places m e).value < bound → i < m + 1
    → (slice_index_or places i d).value < bound
below_middle places bound m i d e rising within low here =
    let up = rising i m e (omega arith) within in
    let same : get_or places i d ≡ get_or places i e =
    get_or_default places i d e (omega (arith, here, within)) in
    let value = ap (λ (p : Place). p.value) same in
    omega (arith, value, up, low)

pub above_middle : (places : List Place) (bound m i : ℕ) (d e : Place) → IsRising places
    → bound ≤ (slice_index_or places m e).value → m ≤ i → i < length places
    → bound ≤ (slice_index_or places i d).value
above_middle places bound m i d e rising high here within =
    let up = rising m i e here within in
    let same : get_or places i d ≡ get_or places i e = get_or_default places i d e within in
    let value = ap (λ (p : Place). p.value) same in
    omega (arith, value, up, high)

less_by : (t u : Bool) → is_lt (cond t Less (cond u Equal Greater)) ≡ t
less_by true u = refl
less_by false true = refl
less_by false false = refl

is_less : (a b : ℕ) → is_lt (nat_cmp a b) ≡ nat_lt a b
is_less a b = less_by (nat_lt a b) (nat_eq a b)

-- places that tie with a place are those of its value
ties_value : (value : ℕ) (p : Place) →
    ties (λ (x y : Place). is_lt (nat_cmp x.value y.value)) (record { value = value; number = 0 }) p
    ≡ has_value value p
ties_value value p =
    ap (λ t. not t && not (is_lt (nat_cmp p.value value))) (is_less value p.value)
    ∙ ap (λ t. not (nat_lt value p.value) && not t) (is_less p.value value)
    ∙ (let e : (not (nat_lt value p.value) && not (nat_lt p.value value)) ≡ nat_eq p.value value =
    grind (arith, nat_tests) in e)

pub same_filter : (value : ℕ) (new old : List Place)
    → filter
    (ties (λ (x y : Place). is_lt (nat_cmp x.value y.value)) (record { value = value; number = 0 }))
    new
    ≡ filter
    (ties (λ (x y : Place). is_lt (nat_cmp x.value y.value)) (record { value = value; number = 0 }))
    old
    → filter (has_value value) new ≡ filter (has_value value) old
same_filter value new old same =
    sym (λ i. filter (λ p. ties_value value p i) new) ∙ same
    ∙ (λ i. filter (λ p. ties_value value p i) old)

get_there : {X : Type 0} (xs : List X) (i : ℕ) (d : X) → i < length xs
    → slice_get xs i ≡ Some (get_or xs i d)
get_there [] i d within = absurd (omega arith)
get_there (x ∷ xs) zero d within = refl
get_there (x ∷ xs) (suc i) d within = get_there xs i d (omega (arith, within))

-- the number of the symbol below an address
pub number_is : (symbols : List (List ℕ × ℕ)) (places : List Place) (address end first : ℕ)
    (d : Place) → ArePlaces symbols places → 0 < end → Splits (address + 1) end places
    → Splits (get_or places (end - 1) d).value first places
    → slice_get symbols (get_or places first d).number ≡ symbol_below symbols address
number_is symbols places address end first d are some splits firsts =
    let inside = number_inside symbols places address end first d are some splits firsts in
    let there =
    get_there symbols (get_or places first d).number ([], 0) inside in
    there
    ∙ sym (nearest_some symbols places address end first d are some splits firsts _ there)

get_seen : (symbols : List Named) (i : ℕ) (d : Named) → i < length symbols
    → slice_get (map seen symbols) i ≡ Some (seen (get_or symbols i d))
get_seen [] i d within = absurd (omega arith)
get_seen (s ∷ ss) zero d within = refl
get_seen (s ∷ ss) (suc i) d within = get_seen ss i d (omega (arith, within))

pub symbol_there : (symbols : List Named) (n address : ℕ) (s : Named)
    → slice_get (map seen symbols) n ≡ symbol_below (map seen symbols) address
    → n < length symbols → s ≡ get_or symbols n s
    → symbol_below (map seen symbols) address ≡ Some (seen s)
symbol_there symbols n address s found within is =
    sym found ∙ get_seen symbols n s within ∙ ap (λ x. Some (seen x)) (sym is)
