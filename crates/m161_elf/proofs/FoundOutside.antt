use Rattle.std.proofs.Common.{◌≡◌, ◌∙◌, ℕ, suc, ◌+◌, ◌<◌, Bool, true, false, cond, if◌then◌else◌, List, [], ◌∷◌, length, get_or, map, Option, None, Some, refl, ap, arith}
use Rattle.std.specs.Prelude.{◌≢◌, filter, not, ◌&&◌, nat_lt, position, option_map, IsSome}
use Rattle.std.specs.List.{list_any, position_or_len, range_with_len}
use Rattle.std.proofs.lemmas.Bool.{le-ltb, lt-ltb}
use Rattle.std.proofs.lemmas.List.FromFn.{get_or-map-range_with_len, length-map-range_with_len}
use Rattle.std.proofs.lemmas.List.Sums.{position_or_len_is}
use Rattle.m161_elf.specs.declared.image.LoadError.{LoadError}
use Rattle.m161_elf.specs.declared.image.LoadError.TheVariants as fault
use Rattle.m161_elf.specs.Header.{e_phnum, headers, is_load, segments}
use Rattle.m161_elf.specs.Image.{first_fault, has_bad_header_table, is_not_elf32_big, is_not_executable, is_not_mips, is_outside_file, is_outside_ram, is_truncated}
use Rattle.m161_elf.specs.Outside.{first_outside_ram, is_at_fault, outside_at}

-- A file with a segment that isn't in RAM has a first one.

-- the fault that is found is that of a later test
later : (test : Bool) (e : LoadError) (rest : Option LoadError) → e ≢ fault.SegmentOutsideRam
    → (if test then Some e else rest) ≡ Some fault.SegmentOutsideRam
    → (test ≡ false) × (rest ≡ Some fault.SegmentOutsideRam)
later true e rest not is = let same : e ≡ fault.SegmentOutsideRam = cc in absurd (not same)
later false e rest not is = (refl, is)

-- it is that of this test, or of two later ones
here : (test larger bad : Bool)
    → (if test then Some fault.SegmentOutsideRam
    else (if larger then Some fault.FileLargerThanMemory
    else (if bad then Some fault.BadEntry else None)))
    ≡ Some fault.SegmentOutsideRam
    → test ≡ true
here true larger bad is = refl
here false true bad is = absurd (cc)
here false false true is = absurd (cc)
here false false false is = absurd (cc)

-- the first element of a kind that passes a test has a place
module _ {X : Type 0} (kind test : X → Bool) where
  placed_more : (k t : Bool) (x : X) (ys : List X) (place n : ℕ) → test x ≡ t
      → (list_any test ys ≡ true → place < n)
      → list_any test (cond k (x ∷ ys) ys) ≡ true
      → cond (not (k && t)) (1 + place) 0 < suc n
  placed_more true true x ys place n is rest any = omega arith
  placed_more true false x ys place n is rest any =
      let left : list_any test ys ≡ true = rw is at any in
      let more = rest left in omega (arith, more)
  placed_more false t x ys place n is rest any = let more = rest any in omega (arith, more)

  pub placed : (xs : List X) → list_any test (filter kind xs) ≡ true
      → position_or_len (λ x. kind x && test x) xs < length xs
  placed [] any = absurd (cc)
  placed (x ∷ xs) any =
      placed_more (kind x) (test x) x (filter kind xs)
      (position_or_len (λ x. kind x && test x) xs) (length xs) refl (placed xs) any

-- a place below the length is found
some_at : {X : Type 0} (f : ℕ → X) (place n : ℕ) → place < n
    → IsSome (option_map f (cond (nat_lt place n) (Some place) None))
some_at f place n below = rw (lt-ltb place n below) refl

pub found : (file : List ℕ) (ram : ℕ) → first_fault file ram ≡ Some fault.SegmentOutsideRam
    → IsSome (first_outside_ram file ram)
unfolding first_fault first_outside_ram
found file ram is =
    let first = later (is_truncated file) _ _ (λ e. cc) is in
    let second = later (is_not_elf32_big file) _ _ (λ e. cc) first.1 in
    let third = later (is_not_executable file) _ _ (λ e. cc) second.1 in
    let fourth = later (is_not_mips file) _ _ (λ e. cc) third.1 in
    let fifth = later (has_bad_header_table file) _ _ (λ e. cc) fourth.1 in
    let sixth = later (list_any (is_outside_file file) (segments file)) _ _ (λ e. cc) fifth.1 in
    let seventh : list_any (is_outside_ram ram) (segments file) ≡ true = here _ _ _ sixth.1 in
    let hs = headers file (e_phnum file) in
    let below = placed is_load (is_outside_ram ram) hs seventh in
    rw (first.0, fifth.0)
    (some_at (outside_at file ram) (position_or_len (is_at_fault ram) hs) (length hs) below)

-- The first element of a list made from a function that passes a test.

module _ {X : Type 0} (f : ℕ → X) (test : X → Bool) (n : ℕ) (d : X) where
  at : (k : ℕ) → k < n → get_or (map f (range_with_len 0 n)) k d ≡ f k
  at k below = get_or-map-range_with_len f 0 n k k d below (omega arith)

  -- its place, where none before it passes
  pub place_is : (i : ℕ) → i < n → ((k : ℕ) → k < i → test (f k) ≡ false) → test (f i) ≡ true
      → position test (map f (range_with_len 0 n)) ≡ Some i
  place_is i within before here =
      let xs = map f (range_with_len 0 n) in
      let long : length xs ≡ n = length-map-range_with_len f 0 n in
      let is : position_or_len test xs ≡ i =
      position_or_len_is test xs i d (omega (arith, long))
      (λ k below. ap test (at k (omega arith)) ∙ before k below)
      (λ _. ap test (at i within) ∙ here) in
      ap (λ p. cond (nat_lt p (length xs)) (Some p) None) is
      ∙ ap (λ l. cond (nat_lt i l) (Some i) None) long
      ∙ ap (λ t. cond t (Some i) None) (lt-ltb i n within)

  -- none passes
  pub no_place : ((k : ℕ) → k < n → test (f k) ≡ false)
      → position test (map f (range_with_len 0 n)) ≡ None
  no_place none =
      let xs = map f (range_with_len 0 n) in
      let long : length xs ≡ n = length-map-range_with_len f 0 n in
      let is : position_or_len test xs ≡ n =
      position_or_len_is test xs n d (omega (arith, long))
      (λ k below. ap test (at k below) ∙ none k below)
      (λ below. absurd (omega (arith, long))) in
      ap (λ p. cond (nat_lt p (length xs)) (Some p) None) is
      ∙ ap (λ l. cond (nat_lt n l) (Some n) None) long
      ∙ ap (λ t. cond t (Some n) None) (le-ltb n n (omega arith))
