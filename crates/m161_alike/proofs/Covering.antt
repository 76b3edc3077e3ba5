use Rattle.std.proofs.Common.{◌≡◌, ◌≢◌, ◌⊎◌, inl, inr, ◌∙◌, refl, ap, sym, subst, ℕ, zero, suc, ◌+◌, ◌*◌, ◌/◌, ◌%◌, ◌<◌, ◌≤◌, arith, Bool, true, false, List, [], ◌∷◌, ◌++◌, length, drop, get_or, take}
use Rattle.std.specs.Prelude.{◌==◌, All, flat_map, if◌then◌else◌, nat_lt}
use Rattle.std.specs.List.{Contains, range_with_len}
use Rattle.std.proofs.lemmas.Bool.Decides.{nat_tests}
use Rattle.m161_ram.specs.Word.{word_at}
use Rattle.m161_alike.specs.Words.{memory_words, word_change}
use Rattle.m161_alike.specs.Addresses.{Cover, Rise, addresses_in, with_address}

-- The addresses of the words that may differ from boot's.

-- one of ascending addresses

pub in_first : (p at : ℕ) (ps : List ℕ) → p ≡ at → Contains (p ∷ ps) at
in_first p at ps is = (0, omega arith, is)

pub in_rest : (p at : ℕ) (ps : List ℕ) → Contains ps at → Contains (p ∷ ps) at
in_rest p at ps h = let less = h.1 in (suc h.0, omega (arith, less), h.2)

in_none : (at k : ℕ) → k < length {A = ℕ} [] → ⊥
in_none at k less = omega (arith, less)

pub split_at : (p at : ℕ) (ps : List ℕ) (k : ℕ) → k < length (p ∷ ps) → get_or (p ∷ ps) k at ≡ at → (p ≡ at) ⊎ Contains ps at
split_at p at ps zero less is = inl is
split_at p at ps (suc k) less is = inr (k, omega (arith, less), is)

least_at : (from : ℕ) (ps : List ℕ) (at k : ℕ) → Rise from ps → k < length ps → get_or ps k at ≡ at → from ≤ at
least_at from [] at k h less is = absurd (let bad : ⊥ = omega (arith, less) in bad)
least_at from (p ∷ ps) at zero h less is = let low = h.0 in omega (arith, low, is)
least_at from (p ∷ ps) at (suc k) h less is =
    let low = h.0 in
    let rest = least_at (p + 4) ps at k h.2 (omega (arith, less)) is in
    omega (arith, low, rest)

pub whole_at : (from : ℕ) (ps : List ℕ) (k d : ℕ) → Rise from ps → k < length ps → get_or ps k d % 4 ≡ 0
whole_at from [] k d h less = absurd (let bad : ⊥ = omega (arith, less) in bad)
whole_at from (p ∷ ps) zero d h less = h.1
whole_at from (p ∷ ps) (suc k) d h less = whole_at (p + 4) ps k d h.2 (omega (arith, less))

pub any_default : (xs : List ℕ) (i d e : ℕ) → i < length xs → get_or xs i d ≡ get_or xs i e
any_default [] i d e inside = absurd (let bad : ⊥ = omega (arith, inside) in bad)
any_default (x ∷ xs) zero d e inside = refl
any_default (x ∷ xs) (suc i) d e inside = any_default xs i d e (omega (arith, inside))

-- the words that differ are those at the places that do

abbrev changes : List ℕ → List ℕ → ℕ → ℕ → List ℕ
changes boot m i n = flat_map (λ j. word_change boot m (4 * j)) (range_with_len i n)

-- from place i on, n words: the addresses are of these, and no other word differs
record Has (boot m : List ℕ) (i n : ℕ) (ps : List ℕ) : Type 0 where
  rise : Rise (4 * i) ps
  within : (k d : ℕ) → k < length ps → get_or ps k d + 4 ≤ 4 * (i + n)
  none : (k : ℕ) → k < n → (Contains ps (4 * (i + k)) → ⊥) → word_change boot m (4 * (i + k)) ≡ []

first_none : (boot m : List ℕ) (i n : ℕ) (ps : List ℕ) → Has boot m i (suc n) ps → (Contains ps (4 * i) → ⊥) → word_change boot m (4 * i) ≡ []
first_none boot m i n ps h out =
    let here : i + 0 ≡ i = omega arith in
    subst (λ j. word_change boot m (4 * j) ≡ []) here
    (h.none 0 (omega arith) (λ (c : Contains ps (4 * (i + 0))). out (subst (λ j. Contains ps (4 * j)) here c)))

next_none : (boot m : List ℕ) (i n k : ℕ) (ps qs : List ℕ) → Has boot m i (suc n) ps → k < n → (Contains ps (4 * (i + 1 + k)) → Contains qs (4 * (i + 1 + k))) →
    (Contains qs (4 * (i + 1 + k)) → ⊥) → word_change boot m (4 * (i + 1 + k)) ≡ []
next_none boot m i n k ps qs h less leads out =
    let there : i + suc k ≡ i + 1 + k = omega arith in
    subst (λ j. word_change boot m (4 * j) ≡ []) there
    (h.none (suc k) (omega (arith, less)) (λ (c : Contains ps (4 * (i + suc k))). out (leads (subst (λ j. Contains ps (4 * j)) there c))))

no_place : (boot m : List ℕ) (i n : ℕ) → Has boot m i (suc n) [] → Has boot m (i + 1) n []
no_place boot m i n h = record {
  rise = tt;
  within = λ k d less. absurd (in_none d k less);
  none = λ k less out. next_none boot m i n k [] [] h less (λ c. c) out;
}

-- p is at place i
place_here : (boot m : List ℕ) (i n p : ℕ) (ps : List ℕ) → p ≡ 4 * i → Has boot m i (suc n) (p ∷ ps) → Has boot m (i + 1) n ps
place_here boot m i n p ps is h =
    let next : p + 4 ≡ 4 * (i + 1) = omega (arith, is) in
    record {
      rise = subst (λ from. Rise from ps) next h.rise.2;
      within = λ k d less. (let w = h.within (suc k) d (omega (arith, less)) in omega (arith, w));
      none = λ k less out. next_none boot m i n k (p ∷ ps) ps h less
          (λ c. elim (split_at p (4 * (i + 1 + k)) ps c.0 c.1 c.2) [
            | inl same ↦ absurd (let bad : ⊥ = omega (arith, same, is) in bad)
            | inr there ↦ there
          ]) out;
    }

-- p is behind place i
place_behind : (boot m : List ℕ) (i n p : ℕ) (ps : List ℕ) → 4 * i < p → Has boot m i (suc n) (p ∷ ps) → Has boot m (i + 1) n (p ∷ ps)
place_behind boot m i n p ps past h =
    let al = h.rise.1 in
    record {
      rise = (omega (arith, past, al), al, h.rise.2);
      within = λ k d less. (let w = h.within k d less in omega (arith, w));
      none = λ k less out. next_none boot m i n k (p ∷ ps) (p ∷ ps) h less (λ c. c) out;
    }

place_by : (test : Bool) (boot m : List ℕ) (i n p : ℕ) (ps : List ℕ) → (p == 4 * i) ≡ test → Has boot m i (suc n) (p ∷ ps) →
    ((qs : List ℕ) → Has boot m (i + 1) n qs → changes boot m (i + 1) n ≡ flat_map (word_change boot m) qs) →
    word_change boot m (4 * i) ++ changes boot m (i + 1) n ≡ word_change boot m p ++ flat_map (word_change boot m) ps
place_by true boot m i n p ps is h on =
    let same : p ≡ 4 * i = grind (arith, nat_tests, is) in
    ap (λ at. word_change boot m at ++ changes boot m (i + 1) n) (sym same)
    ∙ ap (λ l. word_change boot m p ++ l) (on ps (place_here boot m i n p ps same h))
place_by false boot m i n p ps is h on =
    let low = h.rise.0 in
    let other : p ≢ 4 * i = grind (arith, nat_tests, is) in
    let past : 4 * i < p = omega (arith, low, other) in
    let out : Contains (p ∷ ps) (4 * i) → ⊥ = λ c.
    (let least = least_at p (p ∷ ps) (4 * i) c.0 (omega arith, h.rise.1, h.rise.2) c.1 c.2 in omega (arith, past, least)) in
    ap (λ l. l ++ changes boot m (i + 1) n) (first_none boot m i n (p ∷ ps) h out)
    ∙ on (p ∷ ps) (place_behind boot m i n p ps past h)

words_of : (boot m : List ℕ) (i n : ℕ) (ps : List ℕ) → Has boot m i n ps → changes boot m i n ≡ flat_map (word_change boot m) ps
words_of boot m i zero [] h = refl
words_of boot m i zero (p ∷ ps) h =
    let low = h.rise.0 in
    let last = h.within 0 0 (omega arith) in
    absurd (let bad : ⊥ = omega (arith, low, last) in bad)
words_of boot m i (suc n) [] h =
    ap (λ l. l ++ changes boot m (i + 1) n) (first_none boot m i n [] h (λ c. in_none (4 * i) c.0 c.1))
    ∙ words_of boot m (i + 1) n [] (no_place boot m i n h)
words_of boot m i (suc n) (p ∷ ps) h = place_by (p == 4 * i) boot m i n p ps refl h (λ qs. words_of boot m (i + 1) n qs)

unchanged : (boot m : List ℕ) (at : ℕ) → word_at m at ≡ word_at boot at → word_change boot m at ≡ []
unchanged boot m at same =
    let yes : (word_at m at == word_at boot at) ≡ true = grind (arith, nat_tests, same) in
    ap (λ t. if t then [] else at ∷ word_at m at ∷ []) yes

pub words_at_addresses : (boot m places : List ℕ) → Cover boot m places → memory_words boot m ≡ flat_map (word_change boot m) places
words_at_addresses boot m places h = words_of boot m 0 (length m / 4) places (record {
  rise = h.rise;
  within = λ k d less.
      (let w = h.within k d less in
      let al = whole_at 0 places k d h.rise less in
      omega (arith, w, al));
  none = λ k less out. unchanged boot m (4 * (0 + k)) (h.others (4 * (0 + k)) (omega arith) (omega (arith, less)) out);
})

-- one address more

rise_by : (s t : Bool) (from at p : ℕ) (ps : List ℕ) → nat_lt p at ≡ s → (p == at) ≡ t → Rise from (p ∷ ps) → from ≤ at → at % 4 ≡ 0 →
    (p + 4 ≤ at → Rise (p + 4) (with_address at ps)) → Rise from (if s then p ∷ with_address at ps else if t then p ∷ ps else at ∷ p ∷ ps)
rise_by true t from at p ps hs ht h le al on =
    let less : p < at = grind (arith, nat_tests, hs) in
    let whole = h.1 in (h.0, whole, on (omega (arith, less, whole, al)))
rise_by false true from at p ps hs ht h le al on = h
rise_by false false from at p ps hs ht h le al on =
    let no_less : at ≤ p = grind (arith, nat_tests, hs) in
    let other : p ≢ at = grind (arith, nat_tests, ht) in
    let whole = h.1 in (le, al, (omega (arith, no_less, other, whole, al), whole, h.2))

rise_with : (from at : ℕ) (ps : List ℕ) → Rise from ps → from ≤ at → at % 4 ≡ 0 → Rise from (with_address at ps)
rise_with from at [] h le al = (le, al, tt)
rise_with from at (p ∷ ps) h le al =
    rise_by (nat_lt p at) (p == at) from at p ps refl refl h le al (λ past. rise_with (p + 4) at ps h.2 past al)

has_by : (s t : Bool) (at p : ℕ) (ps : List ℕ) → (p == at) ≡ t → Contains (with_address at ps) at →
    Contains (if s then p ∷ with_address at ps else if t then p ∷ ps else at ∷ p ∷ ps) at
has_by true t at p ps ht on = in_rest p at (with_address at ps) on
has_by false true at p ps ht on = in_first p at ps (grind (arith, nat_tests, ht))
has_by false false at p ps ht on = in_first at at (p ∷ ps) refl

has_with : (at : ℕ) (ps : List ℕ) → Contains (with_address at ps) at
has_with at [] = in_first at at [] refl
has_with at (p ∷ ps) = has_by (nat_lt p at) (p == at) at p ps refl (has_with at ps)

keeps_by : (s t : Bool) (at p other : ℕ) (ps : List ℕ) → Contains (p ∷ ps) other → (Contains ps other → Contains (with_address at ps) other) →
    Contains (if s then p ∷ with_address at ps else if t then p ∷ ps else at ∷ p ∷ ps) other
keeps_by true t at p other ps h on = elim (split_at p other ps h.0 h.1 h.2) [
  | inl same ↦ in_first p other (with_address at ps) same
  | inr there ↦ in_rest p other (with_address at ps) (on there)
]
keeps_by false true at p other ps h on = h
keeps_by false false at p other ps h on = in_rest at other (p ∷ ps) h

keeps_with : (at other : ℕ) (ps : List ℕ) → Contains ps other → Contains (with_address at ps) other
keeps_with at other [] h = absurd (in_none other h.0 h.1)
keeps_with at other (p ∷ ps) h = keeps_by (nat_lt p at) (p == at) at p other ps h (keeps_with at other ps)

all_cons : (P : ℕ → Type 0) (p : ℕ) (ps : List ℕ) → P p → All P ps → All P (p ∷ ps)
all_cons P p ps first rest zero d less = first
all_cons P p ps first rest (suc k) d less = rest k d (omega (arith, less))

all_by : (P : ℕ → Type 0) (s t : Bool) (at p : ℕ) (ps : List ℕ) → All P (p ∷ ps) → P at → All P (with_address at ps) →
    All P (if s then p ∷ with_address at ps else if t then p ∷ ps else at ∷ p ∷ ps)
all_by P true t at p ps all here on = all_cons P p (with_address at ps) (all 0 0 (omega arith)) on
all_by P false true at p ps all here on = all
all_by P false false at p ps all here on = all_cons P at (p ∷ ps) here all

all_with : (P : ℕ → Type 0) (at : ℕ) (ps : List ℕ) → All P ps → P at → All P (with_address at ps)
all_with P at [] all here = all_cons P at [] here all
all_with P at (p ∷ ps) all here =
    all_by P (nat_lt p at) (p == at) at p ps all here (all_with P at ps (λ k d less. all (suc k) d (omega (arith, less))) here)

-- memory at boot, behind a store, and behind none

pub cover_none : (boot : List ℕ) → Cover boot boot []
cover_none boot = record { rise = tt; within = λ k d less. absurd (in_none d k less); others = λ at al inside out. refl }

pub cover_same : (boot m n places : List ℕ) → Cover boot m places → length n ≡ length m →
    ((at : ℕ) → at % 4 ≡ 0 → at + 4 ≤ length m → word_at n at ≡ word_at m at) → Cover boot n places
cover_same boot m n places h size same = record {
  rise = h.rise;
  within = λ k d less. (let w = h.within k d less in omega (arith, w, size));
  others = λ at al inside out.
      (let there : at + 4 ≤ length m = omega (arith, inside, size) in same at al there ∙ h.others at al there out);
}

pub cover_stored : (boot m n places : List ℕ) (at : ℕ) → Cover boot m places → at % 4 ≡ 0 → at + 4 ≤ length m → length n ≡ length m →
    ((other : ℕ) → other % 4 ≡ 0 → at ≢ other → word_at n other ≡ word_at m other) → Cover boot n (with_address at places)
cover_stored boot m n places at h al inside size same = record {
  rise = rise_with 0 at places h.rise (omega arith) al;
  within = all_with (λ p. p + 4 ≤ length n) at places (λ k d less. (let w = h.within k d less in omega (arith, w, size))) (omega (arith, inside, size));
  others = λ other whole there out.
      same other whole (λ is. out (subst (Contains (with_address at places)) is (has_with at places)))
      ∙ h.others other whole (omega (arith, there, size)) (λ c. out (keeps_with at other places c));
}

-- the addresses before the words of memory

lower : (from low : ℕ) (ps : List ℕ) → low ≤ from → Rise from ps → Rise low ps
lower from low [] le h = tt
lower from low (p ∷ ps) le h = let first = h.0 in (omega (arith, le, first), h.1, h.2)

rise_told : (test : Bool) (at w : ℕ) (rest : List ℕ) → at % 4 ≡ 0 → Rise (at + 4) (addresses_in rest) →
    Rise at (addresses_in ((if test then [] else at ∷ w ∷ []) ++ rest))
rise_told true at w rest al h = lower (at + 4) at (addresses_in rest) (omega arith) h
rise_told false at w rest al h = (omega arith, al, h)

told_rise : (boot m : List ℕ) (i n : ℕ) → Rise (4 * i) (addresses_in (changes boot m i n))
told_rise boot m i zero = tt
told_rise boot m i (suc n) =
    let next : 4 * (i + 1) ≡ 4 * i + 4 = omega arith in
    rise_told (word_at m (4 * i) == word_at boot (4 * i)) (4 * i) (word_at m (4 * i)) (changes boot m (i + 1) n) (omega arith)
    (subst (λ from. Rise from (addresses_in (changes boot m (i + 1) n))) next (told_rise boot m (i + 1) n))

all_told : (P : ℕ → Type 0) (test : Bool) (at w : ℕ) (rest : List ℕ) → P at → All P (addresses_in rest) →
    All P (addresses_in ((if test then [] else at ∷ w ∷ []) ++ rest))
all_told P true at w rest here all = all
all_told P false at w rest here all = all_cons P at (addresses_in rest) here all

told_within : (boot m : List ℕ) (i n size : ℕ) → 4 * (i + n) ≤ size → All (λ at. at + 4 ≤ size) (addresses_in (changes boot m i n))
told_within boot m i zero size le = λ k d less. absurd (in_none d k less)
told_within boot m i (suc n) size le =
    all_told (λ at. at + 4 ≤ size) (word_at m (4 * i) == word_at boot (4 * i)) (4 * i) (word_at m (4 * i)) (changes boot m (i + 1) n)
    (omega (arith, le)) (told_within boot m (i + 1) n size (omega (arith, le)))

rest_told : (test : Bool) (at w other : ℕ) (rest : List ℕ) → Contains (addresses_in rest) other →
    Contains (addresses_in ((if test then [] else at ∷ w ∷ []) ++ rest)) other
rest_told true at w other rest h = h
rest_told false at w other rest h = in_rest at other (addresses_in rest) h

first_told : (test : Bool) (at w b : ℕ) (rest : List ℕ) → (w == b) ≡ test → (Contains (addresses_in ((if test then [] else at ∷ w ∷ []) ++ rest)) at → ⊥) → w ≡ b
first_told true at w b rest is out = grind (arith, nat_tests, is)
first_told false at w b rest is out = absurd (out (in_first at at (addresses_in rest) refl))

told_others : (boot m : List ℕ) (i n k : ℕ) → k < n → (Contains (addresses_in (changes boot m i n)) (4 * (i + k)) → ⊥) →
    word_at m (4 * (i + k)) ≡ word_at boot (4 * (i + k))
told_others boot m i zero k less out = absurd (let bad : ⊥ = omega (arith, less) in bad)
told_others boot m i (suc n) zero less out =
    let here : i + 0 ≡ i = omega arith in
    subst (λ j. word_at m (4 * j) ≡ word_at boot (4 * j)) (sym here)
    (first_told (word_at m (4 * i) == word_at boot (4 * i)) (4 * i) (word_at m (4 * i)) (word_at boot (4 * i)) (changes boot m (i + 1) n) refl
    (λ c. out (subst (λ j. Contains (addresses_in (changes boot m i (suc n))) (4 * j)) (sym here) c)))
told_others boot m i (suc n) (suc k) less out =
    let there : i + 1 + k ≡ i + suc k = omega arith in
    subst (λ j. word_at m (4 * j) ≡ word_at boot (4 * j)) there
    (told_others boot m (i + 1) n k (omega (arith, less))
    (λ c. out (subst (λ j. Contains (addresses_in (changes boot m i (suc n))) (4 * j)) there
    (rest_told (word_at m (4 * i) == word_at boot (4 * i)) (4 * i) (word_at m (4 * i)) (4 * (i + 1 + k)) (changes boot m (i + 1) n) c))))

pub cover_told : (boot m : List ℕ) → Cover boot m (addresses_in (memory_words boot m))
cover_told boot m = record {
  rise = told_rise boot m 0 (length m / 4);
  within = told_within boot m 0 (length m / 4) (length m) (omega arith);
  others = λ at al inside out.
      (let here : 4 * (0 + at / 4) ≡ at = omega (arith, al) in
      subst (λ p. word_at m p ≡ word_at boot p) here
      (told_others boot m 0 (length m / 4) (at / 4) (omega (arith, al, inside))
      (λ c. out (subst (Contains (addresses_in (memory_words boot m))) here c))));
}

-- an address more is put before the first that is higher

insert_by : (s t : Bool) (at p i : ℕ) (ps : List ℕ) → nat_lt p at ≡ s → (p == at) ≡ t → (i ≡ 0 → at < p) → (0 < i → p < at) →
    ((j : ℕ) → i ≡ suc j → take j ps ++ at ∷ drop j ps ≡ with_address at ps) →
    take i (p ∷ ps) ++ at ∷ drop i (p ∷ ps) ≡ (if s then p ∷ with_address at ps else if t then p ∷ ps else at ∷ p ∷ ps)
insert_by true t at p zero ps hs ht first later on =
    let less : p < at = grind (arith, nat_tests, hs) in
    let past = first refl in absurd (let bad : ⊥ = omega (arith, less, past) in bad)
insert_by true t at p (suc j) ps hs ht first later on = ap (λ l. p ∷ l) (on j refl)
insert_by false t at p (suc j) ps hs ht first later on =
    let no_less : at ≤ p = grind (arith, nat_tests, hs) in
    let less = later (omega arith) in absurd (let bad : ⊥ = omega (arith, no_less, less) in bad)
insert_by false true at p zero ps hs ht first later on =
    let same : p ≡ at = grind (arith, nat_tests, ht) in
    let past = first refl in absurd (let bad : ⊥ = omega (arith, same, past) in bad)
insert_by false false at p zero ps hs ht first later on = refl

pub inserted : (at i : ℕ) (ps : List ℕ) → i ≤ length ps → ((k d : ℕ) → k < i → get_or ps k d < at) →
    ((d : ℕ) → i < length ps → at < get_or ps i d) → take i ps ++ at ∷ drop i ps ≡ with_address at ps
inserted at zero [] within below above = refl
inserted at (suc i) [] within below above = absurd (let bad : ⊥ = omega (arith, within) in bad)
inserted at i (p ∷ ps) within below above =
    insert_by (nat_lt p at) (p == at) at p i ps refl refl
    (λ is. subst (λ (j : ℕ). at < get_or (p ∷ ps) j 0) is (above 0 (omega (arith, is))))
    (λ some. below 0 0 some)
    (λ j is. inserted at j ps (omega (arith, within, is)) (λ k d less. below (suc k) d (omega (arith, less, is)))
    (λ d less. subst (λ (x : ℕ). at < get_or (p ∷ ps) x d) is (above d (omega (arith, less, is)))))

there_by : (s t : Bool) (at p i : ℕ) (ps : List ℕ) → nat_lt p at ≡ s → (p == at) ≡ t → (i ≡ 0 → p ≡ at) → (0 < i → p < at) →
    ((j : ℕ) → i ≡ suc j → ps ≡ with_address at ps) → p ∷ ps ≡ (if s then p ∷ with_address at ps else if t then p ∷ ps else at ∷ p ∷ ps)
there_by true t at p zero ps hs ht first later on =
    let less : p < at = grind (arith, nat_tests, hs) in
    let same = first refl in absurd (let bad : ⊥ = omega (arith, less, same) in bad)
there_by true t at p (suc j) ps hs ht first later on = ap (λ l. p ∷ l) (on j refl)
there_by false true at p i ps hs ht first later on = refl
there_by false false at p zero ps hs ht first later on =
    let other : p ≢ at = grind (arith, nat_tests, ht) in absurd (other (first refl))
there_by false false at p (suc j) ps hs ht first later on =
    let no_less : at ≤ p = grind (arith, nat_tests, hs) in
    let less = later (omega arith) in absurd (let bad : ⊥ = omega (arith, no_less, less) in bad)

pub there_already : (at i : ℕ) (ps : List ℕ) → i < length ps → ((k d : ℕ) → k < i → get_or ps k d < at) → ((d : ℕ) → get_or ps i d ≡ at) →
    ps ≡ with_address at ps
there_already at i [] within below is = absurd (let bad : ⊥ = omega (arith, within) in bad)
there_already at i (p ∷ ps) within below is =
    there_by (nat_lt p at) (p == at) at p i ps refl refl (λ zero_is. subst (λ (j : ℕ). get_or (p ∷ ps) j 0 ≡ at) zero_is (is 0)) (λ some. below 0 0 some)
    (λ j suc_is. there_already at j ps (omega (arith, within, suc_is)) (λ k d less. below (suc k) d (omega (arith, less, suc_is)))
    (λ d. subst (λ (x : ℕ). get_or (p ∷ ps) x d ≡ at) suc_is (is d)))

-- the addresses before words, two words more

pub two_told : (ws : List ℕ) (i : ℕ) → 2 * i + 2 ≤ length ws → addresses_in (take (2 * (i + 1)) ws) ≡ addresses_in (take (2 * i) ws) ++ get_or ws (2 * i) 0 ∷ []
two_told [] i le = absurd (let bad : ⊥ = omega (arith, le) in bad)
two_told (x ∷ []) i le = absurd (let bad : ⊥ = omega (arith, le) in bad)
two_told (x ∷ y ∷ ws) zero le = refl
two_told (x ∷ y ∷ ws) (suc i) le =
    let a : 2 * (suc i + 1) ≡ suc (suc (2 * (i + 1))) = omega arith in
    let b : 2 * suc i ≡ suc (suc (2 * i)) = omega arith in
    ap (λ n. addresses_in (take n (x ∷ y ∷ ws))) a
    ∙ ap (λ l. x ∷ l) (two_told ws i (omega (arith, le)))
    ∙ sym (λ j. addresses_in (take (b j) (x ∷ y ∷ ws)) ++ get_or (x ∷ y ∷ ws) (b j) 0 ∷ [])

pub all_told_at : (ws : List ℕ) (i : ℕ) → length ws < 2 * i + 2 → addresses_in (take (2 * i) ws) ≡ addresses_in ws
all_told_at [] zero less = refl
all_told_at [] (suc i) less =
    let b : 2 * suc i ≡ suc (suc (2 * i)) = omega arith in ap (λ n. addresses_in (take n [])) b
all_told_at (x ∷ []) zero less = refl
all_told_at (x ∷ []) (suc i) less =
    let b : 2 * suc i ≡ suc (suc (2 * i)) = omega arith in ap (λ n. addresses_in (take n (x ∷ []))) b
all_told_at (x ∷ y ∷ ws) zero less = absurd (let bad : ⊥ = omega (arith, less) in bad)
all_told_at (x ∷ y ∷ ws) (suc i) less =
    let b : 2 * suc i ≡ suc (suc (2 * i)) = omega arith in
    ap (λ n. addresses_in (take n (x ∷ y ∷ ws))) b
    ∙ ap (λ l. x ∷ l) (all_told_at ws i (omega (arith, less)))
