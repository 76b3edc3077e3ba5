use Rattle.std.proofs.Common.{◌≡◌, ◌≢◌, ◌⊎◌, inl, inr, ◌∙◌, refl, ap, sym, subst, arith, ℕ, ◌+◌, ◌<◌, ◌≤◌, Bool, true, false, List, [], ◌∷◌, ◌++◌, length, map, take, drop, get_or, Option, None, Some}
use Rattle.std.proofs.lemmas.Bool.{cases_order}
use Rattle.std.proofs.lemmas.List.{get_or_default, length-set}
use Rattle.std.proofs.lemmas.List.Edits.{map_over_more}
use Rattle.std.proofs.lemmas.List.Elements.{All-get_or, All-head, All-map, All-more, All-tail, All-weaker}
use Rattle.std.proofs.lemmas.Option.{get_or_from_slice_get, slice_get-get_or, slice_get_cases, slice_get_within}
use Rattle.std.proofs.lemmas.Bool.Decides.{eqb_tells}
use Rattle.std.specs.Prelude.{◌==◌, if◌then◌else◌, slice_get, slice_set, All}
use Rattle.m161_audit.specs.declared.watch.Watch.{Watch}
use Rattle.m161_audit.specs.declared.shootdown.Shootdown.{Shootdown}
use Rattle.m161_audit.specs.Watch.{AreGood, is_bad}
use Rattle.m161_audit.specs.declared.shootdown.Progress.{Progress}
use Rattle.m161_audit.specs.declared.shootdown.Progress.TheVariants.{Changed}
use Rattle.m161_audit.specs.Tracking.{if_changed}
use Rattle.m161_audit.specs.helpers.Progress.{IsWithin, after_word}

-- Walks along a list.

same_of : {X : Type 0} (x y : X) → ◌≡◌ {A = Option X} (Some x) (Some y) → x ≡ y
same_of x y h = cc

some_not_none : {X : Type 0} (x : X) (o : Option X) → o ≡ Some x → o ≡ None → ⊥
some_not_none {X = X} x o h k = let bad : ◌≡◌ {A = Option X} (Some x) None = sym h ∙ k in cc

pub in_list : {X : Type 0} (xs : List X) (i : ℕ) (x : X) → slice_get xs i ≡ Some x → i < length xs
in_list {X = X} xs i x h = by (slice_get_cases xs i).1
  where
    by : ((y : X) × (i < length xs) × (slice_get xs i ≡ Some y) × (get_or xs i y ≡ y)) ⊎ ((length xs ≤ i) × (slice_get xs i ≡ None)) → i < length xs
    by (inl c) = c.1
    by (inr c) = absurd (some_not_none x (slice_get xs i) h c.1)

-- a test is false on one element more
pub false_from : {X : Type 0} (f : X → Bool) (xs : List X) (from k : ℕ) (d : X) (b : Bool) → k < length xs →
    ((i : ℕ) (x : X) → from ≤ i → i < k → slice_get xs i ≡ Some x → f x ≡ false) → b ≡ f (get_or xs k d) → b ≡ false →
    (i : ℕ) (x : X) → from ≤ i → i < k + 1 → slice_get xs i ≡ Some x → f x ≡ false
false_from {X = X} f xs from k d b below none is wrong i x after less at = by (cases_order i k)
  where
    here : i ≡ k → f x ≡ false
    here e =
        let there : slice_get xs k ≡ Some x = subst (λ j. slice_get xs j ≡ Some x) e at in
        let x_is : x ≡ get_or xs k d = same_of x (get_or xs k d) (sym there ∙ slice_get-get_or xs k d below) in
        ap f x_is ∙ sym is ∙ wrong

    by : (i ≡ k) ⊎ ((i < k) ⊎ (k < i)) → f x ≡ false
    by (inl e) = here e
    by (inr (inl lt)) = none i x after lt at
    by (inr (inr gt)) = absurd (omega (arith, less, gt))

-- the same from the beginning on
pub false_next : {X : Type 0} (f : X → Bool) (xs : List X) (k : ℕ) (d : X) (b : Bool) → k < length xs →
    ((i : ℕ) (x : X) → i < k → slice_get xs i ≡ Some x → f x ≡ false) → b ≡ f (get_or xs k d) → b ≡ false →
    (i : ℕ) (x : X) → i < k + 1 → slice_get xs i ≡ Some x → f x ≡ false
false_next f xs k d b below none is wrong i x less at =
    false_from f xs 0 k d b below (λ j y _ before there. none j y before there) is wrong i x (omega arith) less at

not_true : (b : Bool) → b ≡ true → b ≡ false → ⊥
not_true b h k = let bad : true ≡ false = sym h ∙ k in cc

good_of : (ram : ℕ) (watches : List Watch) (k : ℕ) → ((i : ℕ) (w : Watch) → i < k → slice_get watches i ≡ Some w → is_bad ram w ≡ false) → AreGood ram watches k
good_of ram watches k f j less bad = not_true (is_bad ram bad.0) bad.2 (f j bad.0 less bad.1)

of_good : (b : Bool) → (b ≡ true → ⊥) → b ≡ false
of_good true h = absurd (h refl)
of_good false h = refl

pub good_next : (ram : ℕ) (watches : List Watch) (k : ℕ) (d : Watch) (b : Bool) → k < length watches → AreGood ram watches k → b ≡ is_bad ram (get_or watches k d) → b ≡ false → AreGood ram watches (k + 1)
good_next ram watches k d b below good is wrong =
    good_of ram watches (k + 1)
    (false_next (is_bad ram) watches k d b below (λ i w less at. of_good (is_bad ram w) (λ yes. good i less (w, at, yes))) is wrong)

pub good_all : (ram : ℕ) (watches : List Watch) (n : ℕ) → length watches ≤ n → AreGood ram watches n → (k : ℕ) → AreGood ram watches k
good_all ram watches n all good k j less bad =
    let inside : j < length watches = in_list watches j bad.0 bad.1 in
    good j (omega (arith, inside, all)) bad

-- one watch more is noted
pub noted_next : (word : ℕ) (xs ys : List Shootdown) (i : ℕ) (d x r : Shootdown) → i < length xs → length ys ≡ length xs →
    ys ≡ map (after_word word) (take i xs) ++ drop i xs → x ≡ get_or ys i d → r ≡ after_word word x →
    (length (slice_set ys i r) ≡ length xs) × (slice_set ys i r ≡ map (after_word word) (take (i + 1) xs) ++ drop (i + 1) xs)
noted_next word xs ys i d x r below long so at is =
    let y = get_or ys i d in (
      length-set ys i r ∙ long,
      ap (slice_set ys i) (is ∙ ap (after_word word) at)
          ∙ map_over_more (after_word word) xs ys i y below so (get_or_default ys i d y (omega (arith, below, long))),
    )

-- what holds of each
pub of_all : {X : Type 0} (P : X → Type 0) (xs : List X) → All P xs → (i : ℕ) (x : X) → slice_get xs i ≡ Some x → P x
of_all {X = X} P xs all i x at =
    subst P (get_or_from_slice_get xs i x x at) (All-get_or P xs i x (slice_get_within xs i x at) all)

-- the bounds of one shootdown more
pub bounds_next : (items : List Shootdown) (i low high new_low new_high : ℕ) (d : Shootdown) → i < length items → All (IsWithin low high) (take i items) →
    (new_low ≤ low) × (high ≤ new_high) → IsWithin new_low new_high (get_or items i d) → All (IsWithin new_low new_high) (take (i + 1) items)
bounds_next items i low high new_low new_high d below all wider here =
    All-more (IsWithin new_low new_high) items i d below
    (All-weaker (IsWithin low high) (IsWithin new_low new_high) (λ x h. (omega (arith, h.0, wider.0), omega (arith, h.1, wider.1), omega (arith, h.2, wider.0), omega (arith, h.3, wider.1))) (take i items) all)
    here

-- a store outside the bounds

unequal : (a b : ℕ) → (a < b) ⊎ (b < a) → (a == b) ≡ false
unequal a b h = by (eqb_tells a b)
  where
    by : (((a == b) ≡ true) × (a ≡ b)) ⊎ (((a == b) ≡ false) × (a ≢ b)) → (a == b) ≡ false
    by (inl e) = absurd (differ h e.1)
      where
        differ : (a < b) ⊎ (b < a) → a ≡ b → ⊥
        differ (inl lt) e = omega (arith, lt, e)
        differ (inr gt) e = omega (arith, gt, e)
    by (inr e) = e.0

kept : (pte done : Bool) (p : Progress) → pte ≡ false → done ≡ false → (if pte then Changed else if done then if_changed p else p) ≡ p
kept true done p h k = absurd (cc)
kept false true p h k = absurd (cc)
kept false false p h k = refl

outside : (low high word : ℕ) (x : Shootdown) → IsWithin low high x → (word < low) ⊎ (high < word) → after_word word x ≡ x
outside low high word x h (inl lt) =
    let pte = unequal x.watch.pte word (inr (omega (arith, h.0, lt))) in
    let done = unequal x.watch.done word (inr (omega (arith, h.2, lt))) in
    λ i. record { watch = x.watch; progress = kept (x.watch.pte == word) (x.watch.done == word) x.progress pte done i }
outside low high word x h (inr gt) =
    let pte = unequal x.watch.pte word (inl (omega (arith, h.1, gt))) in
    let done = unequal x.watch.done word (inl (omega (arith, h.3, gt))) in
    λ i. record { watch = x.watch; progress = kept (x.watch.pte == word) (x.watch.done == word) x.progress pte done i }

pub all_outside : (low high word : ℕ) (items : List Shootdown) → All (IsWithin low high) items → (word < low) ⊎ (high < word) → map (after_word word) items ≡ items
all_outside low high word [] all h = refl
all_outside low high word (x ∷ xs) all h =
    let first = outside low high word x (All-head (IsWithin low high) x xs all) h in
    let rest = all_outside low high word xs (All-tail (IsWithin low high) x xs all) h in
    λ i. first i ∷ rest i

-- a store keeps the watches
pub still_within : (low high word : ℕ) (items : List Shootdown) → All (IsWithin low high) items → All (IsWithin low high) (map (after_word word) items)
still_within low high word items all = All-map (IsWithin low high) (after_word word) items all
