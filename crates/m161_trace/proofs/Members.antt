use Rattle.std.proofs.Common.{◌≡◌, ◌⊎◌, inl, inr, refl, sym, subst, ℕ, zero, suc, ◌+◌, ◌<◌, ◌≤◌, ◌≢◌, Bool, true, false, List, [], ◌∷◌, ◌++◌, arith}
use Rattle.std.specs.Prelude.{flat_map, if◌then◌else◌, ◌==◌}
use Rattle.std.specs.List.{range_with_len}
use Rattle.std.proofs.lemmas.Bool.Decides.{nat_tests}
use Rattle.m161_trace.specs.Items.{Item, changed, each}
use Rattle.m161_trace.specs.Law.{Has}

-- What is in a list.

pub has_left : {X : Type 0} (x : X) (xs ys : List X) → Has x xs → Has x (xs ++ ys)
has_left x [] ys h = absurd h
has_left x (y ∷ xs) ys (inl h) = inl h
has_left x (y ∷ xs) ys (inr h) = inr (has_left x xs ys h)

pub has_right : {X : Type 0} (x : X) (xs ys : List X) → Has x ys → Has x (xs ++ ys)
has_right x [] ys h = h
has_right x (y ∷ xs) ys h = inr (has_right x xs ys h)

pub has_listed : {X Y : Type 0} (f : Y → List X) (x : X) (y : Y) (ys : List Y) → Has y ys → Has x (f y) → Has x (flat_map f ys)
has_listed f x y [] there h = absurd there
has_listed {X = X} f x y (z ∷ ys) (inl same) h = has_left x (f z) (flat_map f ys) (subst (λ w. Has x (f w)) same h)
has_listed f x y (z ∷ ys) (inr there) h = has_right x (f z) (flat_map f ys) (has_listed f x y ys there h)

split_by : (t : Bool) (a j : ℕ) → (j == a) ≡ t → a ≤ j → (j ≡ a) ⊎ (a + 1 ≤ j)
split_by true a j is low = inl (grind (arith, nat_tests, is))
split_by false a j is low = let ne : j ≢ a = grind (arith, nat_tests, is) in inr (omega (arith, ne, low))

first_or_later : (a n j : ℕ) → (j ≡ a) ⊎ (a + 1 ≤ j) → (a + 1 ≤ j → Has j (range_with_len (a + 1) n)) → Has j (range_with_len a (suc n))
first_or_later a n j (inl same) later = inl same
first_or_later a n j (inr more) later = inr (later more)

counted : (a n j : ℕ) → a ≤ j → j < a + n → Has j (range_with_len a n)
counted a zero j low high = absurd (let bad : ⊥ = omega (arith, low, high) in bad)
counted a (suc n) j low high =
    first_or_later a n j (split_by (j == a) a j refl low)
    (λ more. counted (a + 1) n j more (let lt : j < a + 1 + n = omega (arith, high) in lt))

-- the items of a number from a on, of n
pub has_each : (a n j : ℕ) (f : ℕ → List Item) (i : Item) → a ≤ j → j < a + n → Has i (f j) → Has i (each a n f)
has_each a n j f i low high h = has_listed f i j (range_with_len a n) (counted a n j low high) h

-- Every item of a list has a property.

abbrev pub Every : {X : Type 0} → (X → Type 0) → List X → Type 0
Every {X = X} P xs = (x : X) → Has x xs → P x

pub every_none : {X : Type 0} (P : X → Type 0) → Every P []
every_none P x h = absurd h

pub every_one : {X : Type 0} (P : X → Type 0) (y : X) → P y → Every P (y ∷ [])
every_one P y holds x (inl same) = subst P (sym same) holds
every_one P y holds x (inr h) = absurd h

pub every_append : {X : Type 0} (P : X → Type 0) (xs ys : List X) → Every P xs → Every P ys → Every P (xs ++ ys)
every_append P [] ys f g x h = g x h
every_append P (y ∷ xs) ys f g x (inl same) = f x (inl same)
every_append P (y ∷ xs) ys f g x (inr h) = every_append P xs ys (λ z there. f z (inr there)) g x h

pub every_listed : {X Y : Type 0} (P : X → Type 0) (f : Y → List X) (ys : List Y) → ((y : Y) → Every P (f y)) → Every P (flat_map f ys)
every_listed P f [] all = every_none P
every_listed P f (y ∷ ys) all = every_append P (f y) (flat_map f ys) (all y) (every_listed P f ys all)

-- An item of a part that differs.

pub every_unless : (t : Bool) (P : Item → Type 0) (i : Item) → P i → Every P (if t then [] else i ∷ [])
every_unless true P i holds = every_none P
every_unless false P i holds = every_one P i holds

pub every_changed : (P : Item → Type 0) (before after : ℕ) (i : Item) → P i → Every P (changed before after i)
every_changed P before after i holds = every_unless (before == after) P i holds

same_by : (t : Bool) (before after : ℕ) (i : Item) → (before == after) ≡ t → (Has i (if t then [] else i ∷ []) → ⊥) → after ≡ before
same_by true before after i is none = grind (arith, nat_tests, is)
same_by false before after i is none = absurd (none (inl refl))

-- without its item a part has the value that it had
pub unchanged : (before after : ℕ) (i : Item) → (Has i (changed before after i) → ⊥) → after ≡ before
unchanged before after i none = same_by (before == after) before after i refl none

-- the items of numbers below an end
pub every_numbered : (P : Item → Type 0) (a n : ℕ) (f : ℕ → List Item) → ((j : ℕ) → j < a + n → Every P (f j)) → Every P (each a n f)
every_numbered P a zero f all = every_none P
every_numbered P a (suc n) f all =
    every_append P (f a) (each (a + 1) n f) (all a (let lt : a < a + suc n = omega arith in lt))
    (every_numbered P (a + 1) n f (λ j lt. all j (let l : j < a + suc n = omega (arith, lt) in l)))
