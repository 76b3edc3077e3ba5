use Rattle.std.proofs.Common.{◌≡◌, refl, ap, sym, subst, ℕ, zero, suc, ◌<◌, ◌%◌, arith, Bool, true, false, List, [], ◌∷◌, length, get_or, set, map, Result, Ok, Err, ◌⊎◌, inl, inr}
use Rattle.std.specs.Prelude.{All, IfOk, if◌then◌else◌}
use Rattle.m161_cpu.specs.Scene.{and_then, result_map}
use Rattle.m161_states.specs.Shape.{HaveBytes}

-- Lists with one element set; results; tests.

pub either : {A : Type 0} (P : A → Type 0) (test : Bool) (x y : A) → P x → P y → P (if test then x else y)
either P true x y one other = one
either P false x y one other = other

pub either_if : {A : Type 0} (P : A → Type 0) (test : Bool) (x y : A) → (test ≡ true → P x) → (test ≡ false → P y) → P (if test then x else y)
either_if P true x y one other = one refl
either_if P false x y one other = other refl

pub if_mapped : {A B E : Type 0} (P : A → Type 0) (Q : B → Type 0) (f : A → B) (r : Result A E) → IfOk r P → ((x : A) → P x → Q (f x)) → IfOk (result_map f r) Q
if_mapped P Q f (Ok x) h g = g x h
if_mapped P Q f (Err e) h g = tt

pub if_then : {A B E : Type 0} (P : A → Type 0) (Q : B → Type 0) (f : A → Result B E) (r : Result A E) → IfOk r P → ((x : A) → P x → IfOk (f x) Q) → IfOk (and_then r f) Q
if_then P Q f (Ok x) h g = g x h
if_then P Q f (Err e) h g = tt

pub any_ok : {A E : Type 0} (r : Result A E) → IfOk r (λ x. Unit {0})
any_ok (Ok x) = tt
any_ok (Err e) = tt

abbrev IsSet : {A : Type 0} → List A → ℕ → ℕ → A → A → Type 0
IsSet xs i j y d = ((get_or (set xs i y) j d ≡ y) × (j ≡ i)) ⊎ (get_or (set xs i y) j d ≡ get_or xs j d)

one_on : {A : Type 0} (x : A) (xs : List A) (i j : ℕ) (y d : A) → IsSet xs i j y d → IsSet (x ∷ xs) (suc i) (suc j) y d
one_on x xs i j y d (inl h) = let same = h.1 in inl (h.0, ap (λ n. suc n) same)
one_on x xs i j y d (inr h) = inr h

pub set_get : {A : Type 0} (xs : List A) (i j : ℕ) (y d : A) → ((get_or (set xs i y) j d ≡ y) × (j ≡ i)) ⊎ (get_or (set xs i y) j d ≡ get_or xs j d)
set_get [] i j y d = inr refl
set_get (x ∷ xs) zero zero y d = inl (refl, refl)
set_get (x ∷ xs) zero (suc j) y d = inr refl
set_get (x ∷ xs) (suc i) zero y d = inr refl
set_get (x ∷ xs) (suc i) (suc j) y d = one_on x xs i j y d (set_get xs i j y d)

pub set_size : {A : Type 0} (xs : List A) (i : ℕ) (y : A) → length (set xs i y) ≡ length xs
set_size [] i y = refl
set_size (x ∷ xs) zero y = refl
set_size (x ∷ xs) (suc i) y = ap (λ n. suc n) (set_size xs i y)

all_by : {A : Type 0} (P : A → Type 0) (xs : List A) (i k : ℕ) (y d : A) → All P xs → P y → k < length xs →
    ((get_or (set xs i y) k d ≡ y) × (k ≡ i)) ⊎ (get_or (set xs i y) k d ≡ get_or xs k d) → P (get_or (set xs i y) k d)
all_by P xs i k y d all one below (inl h) = subst P (sym h.0) one
all_by P xs i k y d all one below (inr h) = subst P (sym h) (all k d below)

pub all_set : {A : Type 0} (P : A → Type 0) (xs : List A) (i : ℕ) (y : A) → All P xs → P y → All P (set xs i y)
all_set P xs i y all one = λ k d below.
    let size = set_size xs i y in
    all_by P xs i k y d all one (omega (arith, below, size)) (set_get xs i k y d)

pub map_size : {A B : Type 0} (f : A → B) (xs : List A) → length (map f xs) ≡ length xs
map_size f [] = refl
map_size f (x ∷ xs) = ap (λ n. suc n) (map_size f xs)

-- bytes of memory

byte_by : (m : List ℕ) (at i byte : ℕ) → HaveBytes m → (0 < at % 4 → byte < 256) → 0 < i % 4 →
    ((get_or (set m at byte) i 0 ≡ byte) × (i ≡ at)) ⊎ (get_or (set m at byte) i 0 ≡ get_or m i 0) → get_or (set m at byte) i 0 < 256
byte_by m at i byte h small inside (inl e) =
    let is = e.0 in
    let here : 0 < at % 4 = subst (λ n. 0 < n % 4) e.1 inside in
    let less = small here in
    omega (arith, is, less)
byte_by m at i byte h small inside (inr e) = let less = h i inside in omega (arith, e, less)

pub set_byte : (m : List ℕ) (at byte : ℕ) → HaveBytes m → (0 < at % 4 → byte < 256) → HaveBytes (set m at byte)
set_byte m at byte h small = λ i inside. byte_by m at i byte h small inside (set_get m at i byte 0)
