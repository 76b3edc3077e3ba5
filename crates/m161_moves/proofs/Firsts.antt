use Rattle.std.proofs.Common.{◌≡◌, refl, ℕ, ◌≤◌, ◌<◌, Bool, true, false, List, [], ◌∷◌, arith}
use Rattle.std.proofs.lemmas.Bool.Decides.{nat_tests}
use Rattle.std.specs.Prelude.{Option, None, Some, nat_lt, ◌==◌}
use Rattle.m161_moves.specs.Stopping.{first_of, when}

-- The first of several that is there.

pub one : {X : Type 0} (x : Option X) → first_of (x ∷ []) ≡ x
one None = refl
one (Some x) = refl

pub two_parts : {X : Type 0} (a b : Option X) (others : List (Option X)) →
    first_of (a ∷ b ∷ first_of others ∷ []) ≡ first_of (a ∷ b ∷ others)
two_parts None None others = one (first_of others)
two_parts None (Some b) others = refl
two_parts (Some a) b others = refl

pub among_three : {X : Type 0} (a b c : Option X) (others : List (Option X)) (x : X) →
    first_of (a ∷ b ∷ c ∷ []) ≡ Some x → first_of (a ∷ b ∷ c ∷ others) ≡ Some x
among_three None None None others x h = cc
among_three None None (Some c) others x h = h
among_three None (Some b) c others x h = h
among_three (Some a) b c others x h = h

pub behind_three : {X : Type 0} (a b c : Option X) (others : List (Option X)) →
    first_of (a ∷ b ∷ c ∷ []) ≡ None → first_of (a ∷ b ∷ c ∷ others) ≡ first_of others
behind_three None None None others h = refl
behind_three None None (Some c) others h = cc
behind_three None (Some b) c others h = cc
behind_three (Some a) b c others h = cc

-- where none is there, a condition of the fourth doesn't hold
pub not_fourth : {X : Type 0} (a b c : Option X) (e : Bool) (x : X) (others : List (Option X)) →
    first_of (a ∷ b ∷ c ∷ when e (Some x) ∷ others) ≡ None → e ≡ false
not_fourth None None None true x others h = cc
not_fourth None None None false x others h = refl
not_fourth None None (Some c) e x others h = cc
not_fourth None (Some b) c e x others h = cc
not_fourth (Some a) b c e x others h = cc

pub not_itself : (n : ℕ) → nat_lt n n ≡ false
not_itself n = grind (arith, nat_tests)

pub is_less : (m n : ℕ) → m < n → nat_lt m n ≡ true
is_less m n h = grind (arith, nat_tests)

pub not_less : (m n : ℕ) → n ≤ m → nat_lt m n ≡ false
not_less m n h = grind (arith, nat_tests)

pub not_none : (n : ℕ) → 0 < n → (n == 0) ≡ false
not_none n h = grind (arith, nat_tests)

pub below_end : (place end : ℕ) → place ≤ end → (place == end) ≡ false → place < end
below_end place end within h = grind (arith, nat_tests)
