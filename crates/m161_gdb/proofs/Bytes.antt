-- Bytes in texts, and the bodies of frames.
use Rattle.std.proofs.Common.{◌≡◌, ◌≢◌, ℕ, ◌+◌, ◌≤◌, List, [], ◌∷◌, ◌++◌, Bool, true, false, cond, eqb, ne_eqb, eq-eqb, length, refl, sym, ap, ◌∙◌, arith, Some}
use Rattle.std.proofs.lemmas.Bool.Decides.{nat_tests}
use Rattle.std.proofs.lemmas.List.Sums.{sum_by_push}
use Rattle.std.specs.List.{sum}
use Rattle.m161_gdb.specs.Frames.{has, body_of, kept}

pub has_step : (t : Bool) (c b : ℕ) (bs : List ℕ) → eqb b c ≡ t → has c (b ∷ bs) ≡ cond t true (has c bs)
has_step t c b bs e = ap (λ (s : Bool). cond s true (has c bs)) e

-- a byte that a text hasn't is neither its first nor in the rest
pub has_not : (c b : ℕ) (bs : List ℕ) → has c (b ∷ bs) ≡ false → (b ≡ c → ⊥) × (has c bs ≡ false)
has_not c b bs none = by (eqb b c) refl
  where
    by : (t : Bool) → eqb b c ≡ t → (b ≡ c → ⊥) × (has c bs ≡ false)
    by true e = let wrong : true ≡ false = sym (has_step true c b bs e) ∙ none in absurd (cc)
    by false e = ((λ same. let wrong : true ≡ false = sym (eq-eqb b c same) ∙ e in absurd (cc)), sym (has_step false c b bs e) ∙ none)

pub has_other : (c b : ℕ) (bs : List ℕ) → b ≢ c → has c (bs ++ b ∷ []) ≡ has c bs
has_other c b [] other = has_step false c b [] (ne_eqb b c other)
has_other c b (x ∷ bs) other = ap (λ (s : Bool). cond (eqb x c) true s) (has_other c b bs other)

pub has_more : (c b : ℕ) (bs : List ℕ) → has c bs ≡ false → b ≢ c → has c (bs ++ b ∷ []) ≡ false
has_more c b bs none other = has_other c b bs other ∙ none

true_either : (t : Bool) → cond t true true ≡ true
true_either true = refl
true_either false = refl

pub has_last : (c : ℕ) (bs : List ℕ) → has c (bs ++ c ∷ []) ≡ true
has_last c [] = has_step true c c [] (eq-eqb c c refl)
has_last c (x ∷ bs) = ap (λ (s : Bool). cond (eqb x c) true s) (has_last c bs) ∙ true_either (eqb x c)

-- a text has one first c
pub cut : (c : ℕ) (a a' b b' : List ℕ) → has c a ≡ false → has c a' ≡ false → a ++ c ∷ b ≡ a' ++ c ∷ b' → (a ≡ a') × (b ≡ b')
cut c [] [] b b' h h' e = (refl, (cc))
cut c [] (x ∷ a') b b' h h' e = absurd ((has_not c x a' h').0 (cc))
cut c (x ∷ a) [] b b' h h' e = absurd ((has_not c x a h).0 (cc))
cut c (x ∷ a) (y ∷ a') b b' h h' e =
    let rest : a ++ c ∷ b ≡ a' ++ c ∷ b' = cc in
    let same = cut c a a' b b' (has_not c x a h).1 (has_not c y a' h').1 rest in
    let head : x ≡ y = cc in
    let front : a ≡ a' = same.0 in
    ((cc), same.1)

-- it is in no text that lacks it
pub not_there : (c : ℕ) (a b d : List ℕ) → has c d ≡ false → d ≡ a ++ c ∷ b → ⊥
not_there c [] b [] none e = cc
not_there c (x ∷ a) b [] none e = cc
not_there c [] b (y ∷ d) none e = (has_not c y d none).0 (cc)
not_there c (x ∷ a) b (y ∷ d) none e = let rest : d ≡ a ++ c ∷ b = cc in not_there c a b d (has_not c y d none).1 rest

body_step : (t : Bool) (b : ℕ) (bs : List ℕ) → has 36 (b ∷ bs) ≡ t → body_of (b ∷ bs) ≡ cond t (body_of bs) (b ∷ bs)
body_step t b bs e = ap (λ (s : Bool). cond s (body_of bs) (b ∷ bs)) e

-- a `$` begins a new body
pub body_anew : (bs : List ℕ) → body_of (bs ++ 36 ∷ []) ≡ []
body_anew [] = refl
body_anew (x ∷ bs) = body_step true x (bs ++ 36 ∷ []) (has_last 36 (x ∷ bs)) ∙ body_anew bs

-- any other byte belongs to it
pub body_more : (bs : List ℕ) (b : ℕ) → b ≢ 36 → body_of (bs ++ b ∷ []) ≡ body_of bs ++ b ∷ []
body_more [] b other = body_step false b [] (has_step false 36 b [] (ne_eqb b 36 other))
body_more (x ∷ bs) b other = by (has 36 (x ∷ bs)) refl (body_more bs b other)
  where
    by : (t : Bool) → has 36 (x ∷ bs) ≡ t → body_of (bs ++ b ∷ []) ≡ body_of bs ++ b ∷ [] → body_of (x ∷ bs ++ b ∷ []) ≡ body_of (x ∷ bs) ++ b ∷ []
    by true e rest = body_step true x (bs ++ b ∷ []) (has_other 36 b (x ∷ bs) other ∙ e) ∙ rest ∙ ap (λ ys. ys ++ b ∷ []) (sym (body_step true x bs e))
    by false e rest = body_step false x (bs ++ b ∷ []) (has_other 36 b (x ∷ bs) other ∙ e) ∙ ap (λ ys. ys ++ b ∷ []) (sym (body_step false x bs e))

pub body_whole : (bs : List ℕ) → has 36 bs ≡ false → body_of bs ≡ bs
body_whole [] none = refl
body_whole (b ∷ bs) none = body_step false b bs none

-- Bodies that are kept.

pub kept_short : (bs : List ℕ) → length bs ≤ 16384 → kept bs ≡ Some bs
kept_short bs short = grind (arith, nat_tests)

-- Sums.

pub sum_more : (bs : List ℕ) (b : ℕ) → sum (bs ++ b ∷ []) ≡ sum bs + b
sum_more bs b = sum_by_push (λ x. x) bs b
