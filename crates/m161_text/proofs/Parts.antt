-- Two parts of a text and what stands between.
use Rattle.std.proofs.lemmas.List.{get_or_at}
use Rattle.std.proofs.Common.{length-append, ap₂, subst, ◌≡◌, ◌≢◌, ℕ, zero, suc, ◌<◌, List, [], ◌∷◌, ◌++◌, length, refl, sym, ◌∙◌, arith, Option, Some, None, Bor}
use Rattle.std.proofs.lemmas.Str.Pattern.{IsSplitOnceResult, split_parts}
use Rattle.std.proofs.lemmas.Option.{none-some, same_Some}
use Rattle.m161_text.specs.Parts.{◌␣◌, Reads, Lacks, Cuts}
use Rattle.m161_text.specs.helpers.Parts.{ReadsBoth}
use Rattle.m161_text.proofs.Reading.{nothing}

-- `split_once` cuts
pub cuts : (c : ℕ) (bs : List ℕ) (r : Option (Bor (List ℕ) × Bor (List ℕ))) → IsSplitOnceResult c bs r → c < 128 → Cuts c bs r
cuts c bs (Some x) h small = let it = split_parts c bs (Some x) h small in (it.1, it.0)
cuts c bs None h small = split_parts c bs None h small

pub rest_lacks : (c x : ℕ) (xs : List ℕ) → Lacks c (x ∷ xs) → Lacks c xs
rest_lacks c x xs h i lt = h (suc i) (omega arith)

-- a text has one first c
pub cut_same : (c : ℕ) (a a' b b' : List ℕ) → Lacks c a → Lacks c a' → a ++ c ∷ b ≡ a' ++ c ∷ b' → (a ≡ a') × (b ≡ b')
cut_same c [] [] b b' h h' e = (refl, (cc))
cut_same c [] (x ∷ a') b b' h h' e = absurd (h' 0 (omega arith) (cc))
cut_same c (x ∷ a) [] b b' h h' e = absurd (h 0 (omega arith) (cc))
cut_same c (x ∷ a) (y ∷ a') b b' h h' e =
    let rest : a ++ c ∷ b ≡ a' ++ c ∷ b' = cc in
    let same = cut_same c a a' b b' (rest_lacks c x a h) (rest_lacks c y a' h') rest in
    let head : x ≡ y = cc in
    let front : a ≡ a' = same.0 in
    ((cc), same.1)

pub one_lacks : (x : ℕ) → x ≢ 32 → Lacks 32 (x ∷ [])
one_lacks x other zero lt e = other e
one_lacks x other (suc i) lt e = absurd (omega arith)

pub has_space : (a b : List ℕ) → Lacks 32 (a ␣ b) → ⊥
has_space a b lacks = lacks (length a) (simp length-append (omega arith)) (get_or_at a 32 b 0 (length a) refl)

pub not_spaced : (text a b : List ℕ) → Lacks 32 text → text ≡ a ␣ b → ⊥
not_spaced text a b lacks same = has_space a b (subst (Lacks 32) same lacks)

pub no_cut : {X Y : Type 0} (Vx : X → Type 0) (Vy : Y → Type 0) (f : X → List ℕ) (g : Y → List ℕ) (bs : List ℕ) → Lacks 32 bs → ReadsBoth Vx Vy f g bs None
no_cut Vx Vy f g bs lacks = nothing (λ t fits same. has_space (f t.0) (g t.1) (rw (← same) lacks))

pub no_first : {X Y : Type 0} (Vx : X → Type 0) (Vy : Y → Type 0) (f : X → List ℕ) (g : Y → List ℕ) (a b bs : List ℕ) → ((x : X) → Vx x → Lacks 32 (f x)) → Lacks 32 a × (bs ≡ a ␣ b)
    → Reads Vx f a None → ReadsBoth Vx Vy f g bs None
no_first Vx Vy f g a b bs lacks cut none = nothing (λ t fits same. none-some t.0 (none.only t.0 fits.0 (cut_same 32 a (f t.0) b (g t.1) cut.0 (lacks t.0 fits.0) (sym cut.1 ∙ same)).0))

pub no_second : {X Y : Type 0} (Vx : X → Type 0) (Vy : Y → Type 0) (f : X → List ℕ) (g : Y → List ℕ) (a b bs : List ℕ) → ((x : X) → Vx x → Lacks 32 (f x)) → Lacks 32 a × (bs ≡ a ␣ b)
    → Reads Vy g b None → ReadsBoth Vx Vy f g bs None
no_second Vx Vy f g a b bs lacks cut none = nothing (λ t fits same. none-some t.1 (none.only t.1 fits.1 (cut_same 32 a (f t.0) b (g t.1) cut.0 (lacks t.0 fits.0) (sym cut.1 ∙ same)).1))

pub both : {X Y : Type 0} (Vx : X → Type 0) (Vy : Y → Type 0) (f : X → List ℕ) (g : Y → List ℕ) (a b bs : List ℕ) (x : X) (y : Y) → ((x : X) → Vx x → Lacks 32 (f x)) → Lacks 32 a × (bs ≡ a ␣ b)
    → Reads Vx f a (Some x) → Reads Vy g b (Some y) → ReadsBoth Vx Vy f g bs (Some (x, y))
both {X = X} {Y = Y} Vx Vy f g a b bs x y lacks cut left right = record {
  found = ((left.found.0, right.found.0), cut.1 ∙ rw (left.found.1, right.found.1) refl);
  only = λ t fits same.
      let parts = cut_same 32 a (f t.0) b (g t.1) cut.0 (lacks t.0 fits.0) (sym cut.1 ∙ same) in
      let first : x ≡ t.0 = same_Some _ _ (left.only t.0 fits.0 parts.0) in
      let second : y ≡ t.1 = same_Some _ _ (right.only t.1 fits.1 parts.1) in
      ap₂ (λ (m : X) (n : Y). Some (m, n)) first second;
}
