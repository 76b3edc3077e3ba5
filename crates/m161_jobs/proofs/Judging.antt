use Rattle.std.proofs.Common.{◌≡◌, ◌∙◌, ap, sym, subst, ℕ, ◌+◌, ◌-◌, ◌≤◌, Bool, true, false, [], ◌∷◌, arith, ◌⊎◌, inl, inr}
use Rattle.std.specs.Prelude.{if◌then◌else◌}
use Rattle.std.specs.List.{range_with_len}
use Rattle.m161_jobs.specs.declared.trials.Tested.{Tested}
use Rattle.m161_jobs.specs.declared.trials.Tested.TheVariants.{Right, Wrong}
use Rattle.m161_jobs.specs.Trials.{AreRight, IsJudged}
use Rattle.m161_jobs.proofs.Rights.{right_one, right_range}

-- What became of one trial.

pub right_of : {W : Type 0} (right : Bool → Type 0) (wrong : W → Type 0) (judged : Tested W) (is_cut : Bool) → judged ≡ Right is_cut →
    IsJudged right wrong judged → right is_cut
right_of right wrong judged is_cut is h = subst (IsJudged right wrong) is h

pub wrong_of : {W : Type 0} (right : Bool → Type 0) (wrong : W → Type 0) (judged : Tested W) (what : W) → judged ≡ Wrong what →
    IsJudged right wrong judged → wrong what
wrong_of right wrong judged what is h = subst (IsJudged right wrong) is h

cut_by : (is_cut : Bool) (cut more : ℕ) → ((is_cut ≡ true) × (more ≡ cut + 1)) ⊎ ((is_cut ≡ false) × (more ≡ cut)) →
    cut + (if is_cut then 1 else 0) ≡ more
cut_by is_cut cut more (inl h) = ap (λ b. cut + (if b then 1 else 0)) h.0 ∙ sym h.1
cut_by is_cut cut more (inr h) = let is = h.1 in ap (λ b. cut + (if b then 1 else 0)) h.0 ∙ omega (arith, is)

one_range : (place : ℕ) → place ∷ [] ≡ range_with_len place (place + 1 - place)
one_range place = let one : 1 ≡ place + 1 - place = omega arith in ap (range_with_len place) one

-- one trial behind others
pub right_next : {W : Type 0} (right : ℕ → Bool → Type 0) (wrong : ℕ → W → Type 0) (from place cut more : ℕ) (is_cut : Bool) (judged : Tested W) →
    from ≤ place → AreRight right (range_with_len from (place - from)) cut → judged ≡ Right is_cut → IsJudged (right place) (wrong place) judged →
    ((is_cut ≡ true) × (more ≡ cut + 1)) ⊎ ((is_cut ≡ false) × (more ≡ cut)) → AreRight right (range_with_len from (place + 1 - from)) more
right_next right wrong from place cut more is_cut judged least before is h by =
    subst (AreRight right (range_with_len from (place + 1 - from))) (cut_by is_cut cut more by)
    (right_range right from place (place + 1) cut (if is_cut then 1 else 0) least (omega arith) before
    (subst (λ xs. AreRight right xs (if is_cut then 1 else 0)) (one_range place)
    (right_one right place is_cut (right_of (right place) (wrong place) judged is_cut is h))))
