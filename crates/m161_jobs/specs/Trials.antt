use Rattle.std.specs.Prelude.{◌≡◌, ℕ, ◌+◌, Bool, if◌then◌else◌, List, [], ◌∷◌}
use Rattle.m161_jobs.specs.declared.trials.Tested.{Tested}
use Rattle.m161_jobs.specs.declared.trials.Tested.TheVariants.{Right, Wrong}

-- What becomes of trials, whatever a trial is.

-- what became of a trial
abbrev pub IsJudged : {W : Type 0} → (Bool → Type 0) → (W → Type 0) → Tested W → Type 0
IsJudged right wrong (Right is_cut) = right is_cut
IsJudged right wrong (Wrong what) = wrong what

-- these trials are right, and so many of them are cut
abbrev pub AreRight : {X : Type 0} → (X → Bool → Type 0) → List X → ℕ → Type 0
AreRight right [] cut = cut ≡ 0
AreRight right (x ∷ xs) cut =
    (is_cut : Bool) × (rest : ℕ) × right x is_cut × (cut ≡ (if is_cut then rest + 1 else rest))
    × AreRight right xs rest
