use Rattle.std.specs.Prelude.{ℕ, ◌<◌, Bool}
use Rattle.std.specs.List.{range_with_len}
use Rattle.m161_jobs.specs.declared.trials.Tried.{Tried}
use Rattle.m161_jobs.specs.declared.trials.Tried.TheVariants.{Clean, Wrong}
use Rattle.m161_jobs.specs.Trials.{AreRight}

-- The answer of many trials.

-- the trials below this number are right
abbrev pub AreRightBelow : (ℕ → Bool → Type 0) → ℕ → Type 0
AreRightBelow right place = (n : ℕ) → n < place → (is_cut : Bool) × right n is_cut

-- what comes of the trials below a number: all are right, and so many of them are cut; or this is the
-- first that goes wrong, in this way
abbrev pub IsAnswer :
    {W : Type 0} → (ℕ → Bool → Type 0) → (ℕ → W → Type 0) → ℕ → Tried W → Type 0
IsAnswer right wrong count (Clean cut) = AreRight right (range_with_len 0 count) cut
IsAnswer right wrong count (Wrong place what) =
    (place < count) × wrong place what × AreRightBelow right place
