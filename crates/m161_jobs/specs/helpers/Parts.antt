use Rattle.std.specs.Prelude.{ℕ, ◌+◌, ◌-◌, ◌*◌, ◌<◌, ◌≤◌, min, Bool, List, length, Result, IfErr, IfOk, slice_index_or}
use Rattle.std.specs.List.{range_with_len}
use Rattle.m161_jobs.specs.declared.trials.Tried.{Tried}
use Rattle.m161_jobs.specs.declared.trials.Tried.TheVariants.{Clean, Wrong}
use Rattle.m161_jobs.specs.Trials.{AreRight}

-- The answer of the trials from one number to below another.

-- the first of them that goes wrong
pub record IsFirstFrom
    {W : Type 0} (right : ℕ → Bool → Type 0) (wrong : ℕ → W → Type 0) (from to place : ℕ) (what : W)
    : Type 0 where
  pub least : from ≤ place
  pub within : place < to
  pub is_wrong : wrong place what
  pub before : (n : ℕ) → from ≤ n → n < place → (is_cut : Bool) × right n is_cut

abbrev pub IsAnswerFrom :
    {W : Type 0} → (ℕ → Bool → Type 0) → (ℕ → W → Type 0) → ℕ → ℕ → Tried W → Type 0
IsAnswerFrom right wrong from to (Clean cut) = AreRight right (range_with_len from (to - from)) cut
IsAnswerFrom right wrong from to (Wrong place what) = IsFirstFrom right wrong from to place what

-- the number with which a part begins, of parts of so many trials
abbrev pub part_start : ℕ → ℕ → ℕ → ℕ → ℕ
part_start from count size part = min (from + part * size) count

-- what comes of a part
abbrev pub IsPart :
    {W E : Type 0} → (ℕ → Bool → Type 0) → (ℕ → W → Type 0) → (E → Type 0) → ℕ → ℕ → Result (Tried W) E → Type 0
IsPart right wrong fails from to part =
    IfOk part (IsAnswerFrom right wrong from to) × IfErr part fails

-- what comes of each part, where they begin with these numbers
abbrev pub AreParts :
    {W E : Type 0} → (ℕ → Bool → Type 0) → (ℕ → W → Type 0) → (E → Type 0) → (ℕ → ℕ) → List (Result (Tried W) E) → Type 0
AreParts {W} {E} right wrong fails start parts =
    (i : ℕ) (d : Result (Tried W) E) → i < length parts
    → IsPart right wrong fails (start i) (start (i + 1)) (slice_index_or parts i d)
