use Rattle.std.specs.Prelude.{◌≡◌, ℕ, ◌%◌, ◌^◌, Bool, List, length}
use Rattle.m161_order.specs.Delays.{delays_of}
use Rattle.m161_delays.specs.declared.search.Searched.{Searched}
use Rattle.m161_delays.specs.declared.search.Searched.TheVariants.{Clean, Wrong}
use Rattle.m161_delays.specs.declared.search.Class.{Class}
use Rattle.m161_delays.specs.Lists.{ComesBefore}
use Rattle.m161_delays.specs.Runs.{AreThose, IsUsefulOf}
use Rattle.m161_jobs.specs.Trials.{AreRight}

-- The answer of a search.

-- the run of each useful list is right; there are so many, and so many of them are cut, as far as 64 bits
-- can say it
pub record AreClean
    (class : Class) (offers : List ℕ → List ℕ) (right : List ℕ → Bool → Type 0) (runs cut : ℕ) : Type 0 where
  pub lists : List (List ℕ)
  pub are_useful : AreThose (IsUsefulOf class offers) lists
  pub all_cut : ℕ
  pub are_right : AreRight right lists all_cut
  pub runs_is : runs ≡ length lists % 2 ^ 64
  pub cut_is : cut ≡ all_cut % 2 ^ 64

-- a useful list, whose run is wrong; the run of each useful list before it is right
pub record IsFirst
    {W : Type 0} (class : Class) (offers : List ℕ → List ℕ) (right : List ℕ → Bool → Type 0)
    (wrong : List ℕ → W → Type 0) (numbers : List ℕ) (what : W) : Type 0 where
  pub is_useful : IsUsefulOf class offers numbers
  pub is_wrong : wrong numbers what
  pub before : (others : List ℕ) → IsUsefulOf class offers others → ComesBefore others numbers →
      (is_cut : Bool) × right others is_cut

abbrev pub Finds :
    {W : Type 0} → Class → (List ℕ → List ℕ) → (List ℕ → Bool → Type 0) → (List ℕ → W → Type 0) →
    Searched W → Type 0
Finds class offers right wrong (Clean runs cut) = AreClean class offers right runs cut
Finds class offers right wrong (Wrong delays what) =
    IsFirst class offers right wrong (delays_of delays) what
