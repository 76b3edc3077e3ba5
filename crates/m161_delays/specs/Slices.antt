use Rattle.std.specs.Prelude.{◌≡◌, ◌≤◌, ◌<◌, ℕ, ◌+◌, ◌%◌, ◌^◌, Bool, List, [], length, Option, None, Some}
use Rattle.m161_order.specs.declared.delays.Delays.{Delays}
use Rattle.m161_order.specs.Delays.{delays_of}
use Rattle.m161_delays.specs.declared.search.Class.{Class}
use Rattle.m161_delays.specs.declared.slice.Slice.{Slice}
use Rattle.m161_delays.specs.declared.slice.SliceStop.{SliceStop}
use Rattle.m161_delays.specs.declared.slice.SliceStop.TheVariants.{Next, Wrong}
use Rattle.m161_delays.specs.Lists.{ComesBefore}
use Rattle.m161_delays.specs.Runs.{AreThose, IsUsefulOf}
use Rattle.m161_delays.specs.Search.{AreClean, IsFirst}
use Rattle.m161_jobs.specs.Trials.{AreRight}

-- A slice of a search: the lists from one on, as far as it came.

-- a useful list, not before this one
abbrev pub IsUsefulFrom : Class → (List ℕ → List ℕ) → List ℕ → List ℕ → Type 0
IsUsefulFrom class offers from numbers = IsUsefulOf class offers numbers × (ComesBefore numbers from → ⊥)

-- the list at which a slice stops
abbrev pub stopped_at : {W : Type 0} → SliceStop W → Delays
stopped_at (Wrong delays what) = delays
stopped_at (Next delays) = delays

-- a list comes before the one at which a slice stops, if it stops at one
abbrev pub ComesBeforeStop : {W : Type 0} → Option (SliceStop W) → List ℕ → Type 0
ComesBeforeStop None numbers = Unit {0}
ComesBeforeStop (Some stop) numbers = ComesBefore numbers (delays_of (stopped_at stop))

-- why a slice of at most so many runs stops behind so many: this list's run is wrong, or it may make no more
abbrev pub MayStop : {W : Type 0} → (List ℕ → W → Type 0) → ℕ → ℕ → SliceStop W → Type 0
MayStop wrong most runs (Wrong delays what) = (runs < most) × wrong (delays_of delays) what
MayStop wrong most runs (Next delays) = runs ≡ most

-- it stops at a useful list; or nowhere
abbrev pub StopsAt :
    {W : Type 0} → Class → (List ℕ → List ℕ) → (List ℕ → W → Type 0) → List ℕ → ℕ → ℕ → Option (SliceStop W) → Type 0
StopsAt class offers wrong from most runs None = runs ≤ most
StopsAt class offers wrong from most runs (Some stop) =
    IsUsefulFrom class offers from (delays_of (stopped_at stop)) × MayStop wrong most runs stop

-- the runs of the useful lists from this one on, and before where it stops, are right: so many, and so many of
-- them are cut
pub record IsSlice
    {W : Type 0} (class : Class) (offers : List ℕ → List ℕ) (right : List ℕ → Bool → Type 0)
    (wrong : List ℕ → W → Type 0) (from : List ℕ) (most : ℕ) (slice : Slice W) : Type 0 where
  pub lists : List (List ℕ)
  pub are_those :
      AreThose (λ numbers. IsUsefulFrom class offers from numbers × ComesBeforeStop slice.stop numbers) lists
  pub are_right : AreRight right lists slice.cut
  pub runs_is : slice.runs ≡ length lists
  pub stops : StopsAt class offers wrong from most slice.runs slice.stop

-- a slice that begins where another one stopped is one with it
abbrev pub AreJoined :
    {W : Type 0} → Class → (List ℕ → List ℕ) → (List ℕ → Bool → Type 0) → (List ℕ → W → Type 0) →
    List ℕ → ℕ → ℕ → Slice W → Slice W → Type 0
AreJoined class offers right wrong from most more first second =
    (delays : Delays) → first.stop ≡ Some (Next delays)
    → IsSlice class offers right wrong from most first
    → IsSlice class offers right wrong (delays_of delays) more second
    → IsSlice class offers right wrong from (most + more)
    (record { runs = first.runs + second.runs; cut = first.cut + second.cut; stop = second.stop })

-- what a slice says of the whole search, by where it stops
abbrev pub FindsWhole :
    {W : Type 0} → Class → (List ℕ → List ℕ) → (List ℕ → Bool → Type 0) → (List ℕ → W → Type 0) →
    ℕ → ℕ → Option (SliceStop W) → Type 0
FindsWhole class offers right wrong runs cut None = AreClean class offers right (runs % 2 ^ 64) (cut % 2 ^ 64)
FindsWhole class offers right wrong runs cut (Some (Wrong delays what)) =
    IsFirst class offers right wrong (delays_of delays) what
FindsWhole class offers right wrong runs cut (Some (Next delays)) = Unit {0}

-- one from the empty list on says what the search does
abbrev pub IsOfWhole :
    {W : Type 0} → Class → (List ℕ → List ℕ) → (List ℕ → Bool → Type 0) → (List ℕ → W → Type 0) → ℕ →
    Slice W → Type 0
IsOfWhole class offers right wrong most slice =
    IsSlice class offers right wrong [] most slice
    → FindsWhole class offers right wrong slice.runs slice.cut slice.stop
