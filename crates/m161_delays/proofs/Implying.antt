use Rattle.std.proofs.Common.{ℕ, Bool, List, [], ◌∷◌}
use Rattle.std.specs.Prelude.{Option, None, Some}
use Rattle.m161_jobs.specs.Trials.{AreRight}
use Rattle.m161_delays.specs.declared.search.Class.{Class}
use Rattle.m161_delays.specs.declared.search.Searched.{Searched}
use Rattle.m161_delays.specs.declared.search.Searched.TheVariants as searched
use Rattle.m161_delays.specs.declared.slice.Slice.{Slice}
use Rattle.m161_delays.specs.declared.slice.SliceStop.{SliceStop}
use Rattle.m161_delays.specs.declared.slice.SliceStop.TheVariants.{Next, Wrong}
use Rattle.m161_delays.specs.Search.{Finds}
use Rattle.m161_delays.specs.Slices.{IsSlice, StopsAt}

-- What a search or a slice of it found, where more is known of its runs.

pub rights_as : {X : Type 0} (R Q : X → Bool → Type 0) (xs : List X) (cut : ℕ) → ((x : X) (b : Bool) → R x b → Q x b) → AreRight R xs cut → AreRight Q xs cut
rights_as R Q [] cut f h = h
rights_as R Q (x ∷ xs) cut f h = (h.0, h.1, f x h.0 h.2, h.3, rights_as R Q xs h.1 f h.4)

pub finds_as : {W : Type 0} (class : Class) (offers : List ℕ → List ℕ) (R Q : List ℕ → Bool → Type 0) (V U : List ℕ → W → Type 0) (found : Searched W) →
    ((x : List ℕ) (b : Bool) → R x b → Q x b) → ((x : List ℕ) (w : W) → V x w → U x w) → Finds class offers R V found → Finds class offers Q U found
finds_as class offers R Q V U (searched.Clean runs cut) f g h = record {
  lists = h.lists;
  are_useful = h.are_useful;
  all_cut = h.all_cut;
  are_right = rights_as R Q h.lists h.all_cut f h.are_right;
  runs_is = h.runs_is;
  cut_is = h.cut_is;
}
finds_as class offers R Q V U (searched.Wrong delays what) f g h = record {
  is_useful = h.is_useful;
  is_wrong = g _ what h.is_wrong;
  before = λ others useful order. (let right = h.before others useful order in (right.0, f others right.0 right.1));
}

stops_as : {W : Type 0} (class : Class) (offers : List ℕ → List ℕ) (V U : List ℕ → W → Type 0) (from : List ℕ) (most runs : ℕ) (o : Option (SliceStop W)) →
    ((x : List ℕ) (w : W) → V x w → U x w) → StopsAt class offers V from most runs o → StopsAt class offers U from most runs o
stops_as class offers V U from most runs None g h = h
stops_as class offers V U from most runs (Some (Wrong delays what)) g h = (h.0, (h.1.0, g _ what h.1.1))
stops_as class offers V U from most runs (Some (Next delays)) g h = h

pub slice_as : {W : Type 0} (class : Class) (offers : List ℕ → List ℕ) (R Q : List ℕ → Bool → Type 0) (V U : List ℕ → W → Type 0) (from : List ℕ) (most : ℕ)
    (slice : Slice W) → ((x : List ℕ) (b : Bool) → R x b → Q x b) → ((x : List ℕ) (w : W) → V x w → U x w) →
    IsSlice class offers R V from most slice → IsSlice class offers Q U from most slice
slice_as class offers R Q V U from most slice f g h = record {
  lists = h.lists;
  are_those = h.are_those;
  are_right = rights_as R Q h.lists slice.cut f h.are_right;
  runs_is = h.runs_is;
  stops = stops_as class offers V U from most slice.runs slice.stop g h.stops;
}
