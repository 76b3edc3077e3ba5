use Rattle.std.specs.Prelude.{◌≡◌, ℕ, suc, ◌+◌, ◌≤◌, ◌==◌, if◌then◌else◌, List, [], ◌∷◌, ◌++◌, length, take, drop, slice_range, Option, None, Some}
use Rattle.m161_machine.specs.declared.event.Event.{Event}
use Rattle.m161_machine.specs.declared.event.Event.TheVariants as events
use Rattle.m161_shorten.specs.Blocks.{blocks, events_in}
use Rattle.m161_shorten.specs.Trials.{joins_first}
use Rattle.m161_shorten.specs.declared.ranges.Pair.{Pair}

-- Blocks as ranges of the list.

-- the processor of the first event, if that is a Step
abbrev pub first_step : List Event → Option ℕ
first_step [] = None
first_step (events.Step p ∷ es) = Some p
first_step (events.Key byte ∷ es) = None
first_step (events.Done ∷ es) = None

-- how many Steps of p are the first events
abbrev pub leading : ℕ → List Event → ℕ
leading p [] = 0
leading p (events.Step q ∷ es) = if p == q then suc (leading p es) else 0
leading p (events.Key byte ∷ es) = 0
leading p (events.Done ∷ es) = 0

-- how many events the first block has
abbrev pub block_len : List Event → ℕ
block_len [] = 0
block_len (events.Step p ∷ es) = suc (leading p es)
block_len (events.Key byte ∷ es) = 1
block_len (events.Done ∷ es) = 1

abbrev pub one_more : Option ℕ → Option ℕ
one_more None = None
one_more (Some k) = Some (suc k)

-- where the first Step of p is, if no Key and no Done comes before it
abbrev pub find_step : ℕ → List Event → Option ℕ
find_step p [] = None
find_step p (events.Step q ∷ es) = if p == q then Some 0 else one_more (find_step p es)
find_step p (events.Key byte ∷ es) = None
find_step p (events.Done ∷ es) = None

-- the same place, counted from k places before
abbrev pub from_before : ℕ → Option ℕ → Option ℕ
from_before k None = None
from_before k (Some j) = Some (k + j)

-- block i begins there; the list ends there if it has no such block
pub record IsStart (i : ℕ) (es : List Event) (start : ℕ) : Type 0 where
  pub within : start ≤ length es
  pub before : events_in (take i (blocks es)) ≡ take start es
  pub behind : drop i (blocks es) ≡ blocks (drop start es)

-- the part from a to b and the one from b to c change places
abbrev pub swapped : ℕ → ℕ → ℕ → List Event → List Event
swapped a b c es = take a es ++ slice_range es b c ++ slice_range es a b ++ drop c es

-- the parts follow one another in the list
pub record IsPair (pair : Pair) (es : List Event) : Type 0 where
  pub block : pair.block ≤ pair.between
  pub between : pair.between ≤ pair.next
  pub next : pair.next ≤ pair.behind
  pub behind : pair.behind ≤ length es

abbrev pub pair_trials : Pair → List Event → List (List Event)
pair_trials pair es =
    swapped pair.between pair.next pair.behind es
    ∷ swapped pair.block pair.between pair.next es ∷ []

-- the trials at the block that begins there
abbrev pub trials_at : ℕ → List Event → List (List Event)
trials_at start es = joins_first (take start es) (blocks (drop start es))
