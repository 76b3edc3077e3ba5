use Rattle.std.specs.Prelude.{◌≡◌, ◌⊎◌, ℕ, zero, suc, ◌+◌, ◌-◌, ◌<◌, ◌≤◌, Bool, true, false, List, [], ◌∷◌, length, take, Option, None, Some}
use Rattle.m161_machine.specs.declared.event.Event.{Event}
use Rattle.m161_shorten.specs.declared.judged.Judgement.{Judgement}
use Rattle.m161_shorten.specs.Blocks.{blocks}
use Rattle.m161_shorten.specs.Trials.{trials}
use Rattle.m161_shorten.specs.Verdicts.{Needs, NeedsNone}

-- The passes over the blocks of a list.

-- where the passes are
pub record Place : Type 0 where
  pub events : List Event
  -- the block at which lists are tried next
  pub block : ℕ
  -- one was taken in this pass
  pub taken : Bool
  -- how many may still be tried
  pub left : ℕ

abbrev pub first_place : List Event → Place
first_place es = record { events = es; block = 0; taken = false; left = 2_000 }

-- lists are judged from the first on, until one has a verdict of the kind: that one is taken, cut
-- behind its verdict; the number is how many were judged
abbrev pub Takes :
    {K : Type 0} → (K → Bool) → (List Event → Option (Judgement K) → Type 0)
    → List (List Event) → Option (List Event) → ℕ → Type 0
Takes is_kind judges [] taken judged = (taken ≡ None) × (judged ≡ 0)
Takes is_kind judges (es ∷ others) taken judged =
    ((n : ℕ) × Needs is_kind judges es n × (taken ≡ Some (take n es)) × (judged ≡ 1))
    ⊎ ((more : ℕ) × NeedsNone is_kind judges es × Takes is_kind judges others taken more
    × (judged ≡ more + 1))

-- the block of the same number is next after one was taken, else the block behind it
abbrev pub after_trials : Option (List Event) → ℕ → Place → Place
after_trials (Some es) judged s =
    record s { events = es; taken = true; left = s.left - judged }
after_trials None judged s = record s { block = s.block + 1; left = s.left - judged }

-- from s to t, the trials at the block are made, as many as may be judged
abbrev pub MakesTrials :
    {K : Type 0} → (K → Bool) → (List Event → Option (Judgement K) → Type 0) → Place → Place → Type 0
MakesTrials is_kind judges s t =
    (taken : Option (List Event)) × (judged : ℕ)
    × Takes is_kind judges (take s.left (trials s.block s.events)) taken judged
    × (t ≡ after_trials taken judged s)

-- from s to the next place t, trials are made; or s is behind the last block, something was taken, and
-- another pass begins
unfoldable pub GoesTo :
    {K : Type 0} → (K → Bool) → (List Event → Option (Judgement K) → Type 0) → Place → Place → Type 0
GoesTo is_kind judges s t =
    (0 < s.left)
    × (((s.block < length (blocks s.events)) × MakesTrials is_kind judges s t)
    ⊎ ((length (blocks s.events) ≤ s.block) × (s.taken ≡ true)
    × (t ≡ record s { block = 0; taken = false })))

-- the passes end: no more lists may be judged; or this is behind the last block, and nothing was taken
abbrev pub IsEnd : Place → Type 0
IsEnd s =
    (s.left ≡ 0) ⊎ ((length (blocks s.events) ≤ s.block) × (s.taken ≡ false))

-- the place t is n places behind s
abbrev pub GoesOn :
    {K : Type 0} → (K → Bool) → (List Event → Option (Judgement K) → Type 0)
    → ℕ → Place → Place → Type 0
GoesOn is_kind judges zero s t = t ≡ s
GoesOn is_kind judges (suc n) s t =
    (u : Place) × GoesTo is_kind judges s u × GoesOn is_kind judges n u t

-- the passes over the events es end, and leave the events fs
pub record Shortens
    {K : Type 0} (is_kind : K → Bool) (judges : List Event → Option (Judgement K) → Type 0)
    (es fs : List Event)
    : Type 0 where
  pub places : ℕ
  pub last : Place
  pub goes_on : GoesOn is_kind judges places (first_place es) last
  pub ends : IsEnd last
  pub events_are : fs ≡ last.events
