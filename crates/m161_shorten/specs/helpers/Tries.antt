use Rattle.std.specs.Prelude.{◌≡◌, ℕ, Bool, true, false, List, Option, None, Some}
use Rattle.m161_machine.specs.declared.event.Event.{Event}
use Rattle.m161_shorten.specs.declared.judged.Judgement.{Judgement}
use Rattle.m161_shorten.specs.declared.trial.Tried.{Tried}
use Rattle.m161_shorten.specs.Passes.{GoesTo, IsEnd, Place, Takes}
use Rattle.m161_shorten.specs.Verdicts.{Needs, NeedsNone}

-- What is left of the list after trials.

-- by a judge, how many events a verdict of the kind needs, if the list has one
abbrev pub NeedsAs :
    {K : Type 0} → (K → Bool) → (List Event → Option (Judgement K) → Type 0)
    → List Event → Option ℕ → Type 0
NeedsAs is_kind judges es (Some n) = Needs is_kind judges es n
NeedsAs is_kind judges es None = NeedsNone is_kind judges es

abbrev pub if_taken : Bool → List Event → Option (List Event)
if_taken true fs = Some fs
if_taken false fs = None

-- these trials were made of the list es: fs is the one that was taken, or the list stays
pub record Tries
    {K : Type 0} (is_kind : K → Bool) (judges : List Event → Option (Judgement K) → Type 0)
    (trials : List (List Event)) (es : List Event) (tried : Tried) (fs : List Event)
    : Type 0 where
  pub takes : Takes is_kind judges trials (if_taken tried.taken fs) tried.judged
  pub stays : tried.taken ≡ false → fs ≡ es

-- the passes go on to the place t, or end at s
abbrev pub Moves :
    {K : Type 0} → (K → Bool) → (List Event → Option (Judgement K) → Type 0)
    → Place → Bool → Place → Type 0
Moves is_kind judges s true t = GoesTo is_kind judges s t
Moves is_kind judges s false t = IsEnd s × (t ≡ s)
