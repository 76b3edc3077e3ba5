use Rattle.std.specs.Prelude.{◌≡◌, ◌↔◌, ◌⊎◌, ℕ, Bool, true, false, List, length, take, Option, None, Some}
use Rattle.m161_machine.specs.declared.event.Event.{Event}
use Rattle.m161_shorten.specs.declared.judged.Judgement.{Judgement}

-- Verdicts of one kind.

-- by a judge, the list has a verdict of the kind, which needs n events
abbrev pub Needs :
    {K : Type 0} → (K → Bool) → (List Event → Option (Judgement K) → Type 0) → List Event → ℕ → Type 0
Needs {K} is_kind judges es n =
    (kind : K) × judges es (Some (record { kind = kind; needs = n })) × (is_kind kind ≡ true)

-- by a judge, the list has no verdict, or one of another kind
abbrev pub NeedsNone :
    {K : Type 0} → (K → Bool) → (List Event → Option (Judgement K) → Type 0) → List Event → Type 0
NeedsNone {K} is_kind judges es =
    judges es None
    ⊎ ((other : Judgement K) × judges es (Some other) × (is_kind other.kind ≡ false))

-- the events are those that such a verdict on a list needs
abbrev pub AreNeeded :
    {K : Type 0} → (K → Bool) → (List Event → Option (Judgement K) → Type 0) → List Event → Type 0
AreNeeded is_kind judges fs =
    (es : List Event) × (n : ℕ) × Needs is_kind judges es n × (fs ≡ take n es)

-- the list has a verdict of the kind, which needs all of its events
abbrev pub NeedsAll :
    {K : Type 0} → (K → Bool) → (List Event → Option (Judgement K) → Type 0) → List Event → Type 0
NeedsAll is_kind judges es = Needs is_kind judges es (length es)

-- a list that is cut behind a verdict of the kind keeps it
abbrev pub KeepsCut :
    {K : Type 0} → (K → Bool) → (List Event → Option (Judgement K) → Type 0) → Type 0
KeepsCut is_kind judges =
    (es : List Event) (n : ℕ)
    → Needs is_kind judges es n → NeedsAll is_kind judges (take n es)

-- both judge alike: a list has the same verdicts by the one as by the other
abbrev pub AreSame : {K : Type 0} → (judges others : List Event → Option (Judgement K) → Type 0) → Type 0
AreSame {K} judges others =
    (es : List Event) (verdict : Option (Judgement K))
    → judges es verdict ↔ others es verdict

-- of each list the judge says one thing: its verdict, or that it has none
abbrev pub JudgesEach : {K : Type 0} → (List Event → Option (Judgement K) → Type 0) → Type 0
JudgesEach {K} judges =
    (es : List Event)
    → (verdict : Option (Judgement K)) × judges es verdict
    × ((other : Option (Judgement K)) → judges es other → other ≡ verdict)
