use Rattle.std.specs.Prelude.{◌≡◌, ℕ, ◌<◌, true, List, [], ◌∷◌, ◌++◌, length, Some, ◌⊎◌}
use Rattle.m161_explore.specs.Rules.{Rules}

-- Lists of events.

-- from s the events are accepted, one behind the other, and lead to t
abbrev pub Leads : {S V R : Type 0} → Rules S V R → S → List ℕ → S → Type 0
Leads r s [] t = t ≡ s
Leads {S} r s (e ∷ es) t = (u : S) × (e < r.width) × (r.next s e ≡ Some u) × Leads r u es t

-- a list of events from the start, and an event behind it
pub record IsFollowed {S V R : Type 0} (r : Rules S V R) (events : List ℕ) (s : S) (e : ℕ) : Type 0 where
  pub before : List ℕ
  pub is : events ≡ before ++ e ∷ []
  pub leads : Leads r r.start before s
  pub event : e < r.width

-- a list whose last event has this verdict
pub record HasVerdict {S V R : Type 0} (r : Rules S V R) (events : List ℕ) (what : V) : Type 0 where
  pub from : S
  pub last : ℕ
  pub to : S
  pub followed : IsFollowed r events from last
  pub accepted : r.next from last ≡ Some to
  pub verdict : r.verdict from last ≡ Some what

-- a list at whose last event the system stops for this reason
pub record HasStop {S V R : Type 0} (r : Rules S V R) (events : List ℕ) (reason : R) : Type 0 where
  pub from : S
  pub last : ℕ
  pub followed : IsFollowed r events from last
  pub stop : r.stop from last ≡ Some reason

-- some events lead from s to an end
abbrev pub CanEnd : {S V R : Type 0} → Rules S V R → S → Type 0
CanEnd {S} r s = (es : List ℕ) × (t : S) × Leads r s es t × (r.is_end t ≡ true)

-- a list that no events continue to an end
abbrev pub IsHung : {S V R : Type 0} → Rules S V R → List ℕ → Type 0
IsHung {S} r events = (s : S) × Leads r r.start events s × (CanEnd r s → ⊥)

-- of two lists of one length, the one that is less where they first differ
abbrev pub IsLess : List ℕ → List ℕ → Type 0
IsLess [] fs = ⊥
IsLess (e ∷ es) [] = ⊥
IsLess (e ∷ es) (f ∷ fs) = (e < f) ⊎ ((e ≡ f) × IsLess es fs)

-- the shorter list comes first
abbrev pub ComesBefore : List ℕ → List ℕ → Type 0
ComesBefore es fs = (length es < length fs) ⊎ ((length es ≡ length fs) × IsLess es fs)

-- a list that is so, and none before it is
pub record IsFirst (IsSo : List ℕ → Type 0) (events : List ℕ) : Type 0 where
  pub is_so : IsSo events
  pub first : (es : List ℕ) → IsSo es → ComesBefore es events → ⊥
