use Rattle.std.specs.Prelude.{ℕ, ◌+◌, ◌≤◌, List, length}
use Rattle.m161_explore.specs.declared.whole.Answer.{Answer}
use Rattle.m161_explore.specs.declared.whole.Answer.TheVariants.{Clean, Found, Hung, Open, Ended}
use Rattle.m161_explore.specs.Rules.{Rules}
use Rattle.m161_explore.specs.Lists.{CanEnd, ComesBefore, HasStop, HasVerdict, IsFirst, IsHung, Leads}
use Rattle.m161_explore.specs.Views.{HaveFewViews, HaveMoreViews, HaveViews}

-- What the answers say of all lists of events.

abbrev pub IsAny : List ℕ → Type 0
IsAny es = Unit {0}

-- the last event of a list has a verdict
abbrev pub IsJudged : {S V R : Type 0} → Rules S V R → List ℕ → Type 0
IsJudged {S} {V} r es = (what : V) × HasVerdict r es what

-- no list has a verdict, the system stops at none, some events continue each to an end, and there are so
-- many different views
pub record IsClean {S V R : Type 0} (r : Rules S V R) (states : ℕ) : Type 0 where
  pub no_verdict : (es : List ℕ) → IsJudged r es → ⊥
  pub no_stop : (es : List ℕ) (reason : R) → HasStop r es reason → ⊥
  pub can_end : (es : List ℕ) (t : S) → Leads r r.start es t → CanEnd r t
  pub count : HaveViews r IsAny states

-- the list has this verdict, none before it has one, and those before it have so many different views
pub record IsFound {S V R : Type 0} (r : Rules S V R) (events : List ℕ) (what : V) (states : ℕ) : Type 0 where
  pub has_verdict : HasVerdict r events what
  pub first : IsFirst (IsJudged r) events
  pub count : HaveViews r (λ es. ComesBefore es events) states

-- no list has a verdict, the system stops at none, this is the first that hangs, and there are so many
-- different views
pub record IsHungFirst {S V R : Type 0} (r : Rules S V R) (events : List ℕ) (states : ℕ) : Type 0 where
  pub no_verdict : (es : List ℕ) → IsJudged r es → ⊥
  pub no_stop : (es : List ℕ) (reason : R) → HasStop r es reason → ⊥
  pub first : IsFirst (IsHung r) events
  pub count : HaveViews r IsAny states

-- no list of so many events at most has a verdict; these have no more different views than the limit,
-- and those of one event more have more
pub record IsOpen {S V R : Type 0} (r : Rules S V R) (limit size : ℕ) : Type 0 where
  pub no_verdict : (es : List ℕ) → length es ≤ size → IsJudged r es → ⊥
  pub few : HaveFewViews r (λ es. length es ≤ size) limit
  pub more : HaveMoreViews r (λ es. length es ≤ size + 1) limit

-- the system stops for this reason at a list, and no list before that has a verdict
abbrev pub IsStopped : {S V R : Type 0} → Rules S V R → R → Type 0
IsStopped r reason =
    (events : List ℕ) × HasStop r events reason × ((es : List ℕ) → IsJudged r es → ComesBefore es events → ⊥)

abbrev pub Answers : {S V R : Type 0} → Rules S V R → ℕ → Answer V R → Type 0
Answers r limit (Clean states) = IsClean r states
Answers r limit (Found events what states) = IsFound r events.items what states
Answers r limit (Hung events states) = IsHungFirst r events.items states
Answers r limit (Open size) = IsOpen r limit size
Answers r limit (Ended reason) = IsStopped r reason
