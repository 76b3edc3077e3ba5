use Rattle.std.specs.Prelude.{◌≡◌, ℕ, ◌<◌, ◌≤◌, List, ◌∷◌, length, reverse, Bool, Option, None, Some}
use Rattle.m161_explore.specs.declared.graph.Node.{Node}
use Rattle.m161_explore.specs.declared.search.Visit.{Visit}
use Rattle.m161_explore.specs.declared.search.Visit.TheVariants.{Went, FoundWrong, Full, StoppedBy}
use Rattle.m161_explore.specs.declared.search.Outcome.{Outcome}
use Rattle.m161_explore.specs.declared.search.Outcome.TheVariants.{Whole, WrongFrom, TooMany, StoppedFor}
use Rattle.m161_explore.specs.Rules.{Rules}
use Rattle.m161_explore.specs.Answers.{IsFound, IsOpen, IsStopped}
use Rattle.m161_explore.specs.Views.{view_at}
use Rattle.m161_explore.specs.helpers.Ends.{flag_at}
use Rattle.m161_explore.specs.Search.{IsBefore, Linked, Searched, time_of}
use Rattle.m161_explore.specs.helpers.Trails.{AreEarlier, IsTrail}

-- what a search knows before it tries the event e of state i
pub record IsAt {S V R : Type 0} (r : Rules S V R) (is_valid : S → Type 0) (views : List (List ℕ)) (nodes : List Node) (links : List ℕ) (i e : ℕ) : Type 0 where
  pub searched : Searched r is_valid views nodes (time_of r.width i e)
  pub within : i < length views
  pub linked : Linked r is_valid views links (time_of r.width i e)

-- an event was accepted and nothing was wrong with it; t has the view of the state behind it
pub record HasPassed {S V R : Type 0} (r : Rules S V R) (is_valid : S → Type 0) (views : List (List ℕ)) (i e : ℕ) (t : S) : Type 0 where
  pub event : e < r.width
  pub from : S
  pub valid_from : is_valid from
  pub same_from : r.view from ≡ view_at views i
  pub to : S
  pub stop : r.stop from e ≡ None
  pub next : r.next from e ≡ Some to
  pub verdict : r.verdict from e ≡ None
  pub valid : is_valid t
  pub same : r.view t ≡ r.view to

-- s refuses the events from n on
abbrev pub AreRefused : {S V R : Type 0} → Rules S V R → S → ℕ → Type 0
AreRefused r s n = (e : ℕ) → n ≤ e → e < r.width → (r.stop s e ≡ None) × (r.next s e ≡ None)

-- a state with this view refuses the events from n on
abbrev pub HasRefused : {S V R : Type 0} → Rules S V R → (S → Type 0) → List ℕ → ℕ → Type 0
HasRefused {S} r is_valid view n = (s : S) × is_valid s × (r.view s ≡ view) × AreRefused r s n

-- what it knows where this event of state i has a verdict
abbrev pub IsWrongAt : {S V R : Type 0} → Rules S V R → (S → Type 0) → List (List ℕ) → List Node → List ℕ → ℕ → ℕ → V → Type 0
IsWrongAt r is_valid views nodes links i event what =
    IsAt r is_valid views nodes links i event
    × ((trail : List ℕ) → IsTrail nodes i trail → IsFound r (reverse (event ∷ trail)) what (length views))

-- what it knows where one state too many was found behind state i
abbrev pub IsFullAt : {S V R : Type 0} → Rules S V R → ℕ → List Node → ℕ → Type 0
IsFullAt r limit nodes i =
    (i < length nodes) × AreEarlier nodes × ((trail : List ℕ) → IsTrail nodes i trail → IsOpen r limit (length trail))

-- what it knows behind an event of state i, before the event `after`
abbrev pub Visits : {S V R : Type 0} → Rules S V R → (S → Type 0) → ℕ → List (List ℕ) → List Node → List ℕ → ℕ → ℕ → Visit V R → Type 0
Visits r is_valid limit views nodes links i after Went = IsAt r is_valid views nodes links i after
Visits r is_valid limit views nodes links i after (FoundWrong event what) = IsWrongAt r is_valid views nodes links i event what
Visits r is_valid limit views nodes links i after Full = IsFullAt r limit nodes i
Visits r is_valid limit views nodes links i after (StoppedBy reason) = IsStopped r reason

abbrev pub Finds : {S V R : Type 0} → Rules S V R → (S → Type 0) → ℕ → List (List ℕ) → List Node → List ℕ → Outcome V R → Type 0
Finds r is_valid limit views nodes links Whole = IsBefore r is_valid views nodes links (length views)
Finds r is_valid limit views nodes links (WrongFrom from event what) = IsWrongAt r is_valid views nodes links from event what
Finds r is_valid limit views nodes links (TooMany from) = IsFullAt r limit nodes from
Finds r is_valid limit views nodes links (StoppedFor reason) = IsStopped r reason

-- what it knows where it was to try the states before the end, and there are others behind them
abbrev pub FindsBefore : {S V R : Type 0} → Rules S V R → (S → Type 0) → ℕ → List (List ℕ) → List Node → List ℕ → ℕ → Option (Outcome V R) → Type 0
FindsBefore r is_valid limit views nodes links end (Some outcome) = Finds r is_valid limit views nodes links outcome
FindsBefore r is_valid limit views nodes links end None = IsBefore r is_valid views nodes links end × (end < length views)

-- the flags say which states are ends
pub record AreEnds {S V R : Type 0} (r : Rules S V R) (is_valid : S → Type 0) (views : List (List ℕ)) (ends : List Bool) : Type 0 where
  pub size : length ends ≡ length views
  pub each : (j : ℕ) (s : S) → j < length views → is_valid s → r.view s ≡ view_at views j → r.is_end s ≡ flag_at ends j
