use Rattle.std.specs.Prelude.{◌≡◌, ℕ, ◌+◌, ◌*◌, ◌<◌, ◌≤◌, List, length, slice_index_or, Option, None, Some}
use Rattle.m161_explore.specs.declared.graph.Node.{Node}
use Rattle.m161_explore.specs.Rules.{Rules}
use Rattle.m161_explore.specs.Views.{view_at}

-- What a search knows.

abbrev pub root : Node
root = record { parent = 0; event = 0 }

abbrev pub parent_at : List Node → ℕ → ℕ
parent_at nodes j = (slice_index_or nodes j root).parent

abbrev pub event_at : List Node → ℕ → ℕ
event_at nodes j = (slice_index_or nodes j root).event

-- when the event e of state i is tried
abbrev pub time_of : ℕ → ℕ → ℕ → ℕ
time_of width i e = width * i + e

-- when the state with number j was found
abbrev pub found_at : ℕ → List Node → ℕ → ℕ
found_at width nodes j = time_of width (parent_at nodes j) (event_at nodes j)

-- the state with number j comes from an earlier one by an event
pub record IsMade {S V R : Type 0} (r : Rules S V R) (is_valid : S → Type 0) (views : List (List ℕ)) (nodes : List Node) (j : ℕ) : Type 0 where
  pub earlier : parent_at nodes j < j
  pub event : event_at nodes j < r.width
  pub made : (s : S) → is_valid s → r.view s ≡ view_at views (parent_at nodes j) →
      (u : S) × (r.next s (event_at nodes j) ≡ Some u) × (r.view u ≡ view_at views j)

-- the view is that of a state that was found, by no later time than this
abbrev pub IsKnown : {S V R : Type 0} → Rules S V R → List (List ℕ) → List Node → ℕ → List ℕ → Type 0
IsKnown r views nodes time view =
    (j : ℕ) × (j < length views) × (view ≡ view_at views j) × (0 < j → found_at r.width nodes j ≤ time)

-- the event doesn't stop the exploration, and has no verdict where it is accepted
abbrev pub IsClear : {S V R : Type 0} → Rules S V R → S → ℕ → Type 0
IsClear {S} r s e = (r.stop s e ≡ None) × ((t : S) → r.next s e ≡ Some t → r.verdict s e ≡ None)

-- the states that were found until now
pub record Searched {S V R : Type 0} (r : Rules S V R) (is_valid : S → Type 0) (views : List (List ℕ)) (nodes : List Node) (now : ℕ) : Type 0 where
  pub sizes : length nodes ≡ length views
  pub some : 0 < length views
  pub first : view_at views 0 ≡ r.view r.start
  pub held : (j : ℕ) → j < length views → (s : S) × is_valid s × (r.view s ≡ view_at views j)
  pub different : (j k : ℕ) → j < k → k < length views → view_at views j ≡ view_at views k → ⊥
  pub made : (j : ℕ) → 0 < j → j < length views → IsMade r is_valid views nodes j
  pub clear : (a b : ℕ) (s : S) → a < length views → b < r.width → time_of r.width a b < now →
      is_valid s → r.view s ≡ view_at views a → IsClear r s b
  pub closed : (a b : ℕ) (s u : S) → a < length views → b < r.width → time_of r.width a b < now →
      is_valid s → r.view s ≡ view_at views a → r.next s b ≡ Some u →
      IsKnown r views nodes (time_of r.width a b) (r.view u)
  pub ordered : (j k : ℕ) → 0 < j → j < k → k < length views → found_at r.width nodes j < found_at r.width nodes k
  pub past : (j : ℕ) → 0 < j → j < length views → found_at r.width nodes j < now

-- a link stands for what an event leads to: 0 for no state, and one more than the number of a state
abbrev pub LinksTo : {S V R : Type 0} → Rules S V R → List (List ℕ) → Option S → ℕ → Type 0
LinksTo r views None link = link ≡ 0
LinksTo r views (Some u) link = (j : ℕ) × (j < length views) × (link ≡ j + 1) × (r.view u ≡ view_at views j)

abbrev pub link_at : ℕ → List ℕ → ℕ → ℕ → ℕ
link_at width links a b = slice_index_or links (time_of width a b) 0

-- each event that was tried has its link
pub record Linked {S V R : Type 0} (r : Rules S V R) (is_valid : S → Type 0) (views : List (List ℕ)) (links : List ℕ) (now : ℕ) : Type 0 where
  pub count : length links ≡ now
  pub each : (a b : ℕ) (s : S) → a < length views → b < r.width → time_of r.width a b < now →
      is_valid s → r.view s ≡ view_at views a → LinksTo r views (r.next s b) (link_at r.width links a b)

-- all events of the states before i were tried
pub record IsBefore {S V R : Type 0} (r : Rules S V R) (is_valid : S → Type 0) (views : List (List ℕ)) (nodes : List Node) (links : List ℕ) (i : ℕ) : Type 0 where
  pub searched : Searched r is_valid views nodes (time_of r.width i 0)
  pub within : i ≤ length views
  pub linked : Linked r is_valid views links (time_of r.width i 0)
