use Rattle.std.specs.Prelude.{◌≡◌, ℕ, ◌<◌, ◌≤◌, List, [], length, slice_index_or}
use Rattle.m161_explore.specs.Rules.{Rules}
use Rattle.m161_explore.specs.Lists.{Leads}

-- The different views of lists of events.

abbrev pub view_at : List (List ℕ) → ℕ → List ℕ
view_at views j = slice_index_or views j []

-- each view is that of a list that is so, and no two are equal
pub record AreDifferent {S V R : Type 0} (r : Rules S V R) (IsSo : List ℕ → Type 0) (views : List (List ℕ)) : Type 0 where
  pub each : (j : ℕ) → j < length views → (es : List ℕ) × (t : S) × Leads r r.start es t × IsSo es × (r.view t ≡ view_at views j)
  pub different : (j k : ℕ) → j < k → k < length views → view_at views j ≡ view_at views k → ⊥

-- the view of each list that is so is among these
abbrev pub AreAll : {S V R : Type 0} → Rules S V R → (List ℕ → Type 0) → List (List ℕ) → Type 0
AreAll {S} r IsSo views =
    (es : List ℕ) (t : S) → Leads r r.start es t → IsSo es → (j : ℕ) × (j < length views) × (r.view t ≡ view_at views j)

-- the lists that are so have this number of different views
abbrev pub HaveViews : {S V R : Type 0} → Rules S V R → (List ℕ → Type 0) → ℕ → Type 0
HaveViews r IsSo n =
    (views : List (List ℕ)) × AreDifferent r IsSo views × AreAll r IsSo views × (n ≡ length views)

-- they have more different views than this
abbrev pub HaveMoreViews : {S V R : Type 0} → Rules S V R → (List ℕ → Type 0) → ℕ → Type 0
HaveMoreViews r IsSo n = (views : List (List ℕ)) × AreDifferent r IsSo views × (n < length views)

-- they have no more different views than this
abbrev pub HaveFewViews : {S V R : Type 0} → Rules S V R → (List ℕ → Type 0) → ℕ → Type 0
HaveFewViews r IsSo n = (views : List (List ℕ)) × AreAll r IsSo views × (length views ≤ n)
