use Rattle.std.specs.Prelude.{◌≡◌, ℕ, ◌<◌, ◌≤◌, List, [], ◌∷◌, ◌++◌, length, slice_index_or}
use Rattle.m161_explore.specs.declared.views.Entry.{Entry}
use Rattle.m161_explore.specs.declared.views.Entry.TheVariants.{Known, New, Full}

-- What becomes of a view that is looked for, and put behind the others where it isn't there.

-- the view isn't among these
abbrev pub IsNew : List (List ℕ) → List ℕ → Type 0
IsNew views view = (j : ℕ) → j < length views → slice_index_or views j [] ≡ view → ⊥

-- the views now, of which there may be so many
abbrev pub Enters : List (List ℕ) → List ℕ → ℕ → List (List ℕ) → Entry → Type 0
Enters views view limit now (Known i) = (now ≡ views) × (i < length views) × (slice_index_or views i [] ≡ view)
Enters views view limit now New = (now ≡ views ++ view ∷ []) × (length views < limit) × IsNew views view
Enters views view limit now Full = (now ≡ views) × (limit ≤ length views) × IsNew views view
