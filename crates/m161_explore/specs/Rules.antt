use Rattle.std.specs.Prelude.{◌≡◌, ℕ, Bool, List, Option, None, Some}
use Rattle.m161_explore.specs.declared.system.Advanced.{Advanced}
use Rattle.m161_explore.specs.declared.system.Advanced.TheVariants.{Refused, Passed, Judged, Stopped}

-- A system that goes from state to state by events.

-- The events are the numbers below the width, in their order. `next` is the state behind an event, or
-- none where the state doesn't accept it; `verdict` is what is wrong with an event that is accepted, if
-- anything is; `stop` is the reason why an event can't be looked at by the view of its state alone, if
-- there is one. A view is a list of words.
pub record Rules (S V R : Type 0) : Type 0 where
  pub width : ℕ
  pub start : S
  pub next : S → ℕ → Option S
  pub verdict : S → ℕ → Option V
  pub stop : S → ℕ → Option R
  pub is_end : S → Bool
  pub view : S → List ℕ

-- what an event of s comes to; where it is accepted and nothing is wrong, t has the view of the next state
abbrev pub Advances : {S V R : Type 0} → Rules S V R → (S → Type 0) → S → ℕ → S → Advanced V R → Type 0
Advances r is_valid s e t Refused = (r.stop s e ≡ None) × (r.next s e ≡ None)
Advances {S} r is_valid s e t Passed =
    (u : S) × (r.stop s e ≡ None) × (r.next s e ≡ Some u) × (r.verdict s e ≡ None)
    × is_valid t × (r.view t ≡ r.view u)
Advances {S} r is_valid s e t (Judged what) =
    (u : S) × (r.stop s e ≡ None) × (r.next s e ≡ Some u) × (r.verdict s e ≡ Some what)
Advances r is_valid s e t (Stopped reason) = r.stop s e ≡ Some reason
