use Rattle.std.specs.Prelude.{◌≡◌, ℕ, ◌-◌, ◌<◌, ◌≤◌, ◌==◌, List, [], ◌∷◌, Option, None, Some}
use Rattle.m161_gdb.specs.declared.packet.Motion.{Motion}
use Rattle.m161_gdb.specs.Stops.{StopsValue}
use Rattle.m161_moves.specs.declared.back.Found.{Found}
use Rattle.m161_moves.specs.declared.reason.Reason.{Reason}
use Rattle.m161_moves.specs.declared.reason.Reason.TheVariants as reasons
use Rattle.m161_moves.specs.Course.{Course}
use Rattle.m161_moves.specs.Stopping.{break_of, first_of, mark_of, step_of, touch_of, when}

-- What stops at a place, by parts.

-- before its event
abbrev pub ahead_of : Course → StopsValue → List (Option Motion) → ℕ → Option Reason
ahead_of course stops chosen place =
    first_of (when (place == course.end) (Some reasons.End)
    ∷ break_of stops chosen (course.step place)
    ∷ touch_of stops chosen (course.step place)
    ∷ [])

-- behind the event before it
abbrev pub behind_of : Course → StopsValue → List (Option Motion) → ℕ → Option Reason
behind_of course stops chosen place =
    first_of (mark_of stops place
    ∷ step_of chosen (course.step (place - 1))
    ∷ ahead_of course stops chosen place
    ∷ [])

-- backwards, before an event that the move goes back by
abbrev pub return_of : Course → StopsValue → List (Option Motion) → ℕ → Option Reason
return_of course stops chosen place =
    first_of (mark_of stops place
    ∷ break_of stops chosen (course.step place)
    ∷ step_of chosen (course.step place)
    ∷ [])

-- Where a look from a place back stops up to another.

-- at the greatest place with a reason
pub record IsGreatest (reason_at : ℕ → Option Reason) (last : ℕ) (found : Found) : Type 0 where
  pub not_behind : found.place ≤ last
  pub why : reason_at found.place ≡ Some found.reason
  pub greatest : (other : ℕ) → found.place < other → other ≤ last → reason_at other ≡ None

-- which is behind this one, if there is one
abbrev pub IsLast : (ℕ → Option Reason) → ℕ → ℕ → Option Found → Type 0
IsLast reason_at above last None = (other : ℕ) → above < other → other ≤ last → reason_at other ≡ None
IsLast reason_at above last (Some found) = (above < found.place) × IsGreatest reason_at last found
