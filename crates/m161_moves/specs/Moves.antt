use Rattle.std.specs.Prelude.{◌≡◌, ℕ, ◌+◌, ◌-◌, ◌<◌, ◌≤◌, nat_lt, ◌==◌, true, false, List, [], ◌∷◌, Option, None, Some}
use Rattle.m161_gdb.specs.declared.packet.Motion.{Motion}
use Rattle.m161_gdb.specs.Stops.{StopsValue}
use Rattle.m161_moves.specs.declared.reason.Reason.{Reason}
use Rattle.m161_moves.specs.declared.reason.Reason.TheVariants as reasons
use Rattle.m161_moves.specs.Course.{Course}
use Rattle.m161_moves.specs.Stopping.{break_of, first_of, is_stepping, mark_of, step_of, touch_of, when}

-- Moves. A place is a number of events that were made; event j is the one that is made at place j.

-- why a move forwards from a place stops at another, which isn't before it: the first that holds
unfoldable pub forwards_reason : Course → StopsValue → List (Option Motion) → ℕ → ℕ → Option Reason
forwards_reason course stops chosen from place =
    first_of (when stops.interrupted (Some reasons.Interrupt)
    ∷ when (nat_lt from place) (mark_of stops place)
    ∷ when (nat_lt from place) (step_of chosen (course.step (place - 1)))
    ∷ when (place == course.end) (Some reasons.End)
    ∷ break_of stops chosen (course.step place)
    ∷ touch_of stops chosen (course.step place)
    ∷ [])

-- and one backwards, which isn't behind it
unfoldable pub backwards_reason : Course → StopsValue → List (Option Motion) → ℕ → ℕ → Option Reason
backwards_reason course stops chosen from place =
    first_of (when stops.interrupted (Some reasons.Interrupt)
    ∷ when (nat_lt place from) (mark_of stops place)
    ∷ when (nat_lt place from) (break_of stops chosen (course.step place))
    ∷ when (nat_lt place from) (step_of chosen (course.step place))
    ∷ when (place == 0) (Some reasons.Begin)
    ∷ touch_of stops chosen (course.step (place - 1))
    ∷ [])

-- a move forwards stops at the least place with a reason
pub record StopsForwards
    (course : Course) (stops : StopsValue) (chosen : List (Option Motion)) (from place : ℕ)
    (reason : Reason) : Type 0 where
  pub not_before : from ≤ place
  pub why : forwards_reason course stops chosen from place ≡ Some reason
  pub least : (other : ℕ) → from ≤ other → other < place →
      forwards_reason course stops chosen from other ≡ None

-- and one backwards at the greatest
pub record StopsBackwards
    (course : Course) (stops : StopsValue) (chosen : List (Option Motion)) (from place : ℕ)
    (reason : Reason) : Type 0 where
  pub not_behind : place ≤ from
  pub why : backwards_reason course stops chosen from place ≡ Some reason
  pub greatest : (other : ℕ) → place < other → other ≤ from →
      backwards_reason course stops chosen from other ≡ None

-- Laws.

-- a move stops
abbrev pub HasForwards : Type 0
HasForwards =
    (course : Course) (stops : StopsValue) (chosen : List (Option Motion)) (from : ℕ) →
    from ≤ course.end →
    (place : ℕ) × (reason : Reason) × StopsForwards course stops chosen from place reason

abbrev pub HasBackwards : Type 0
HasBackwards =
    (course : Course) (stops : StopsValue) (chosen : List (Option Motion)) (from : ℕ) →
    (place : ℕ) × (reason : Reason) × StopsBackwards course stops chosen from place reason

-- at one place, for one reason
abbrev pub HasOneForwards : Type 0
HasOneForwards =
    (course : Course) (stops : StopsValue) (chosen : List (Option Motion)) (from i j : ℕ)
    (a b : Reason) → StopsForwards course stops chosen from i a →
    StopsForwards course stops chosen from j b → (i ≡ j) × (a ≡ b)

abbrev pub HasOneBackwards : Type 0
HasOneBackwards =
    (course : Course) (stops : StopsValue) (chosen : List (Option Motion)) (from i j : ℕ)
    (a b : Reason) → StopsBackwards course stops chosen from i a →
    StopsBackwards course stops chosen from j b → (i ≡ j) × (a ≡ b)

-- behind a Step that a processor was to make, a move backwards in which it is to make one, too, goes to
-- the place before that Step, if this touches no watch and there is no interrupt
abbrev pub StepIsTakenBack : Type 0
StepIsTakenBack =
    (course : Course) (stops now : StopsValue) (chosen back : List (Option Motion)) (from place p : ℕ) →
    StopsForwards course stops chosen from place (reasons.Step p) → is_stepping back p ≡ true →
    now.interrupted ≡ false → touch_of now back (course.step (place - 1)) ≡ None →
    (before : ℕ) × (reason : Reason) × (place ≡ before + 1)
    × StopsBackwards course now back place before reason
