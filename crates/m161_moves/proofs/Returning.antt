use Rattle.std.proofs.Common.{◌≡◌, ◌∙◌, refl, sym, subst, ℕ, ◌+◌, ◌-◌, ◌<◌, ◌≤◌, true, false, List, [], ◌∷◌, ◌⊎◌, inl, inr, arith}
use Rattle.std.specs.Prelude.{Option, None, Some, ◌==◌}
use Rattle.m161_gdb.specs.declared.packet.Motion.{Motion}
use Rattle.m161_gdb.specs.Stops.{StopsValue}
use Rattle.m161_moves.specs.declared.back.Found.{Found}
use Rattle.m161_moves.specs.declared.reason.Reason.{Reason}
use Rattle.m161_moves.specs.declared.reason.Reason.TheVariants as reasons
use Rattle.m161_moves.specs.Course.{Course}
use Rattle.m161_moves.specs.Moves.{StopsBackwards, backwards_reason}
use Rattle.m161_moves.specs.Stopping.{break_of, first_of, mark_of, step_of, touch_of, when}
use Rattle.m161_moves.specs.helpers.Places.{return_of, IsGreatest, IsLast}
use Rattle.m161_moves.proofs.Firsts.{among_three, behind_three, is_less, not_less, not_none, one}

-- Moves backwards.

pub interrupted : (course : Course) (stops : StopsValue) (chosen : List (Option Motion)) (from : ℕ) → stops.interrupted ≡ true →
    StopsBackwards course stops chosen from from reasons.Interrupt
unfolding backwards_reason
interrupted course stops chosen from flag = record {
  not_behind = omega arith;
  why = rw flag refl;
  greatest = λ other above below. absurd (let bad : ⊥ = omega (arith, above, below) in bad);
}

-- before the place where it began, what stops it at a return stops it
pub returns : (course : Course) (stops : StopsValue) (chosen : List (Option Motion)) (from place : ℕ) (reason : Reason) → stops.interrupted ≡ false →
    place < from → return_of course stops chosen place ≡ Some reason → backwards_reason course stops chosen from place ≡ Some reason
unfolding backwards_reason
returns course stops chosen from place reason no_flag less h =
    rw (no_flag, is_less place from less)
    (among_three (mark_of stops place) (break_of stops chosen (course.step place)) (step_of chosen (course.step place))
    (when (place == 0) (Some reasons.Begin) ∷ touch_of stops chosen (course.step (place - 1)) ∷ []) reason h)

rest_of : (course : Course) (stops : StopsValue) (chosen : List (Option Motion)) (from place : ℕ) → stops.interrupted ≡ false → place < from →
    return_of course stops chosen place ≡ None →
    backwards_reason course stops chosen from place ≡ first_of (when (place == 0) (Some reasons.Begin) ∷ touch_of stops chosen (course.step (place - 1)) ∷ [])
unfolding backwards_reason
rest_of course stops chosen from place no_flag less h =
    rw (no_flag, is_less place from less)
    (behind_three (mark_of stops place) (break_of stops chosen (course.step place)) (step_of chosen (course.step place))
    (when (place == 0) (Some reasons.Begin) ∷ touch_of stops chosen (course.step (place - 1)) ∷ []) h)

rest_here : (course : Course) (stops : StopsValue) (chosen : List (Option Motion)) (from place : ℕ) → stops.interrupted ≡ false → from ≤ place →
    backwards_reason course stops chosen from place ≡ first_of (when (place == 0) (Some reasons.Begin) ∷ touch_of stops chosen (course.step (place - 1)) ∷ [])
unfolding backwards_reason
rest_here course stops chosen from place no_flag more = rw (no_flag, not_less place from more) refl

only_touch : (stops : StopsValue) (chosen : List (Option Motion)) (course : Course) (place : ℕ) → 0 < place →
    first_of (when (place == 0) (Some reasons.Begin) ∷ touch_of stops chosen (course.step (place - 1)) ∷ []) ≡ touch_of stops chosen (course.step (place - 1))
only_touch stops chosen course place some = rw (not_none place some) (one (touch_of stops chosen (course.step (place - 1))))

pub touches_behind : (course : Course) (stops : StopsValue) (chosen : List (Option Motion)) (from place : ℕ) → stops.interrupted ≡ false →
    0 < place → place < from → return_of course stops chosen place ≡ None →
    touch_of stops chosen (course.step (place - 1)) ≡ backwards_reason course stops chosen from place
touches_behind course stops chosen from place no_flag some less h =
    sym (rest_of course stops chosen from place no_flag less h ∙ only_touch stops chosen course place some)

pub touches_here : (course : Course) (stops : StopsValue) (chosen : List (Option Motion)) (from place : ℕ) → stops.interrupted ≡ false →
    0 < place → from ≤ place →
    touch_of stops chosen (course.step (place - 1)) ≡ backwards_reason course stops chosen from place
touches_here course stops chosen from place no_flag some more =
    sym (rest_here course stops chosen from place no_flag more ∙ only_touch stops chosen course place some)

pub begins_behind : (course : Course) (stops : StopsValue) (chosen : List (Option Motion)) (from : ℕ) → stops.interrupted ≡ false →
    0 < from → return_of course stops chosen 0 ≡ None → backwards_reason course stops chosen from 0 ≡ Some reasons.Begin
begins_behind course stops chosen from no_flag less h = rest_of course stops chosen from 0 no_flag less h

pub begins_here : (course : Course) (stops : StopsValue) (chosen : List (Option Motion)) (from : ℕ) → stops.interrupted ≡ false →
    from ≤ 0 → backwards_reason course stops chosen from 0 ≡ Some reasons.Begin
begins_here course stops chosen from no_flag more = rest_here course stops chosen from 0 no_flag more

-- Looks from one place to another.

pub nothing_yet : (reason_at : ℕ → Option Reason) (place : ℕ) → IsLast reason_at place place None
nothing_yet reason_at place other above below = absurd (let bad : ⊥ = omega (arith, above, below) in bad)

pub stops_there : (reason_at : ℕ → Option Reason) (above place : ℕ) (reason : Reason) → above ≤ place → reason_at (place + 1) ≡ Some reason →
    IsLast reason_at above (place + 1) (Some (record { place = place + 1; reason = reason }))
stops_there reason_at above place reason more why = (
  omega (arith, more),
  record {
    not_behind = omega arith;
    why = why;
    greatest = λ other behind within. absurd (let bad : ⊥ = omega (arith, behind, within) in bad);
  },
)

split_last : (other place : ℕ) → other ≤ place + 1 → (other ≤ place) ⊎ (other ≡ place + 1)
split_last other place h = grind arith

still : (reason_at : ℕ → Option Reason) (above place other : ℕ) → ((k : ℕ) → above < k → k ≤ place → reason_at k ≡ None) →
    reason_at (place + 1) ≡ None → above < other → (other ≤ place) ⊎ (other ≡ place + 1) → reason_at other ≡ None
still reason_at above place other before none more (inl within) = before other more within
still reason_at above place other before none more (inr is) = subst (λ n. reason_at n ≡ None) (sym is) none

pub stops_not : (reason_at : ℕ → Option Reason) (above place : ℕ) (found : Option Found) → IsLast reason_at above place found →
    reason_at (place + 1) ≡ None → IsLast reason_at above (place + 1) found
stops_not reason_at above place None before none =
    λ other more within. still reason_at above place other before none more (split_last other place within)
stops_not reason_at above place (Some found) before none =
    let not_behind = before.1.not_behind in (
      before.0,
      record {
        not_behind = omega (arith, not_behind);
        why = before.1.why;
        greatest = λ other more within. still reason_at found.place place other before.1.greatest none more (split_last other place within);
      },
    )

-- the first place is the greatest where none behind it stops
pub at_first : (reason_at : ℕ → Option Reason) (last : ℕ) (reason : Reason) → IsLast reason_at 0 last None → reason_at 0 ≡ Some reason →
    IsGreatest reason_at last (record { place = 0; reason = reason })
at_first reason_at last reason none why = record {
  not_behind = omega arith;
  why = why;
  greatest = none;
}

beyond : (reason_at : ℕ → Option Reason) (near from : ℕ) (found : Found) (other : ℕ) → IsGreatest reason_at near found →
    IsLast reason_at near from None → found.place < other → other ≤ from → (near < other) ⊎ (other ≤ near) → reason_at other ≡ None
beyond reason_at near from found other first second more within (inl far) = second other far within
beyond reason_at near from found other first second more within (inr close) = first.greatest other more close

side : (near other : ℕ) → (near < other) ⊎ (other ≤ near)
side near other = grind arith

pub both_parts : (reason_at : ℕ → Option Reason) (near from : ℕ) (found : Found) → near ≤ from → IsGreatest reason_at near found →
    IsLast reason_at near from None → IsGreatest reason_at from found
both_parts reason_at near from found less first second =
    let not_behind = first.not_behind in
    record {
      not_behind = omega (arith, not_behind, less);
      why = first.why;
      greatest = λ other more within. beyond reason_at near from found other first second more within (side near other);
    }

pub as_stop : (course : Course) (stops : StopsValue) (chosen : List (Option Motion)) (from : ℕ) (found : Found) →
    IsGreatest (backwards_reason course stops chosen from) from found → StopsBackwards course stops chosen from found.place found.reason
as_stop course stops chosen from found h = record { not_behind = h.not_behind; why = h.why; greatest = h.greatest }
