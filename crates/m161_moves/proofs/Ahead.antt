use Rattle.std.proofs.Common.{◌≡◌, ◌∙◌, refl, sym, subst, ℕ, ◌+◌, ◌-◌, ◌<◌, ◌≤◌, true, false, List, [], ◌∷◌, ◌⊎◌, inl, inr, arith}
use Rattle.std.specs.Prelude.{Option, None, Some, nat_lt, ◌==◌}
use Rattle.m161_gdb.specs.declared.packet.Motion.{Motion}
use Rattle.m161_gdb.specs.Stops.{StopsValue}
use Rattle.m161_moves.specs.declared.reason.Reason.TheVariants as reasons
use Rattle.m161_moves.specs.Course.{Course}
use Rattle.m161_moves.specs.Moves.{StopsForwards, forwards_reason}
use Rattle.m161_moves.specs.Stopping.{break_of, mark_of, step_of, touch_of, when}
use Rattle.m161_moves.specs.helpers.Places.{ahead_of, behind_of}
use Rattle.m161_moves.proofs.Firsts.{below_end, is_less, not_fourth, not_itself, two_parts}

-- Moves forwards.

-- with the interrupt flag a move ends where it begins
pub interrupted : (course : Course) (stops : StopsValue) (chosen : List (Option Motion)) (from : ℕ) → stops.interrupted ≡ true →
    StopsForwards course stops chosen from from reasons.Interrupt
unfolding forwards_reason
interrupted course stops chosen from flag = record {
  not_before = omega arith;
  why = rw flag refl;
  least = λ other above below. absurd (let bad : ⊥ = omega (arith, above, below) in bad);
}

pub at_start : (course : Course) (stops : StopsValue) (chosen : List (Option Motion)) (from : ℕ) → stops.interrupted ≡ false →
    ahead_of course stops chosen from ≡ forwards_reason course stops chosen from from
unfolding forwards_reason
at_start course stops chosen from no_flag = rw (no_flag, not_itself from) refl

pub further : (course : Course) (stops : StopsValue) (chosen : List (Option Motion)) (from place : ℕ) → stops.interrupted ≡ false → from < place →
    behind_of course stops chosen place ≡ forwards_reason course stops chosen from place
unfolding forwards_reason
further course stops chosen from place no_flag less =
    two_parts (mark_of stops place) (step_of chosen (course.step (place - 1)))
    (when (place == course.end) (Some reasons.End) ∷ break_of stops chosen (course.step place) ∷ touch_of stops chosen (course.step place) ∷ [])
    ∙ (rw (no_flag, is_less from place less) refl)

not_at_end : (course : Course) (stops : StopsValue) (chosen : List (Option Motion)) (from place : ℕ) → stops.interrupted ≡ false →
    forwards_reason course stops chosen from place ≡ None → (place == course.end) ≡ false
unfolding forwards_reason
not_at_end course stops chosen from place no_flag none =
    not_fourth None (when (nat_lt from place) (mark_of stops place)) (when (nat_lt from place) (step_of chosen (course.step (place - 1))))
    (place == course.end) reasons.End (break_of stops chosen (course.step place) ∷ touch_of stops chosen (course.step place) ∷ [])
    (rw no_flag at none)

-- where nothing stops, the run goes on
pub goes_on : (course : Course) (stops : StopsValue) (chosen : List (Option Motion)) (from place : ℕ) → stops.interrupted ≡ false →
    place ≤ course.end → forwards_reason course stops chosen from place ≡ None → place < course.end
goes_on course stops chosen from place no_flag within none =
    below_end place course.end within (not_at_end course stops chosen from place no_flag none)

-- none stops up to a place
abbrev pub NoneBefore : Course → StopsValue → List (Option Motion) → ℕ → ℕ → Type 0
NoneBefore course stops chosen from place =
    (other : ℕ) → from ≤ other → other < place → forwards_reason course stops chosen from other ≡ None

split_last : (other place : ℕ) → other < place + 1 → (other < place) ⊎ (other ≡ place)
split_last other place h = grind arith

one_more_by : (course : Course) (stops : StopsValue) (chosen : List (Option Motion)) (from place other : ℕ) →
    NoneBefore course stops chosen from place → forwards_reason course stops chosen from place ≡ None → from ≤ other →
    (other < place) ⊎ (other ≡ place) → forwards_reason course stops chosen from other ≡ None
one_more_by course stops chosen from place other before none above (inl below) = before other above below
one_more_by course stops chosen from place other before none above (inr is) =
    subst (λ n. forwards_reason course stops chosen from n ≡ None) (sym is) none

pub one_more : (course : Course) (stops : StopsValue) (chosen : List (Option Motion)) (from place : ℕ) →
    NoneBefore course stops chosen from place → forwards_reason course stops chosen from place ≡ None →
    NoneBefore course stops chosen from (place + 1)
one_more course stops chosen from place before none other above below =
    one_more_by course stops chosen from place other before none above (split_last other place below)

pub none_yet : (course : Course) (stops : StopsValue) (chosen : List (Option Motion)) (from : ℕ) → NoneBefore course stops chosen from from
none_yet course stops chosen from other above below = absurd (let bad : ⊥ = omega (arith, above, below) in bad)
