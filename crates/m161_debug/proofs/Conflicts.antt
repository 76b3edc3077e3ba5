-- A run that stops at a conflict leaves a state that tells it.
use Rattle.std.proofs.Common.{◌≡◌, refl, subst, ℕ, true, Option, None, Some, Result, Ok, Err}
use Rattle.std.specs.Prelude.{is_some}
use Rattle.m161_bus.specs.Board.{BoardState, board_done, board_key}
use Rattle.m161_bus.specs.declared.console.DoneError.{DoneError}
use Rattle.m161_bus.specs.declared.console.KeyFull.{KeyFull}
use Rattle.m161_cpu.specs.declared.processor.Outcome.{Outcome}
use Rattle.m161_cpu.specs.declared.processor.Outcome.TheVariants as outcomes
use Rattle.m161_machine.specs.declared.event.Conflict.{Conflict as Told}
use Rattle.m161_machine.specs.declared.event.Event.{Event}
use Rattle.m161_machine.specs.declared.event.Event.TheVariants as events
use Rattle.m161_machine.specs.declared.event.Refusal.{Refusal}
use Rattle.m161_machine.specs.declared.event.Refusal.TheVariants as refusals
use Rattle.m161_machine.specs.State.{State, answer, answered_done, answered_key, conflict_after, next, refusal, refusal_of_done, step_result, unless, with_board, with_step}
use Rattle.m161_debug.specs.declared.stop.StopReason.TheVariants.{Conflict, Off}
use Rattle.m161_debug.specs.Stops.{off_stop, TellsConflict}
use Rattle.m161_debug.proofs.Going.{none_some}

-- an accepted event with such an outcome

told_by : (p k j : ℕ) (o : Outcome) (before : Option Told) → off_stop k o ≡ Some (Conflict j) → is_some (conflict_after p o before) ≡ true
told_by p k j outcomes.Ran before is = absurd (none_some (Conflict j) is)
told_by p k j (outcomes.Trapped code vector) before is = absurd (none_some (Conflict j) is)
told_by p k j outcomes.Idle before is = absurd (none_some (Conflict j) is)
told_by p k j outcomes.PoweredOff before is = absurd (let bad : Off k ≡ Conflict j = cc in cc)
told_by p k j (outcomes.Conflict row other) before is = refl
told_by p k j outcomes.Taken before is = absurd (none_some (Conflict j) is)

abbrev Given : Type 0
Given = Outcome × State

not_refused : (r : Option Refusal) (x : Result Given Refusal) (y : Given) → unless r x ≡ Ok y → x ≡ Ok y
not_refused None x y h = h
not_refused (Some r) x y h = absurd (let bad : ◌≡◌ {A = Result Given Refusal} (Err r) (Ok y) = h in cc)

-- its state tells the conflict
abbrev Tells : ℕ → ℕ → Given → Type 0
Tells k j y = off_stop k y.0 ≡ Some (Conflict j) → is_some y.1.conflict ≡ true

of_input : (t : State) (y : Given) (k j : ℕ) → ◌≡◌ {A = Result Given Refusal} (Ok (outcomes.Taken, t)) (Ok y) → Tells k j y
of_input t y k j h =
    let given : Given = (outcomes.Taken, t) in
    let same : given ≡ y = cc in
    subst (Tells k j) same (λ is. absurd (none_some (Conflict j) is))

of_key : (s : State) (r : Result BoardState KeyFull) (y : Given) (k j : ℕ) → answered_key s r ≡ Ok y → Tells k j y
of_key s (Ok board) y k j h = of_input (with_board board s) y k j h
of_key s (Err e) y k j h = absurd (let bad : ◌≡◌ {A = Result Given Refusal} (Err refusals.KeyFull) (Ok y) = h in cc)

of_done : (s : State) (r : Result BoardState DoneError) (y : Given) (k j : ℕ) → answered_done s r ≡ Ok y → Tells k j y
of_done s (Ok board) y k j h = of_input (with_board board s) y k j h
of_done s (Err e) y k j h = absurd (let bad : ◌≡◌ {A = Result Given Refusal} (Err (refusal_of_done e)) (Ok y) = h in cc)

of_answer : (s : State) (e : Event) (y : Given) (k j : ℕ) → answer s e ≡ Ok y → Tells k j y
of_answer s (events.Step p) y k j h =
    let given : Given = ((step_result p s).outcome, with_step p (step_result p s) s) in
    let same : given ≡ y = let ok : ◌≡◌ {A = Result Given Refusal} (Ok given) (Ok y) = h in cc in
    subst (Tells k j) same (told_by p k j (step_result p s).outcome s.conflict)
of_answer s (events.Key byte) y k j h = of_key s (board_key byte s.board) y k j h
of_answer s events.Done y k j h = of_done s (board_done s.board) y k j h

of_next : (s : State) (e : Event) (y : Given) (k j : ℕ) → next s e ≡ Ok y → Tells k j y
unfolding next
of_next s e y k j h = of_answer s e y k j (not_refused (refusal s e) (answer s e) y h)

pub tells_conflict : TellsConflict
tells_conflict aw bs s es k t has =
    let h = has.2 in
    of_next has.0 h.0 (outcomes.Conflict h.1 h.2, t) k k h.3.2 refl
