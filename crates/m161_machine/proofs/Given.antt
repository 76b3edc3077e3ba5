use Rattle.std.proofs.Common.{◌≡◌, refl, ap, sym, subst, inl, inr, ℕ, Bool, true, false, List, [], ◌∷◌, Option, None, Some, Result, Ok, Err}
use Rattle.std.specs.Prelude.{All, if◌then◌else◌}
use Rattle.std.proofs.lemmas.List.Elements.{All-cons, All-nil}
use Rattle.m161_bus.specs.declared.console.DoneError.{DoneError}
use Rattle.m161_bus.specs.declared.console.KeyFull.{KeyFull}
use Rattle.m161_bus.specs.Board.{BoardState, board_key, board_done}
use Rattle.m161_cop0.specs.Control.{Control, is_pending}
use Rattle.m161_cop0.specs.declared.trap.Trap.{Trap}
use Rattle.m161_cop0.specs.Trap.{IsVector, vector_of}
use Rattle.m161_cpu.specs.declared.processor.Outcome.{Outcome}
use Rattle.m161_cpu.specs.declared.processor.Outcome.TheVariants.{Taken}
use Rattle.m161_cpu.specs.declared.processor.ProcessorState.{ProcessorState}
use Rattle.m161_cpu.specs.declared.processor.ProcessorState.TheVariants.{Stopped, Running, Waiting}
use Rattle.m161_cpu.specs.Fault.{trap_of}
use Rattle.m161_cpu.specs.Processor.{with_state}
use Rattle.m161_cpu.specs.Scene.{Change, Scene, around, around_after, scene}
use Rattle.m161_cpu.specs.Step.{AreTwoRows, IsOfStep, conflict_of, outcome_after, step_of_result, change_of_step, idle, lines_in, running_step, step_by_state, step_of, switches_off, tick, with_processor}
use Rattle.m161_cpu.proofs.Apart.{two_rows}
use Rattle.m161_machine.specs.declared.event.Entry.{Entry}
use Rattle.m161_machine.specs.declared.event.Event.{Event}
use Rattle.m161_machine.specs.declared.event.Event.TheVariants.{Step, Key, Done}
use Rattle.m161_machine.specs.declared.event.Refusal.{Refusal}
use Rattle.m161_machine.specs.declared.event.Refusal.TheVariants.{KeyFull as KeyFullRefusal}
use Rattle.m161_machine.specs.State.{State, answer, answered_done, answered_key, next, processor_at, refusal, refusal_of_done, step_result, with_board, with_step}
use Rattle.m161_machine.specs.History.{CanGive, Leads}
use Rattle.m161_machine.proofs.Counting.{given}

-- Each entry of a run has an outcome that its event can have.

by_bits : (miss boot : Bool) →
    IsVector (if miss then (if boot then 0xbfc00100 else 0x80000000) else (if boot then 0xbfc00180 else 0x80000080))
by_bits true true = inr (inr (inl refl))
by_bits true false = inl refl
by_bits false true = inr (inr (inr refl))
by_bits false false = inr (inl refl)

is_vector : (trap : Trap) (c : Control) → IsVector (vector_of trap c)
unfolding vector_of
is_vector trap c = by_bits _ _

by_power : (conflict : Option (ℕ × ℕ)) (off : Bool) → ((rows : ℕ × ℕ) → conflict ≡ Some rows → AreTwoRows rows.0 rows.1) → IsOfStep (outcome_after conflict off)
by_power None true two = tt
by_power None false two = tt
by_power (Some rows) off two = two rows refl

ended_proper : (s : Scene) (r : Result Change _) → IsOfStep (step_of_result s r).outcome
ended_proper s (Ok change) =
    by_power (conflict_of s change) (switches_off s.around.board (around_after change s.around).board)
    (two_rows s.around.strict s.processor.rows change.row)
ended_proper s (Err f) = is_vector (trap_of f s.processor) s.processor.control

waiting_proper : (s : Scene) (pending : Bool) →
    IsOfStep (if pending then running_step (with_processor (with_state Running) s) else idle tick s).outcome
waiting_proper s true =
    ended_proper (with_processor (with_state Running) s) (change_of_step (with_processor (with_state Running) s))
waiting_proper s false = tt

proper_in : (state : ProcessorState) (s : Scene) → IsOfStep (step_by_state state s).outcome
proper_in Stopped s = tt
proper_in Running s = ended_proper s (change_of_step s)
proper_in Waiting s = waiting_proper s (is_pending (lines_in s) s.processor.control)

step_proper : (s : Scene) → IsOfStep (step_of s).outcome
unfolding step_of
step_proper s = proper_in s.processor.state s

stepped_proper : (p : ℕ) (s : State) → IsOfStep (step_result p s).outcome
unfolding step_result
stepped_proper p s =
    step_proper (scene (processor_at p s.processors) (around p s.memory s.board s.links s.conf.strict))

-- the outcome of an answer
pub outcome_of : (x y : Outcome × State) → ◌≡◌ {A = Result (Outcome × State) Refusal} (Ok x) (Ok y) → x.0 ≡ y.0
outcome_of x y h = let pair : x ≡ y = cc in ap (λ z. z.0) pair

key_gives : (s t : State) (o : Outcome) (r : Result BoardState KeyFull) →
    answered_key s r ≡ Ok (o, t) → o ≡ Taken
key_gives s t o (Ok board) h = sym (outcome_of (Taken, with_board board s) (o, t) h)
key_gives s t o (Err e) h = absurd (let bad : ◌≡◌ {A = Result (Outcome × State) Refusal} (Err KeyFullRefusal) (Ok (o, t)) = h in cc)

done_gives : (s t : State) (o : Outcome) (r : Result BoardState DoneError) →
    answered_done s r ≡ Ok (o, t) → o ≡ Taken
done_gives s t o (Ok board) h = sym (outcome_of (Taken, with_board board s) (o, t) h)
done_gives s t o (Err e) h = absurd (let bad : ◌≡◌ {A = Result (Outcome × State) Refusal} (Err (refusal_of_done e)) (Ok (o, t)) = h in cc)

answer_gives : (e : Event) (s t : State) (o : Outcome) → answer s e ≡ Ok (o, t) → CanGive e o
answer_gives (Step p) s t o h =
    subst IsOfStep (outcome_of ((step_result p s).outcome, with_step p (step_result p s) s) (o, t) h) (stepped_proper p s)
answer_gives (Key byte) s t o h = key_gives s t o (board_key byte s.board) h
answer_gives Done s t o h = done_gives s t o (board_done s.board) h

pub gives : (e : Event) (s t : State) (o : Outcome) → next s e ≡ Ok (o, t) → CanGive e o
unfolding next
gives e s t o h = answer_gives e s t o (given (refusal s e) (answer s e) (o, t) h)

pub run_gives : (log : List Entry) (s t : State) → Leads s log t → All (λ (e : Entry). CanGive e.event e.outcome) log
run_gives [] s t h = All-nil (λ (e : Entry). CanGive e.event e.outcome)
run_gives (e ∷ log) s t h =
    All-cons (λ (e : Entry). CanGive e.event e.outcome) e log
    (gives e.event s h.0 e.outcome h.1) (run_gives log h.0 t h.2)
