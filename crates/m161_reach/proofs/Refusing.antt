use Rattle.std.proofs.Common.{◌≡◌, ◌∙◌, refl, ap, ℕ, ◌<◌, ◌≤◌, zero, suc, arith, Bool, true, false, List, [], ◌∷◌, length, Option, None}
use Rattle.std.specs.Prelude.{Err, Result, option_map, slice_get}
use Rattle.m161_bus.specs.Board.{with_console}
use Rattle.m161_bus.specs.Console.{done_from}
use Rattle.m161_cpu.specs.declared.processor.Outcome.{Outcome}
use Rattle.m161_machine.specs.declared.event.Event.TheVariants.{Done, Key}
use Rattle.m161_machine.specs.declared.event.Refusal.{Refusal}
use Rattle.m161_machine.specs.declared.event.Refusal.TheVariants.{NothingSent, Off}
use Rattle.m161_machine.specs.State.{State, answered_done, next as result_of, refusal, unless}
use Rattle.m161_states.specs.Question.{Question, processors_of}
use Rattle.m161_states.specs.System.{Explored, accepted, event_of, fresh, next, next_by}
use Rattle.m161_states.specs.Verdicts.{stop, stop_by}
use Rattle.m161_reach.proofs.Meeting.{done_event, key_event}

-- Inputs that are refused, as is known before they are made.

-- the result of Done, where the machine is off or isn't, and with this in the latch
abbrev with_latch : State → Bool → Option ℕ → Result (Outcome × State) Refusal
with_latch s off latch =
    unless (refusal (record s { board = record s.board { off = off }; made = 0 }) Done)
    (answered_done (fresh s) (with_console (done_from latch s.board.console) s.board))

none_sent : (s : State) (off : Bool) → (r : Refusal) × (with_latch s off None ≡ Err r)
none_sent s true = (Off, refl)
none_sent s false = (NothingSent, refl)

pub done_refused : (s : State) → s.board.console.latch ≡ None → (r : Refusal) × (result_of (fresh s) Done ≡ Err r)
unfolding result_of
done_refused s h = let first = none_sent s s.board.off in (first.0, ap (with_latch s s.board.off) h ∙ first.1)

pub refuses_done : (q : Question) (x : Explored) (n : ℕ) (r : Refusal) → n ≡ processors_of q → result_of (fresh x.state) Done ≡ Err r →
    (stop q x n ≡ None) × (next q x n ≡ None)
refuses_done q x n r is h =
    let event = done_event q x n is in
    (ap (stop_by q x) event, ap (next_by q.goal x) event ∙ ap (accepted q.goal x Done) h)

not_there : (xs : List ℕ) (i : ℕ) → length xs ≤ i → slice_get xs i ≡ None
not_there [] i past = refl
not_there (x ∷ xs) zero past = absurd (let bad : ⊥ = omega (arith, past) in bad)
not_there (x ∷ xs) (suc i) past = not_there xs i (omega (arith, past))

pub refuses_key : (q : Question) (x : Explored) (n : ℕ) → processors_of q < n → length q.goal.keys ≤ x.typed → (stop q x n ≡ None) × (next q x n ≡ None)
refuses_key q x n past typed =
    let event : event_of q x n ≡ None =
    key_event q x n past ∙ ap (option_map (λ byte. Key byte)) (not_there q.goal.keys x.typed typed) in
    (ap (stop_by q x) event, ap (next_by q.goal x) event)
