use Rattle.std.proofs.Common.{◌≡◌, ◌∙◌, refl, ap, ℕ, Bool, true, false, List, [], ◌∷◌, Option, None, Some, Ok, Err}
use Rattle.std.specs.Prelude.{option_map, unwrap_or, if◌then◌else◌}
use Rattle.m161_isa.specs.declared.effect.Effect.{Effect}
use Rattle.m161_isa.specs.declared.table.Row.{Row}
use Rattle.m161_isa.specs.Table.{table, row_that_fits, numbers_of}
use Rattle.m161_cop0.specs.Control.{is_interrupted, is_pending}
use Rattle.m161_bus.specs.Board.{BoardState, interrupt_lines}
use Rattle.m161_cpu.specs.declared.processor.ProcessorState.{ProcessorState}
use Rattle.m161_cpu.specs.declared.processor.ProcessorState.TheVariants.{Stopped, Running, Waiting}
use Rattle.m161_cpu.specs.Processor.{with_state}
use Rattle.m161_cpu.specs.Scene.{Scene, Change, and_then, around_after, processor_after, result_map, scene, stored_by}
use Rattle.m161_cpu.specs.Effect.{Argument, arguments, effect_of, with_three}
use Rattle.m161_cpu.specs.Step.{Stepped, change_by_row, change_in, change_of_step, conflict_of, executable_word, idle, lines_in, off_after, outcome_after, running_step, step_by_conflict, step_by_state, step_of, step_of_result, switches_off, tick, with_processor}
use Rattle.m161_alike.specs.View.{with_output}
use Rattle.m161_alike.proofs.Heard.{effect_heard, heard, heard_change}

-- A Step does the same whatever the console has sent, and leaves it as it is.

abbrev pub heard_stepped : List ℕ → Stepped → Stepped
heard_stepped sent x = record x { after = heard sent x.after }

board_or : (sent : List ℕ) (o : Option BoardState) (b : BoardState) →
    unwrap_or (option_map (with_output sent) o) (with_output sent b) ≡ with_output sent (unwrap_or o b)
board_or sent None b = refl
board_or sent (Some other) b = refl

changed_heard : (sent : List ℕ) (conflict : Option (ℕ × ℕ)) (s : Scene) (change : Change) →
    step_by_conflict conflict (heard sent s) (heard_change sent change) ≡ heard_stepped sent (step_by_conflict conflict s change)
changed_heard sent None s change =
    let same = board_or sent change.board s.around.board in
    λ i. record {
      outcome = outcome_after None (switches_off s.around.board (same i));
      after = scene (tick (processor_after change s.processor)) (record (around_after change s.around) { board = same i });
      link = change.link;
      stored = stored_by change.store;
    }
changed_heard sent (Some conflict) s change =
    let same = board_or sent change.board s.around.board in
    λ i. record {
      outcome = outcome_after (Some conflict) (switches_off s.around.board (same i));
      after = scene (tick (processor_after (record change { row = None }) s.processor)) (record (around_after change s.around) { board = off_after (Some conflict) (same i) });
      link = change.link;
      stored = stored_by change.store;
    }

result_heard : (sent : List ℕ) (s : Scene) (r : _) →
    step_of_result (heard sent s) (result_map (heard_change sent) r) ≡ heard_stepped sent (step_of_result s r)
result_heard sent s (Ok change) = changed_heard sent (conflict_of s change) s change
result_heard sent s (Err f) = refl

three_heard : (sent : List ℕ) (s : Scene) (e : Effect) (l : List Argument) →
    with_three (effect_of (heard sent s) e) l ≡ result_map (heard_change sent) (with_three (effect_of s e) l)
three_heard sent s e [] = effect_heard sent s e _ _ _
three_heard sent s e (a ∷ []) = effect_heard sent s e a _ _
three_heard sent s e (a ∷ b ∷ []) = effect_heard sent s e a b _
three_heard sent s e (a ∷ b ∷ c ∷ l) = effect_heard sent s e a b c

row_heard : (sent : List ℕ) (s : Scene) (word : ℕ) (o : Option Row) →
    change_by_row (heard sent s) word o ≡ result_map (heard_change sent) (change_by_row s word o)
row_heard sent s word None = refl
row_heard sent s word (Some r) =
    three_heard sent s (table r).effect (arguments s.processor (table r).operands (numbers_of word (Some r)))

word_heard : (sent : List ℕ) (s : Scene) (w : _) →
    and_then w (change_in (heard sent s)) ≡ result_map (heard_change sent) (and_then w (change_in s))
word_heard sent s (Ok word) = row_heard sent s word (row_that_fits word)
word_heard sent s (Err f) = refl

lines_heard : (sent : List ℕ) (s : Scene) → lines_in (heard sent s) ≡ lines_in s
unfolding interrupt_lines
lines_heard sent s = refl

change_by : (sent : List ℕ) (s : Scene) (interrupted : Bool) → is_interrupted (lines_in s) s.processor.control ≡ interrupted →
    change_of_step (heard sent s) ≡ result_map (heard_change sent) (change_of_step s)
unfolding change_of_step interrupt_lines
change_by sent s true h = rw h refl
change_by sent s false h = rw h (word_heard sent s (executable_word s.around.memory s.processor))

run_heard : (sent : List ℕ) (s : Scene) → running_step (heard sent s) ≡ heard_stepped sent (running_step s)
run_heard sent s =
    ap (step_of_result (heard sent s)) (change_by sent s (is_interrupted (lines_in s) s.processor.control) refl)
    ∙ result_heard sent s (change_of_step s)

wait_heard : (sent : List ℕ) (s : Scene) (pending : Bool) →
    (if pending then running_step (with_processor (with_state Running) (heard sent s)) else idle tick (heard sent s))
    ≡ heard_stepped sent (if pending then running_step (with_processor (with_state Running) s) else idle tick s)
wait_heard sent s true = run_heard sent (with_processor (with_state Running) s)
wait_heard sent s false = refl

state_heard : (sent : List ℕ) (st : ProcessorState) (s : Scene) → step_by_state st (heard sent s) ≡ heard_stepped sent (step_by_state st s)
unfolding interrupt_lines
state_heard sent Stopped s = refl
state_heard sent Running s = run_heard sent s
state_heard sent Waiting s = wait_heard sent s (is_pending (lines_in s) s.processor.control)

pub step_heard : (sent : List ℕ) (s : Scene) → step_of (heard sent s) ≡ heard_stepped sent (step_of s)
unfolding step_of
step_heard sent s = state_heard sent s.processor.state s
