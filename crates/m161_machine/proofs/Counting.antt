use Rattle.std.proofs.Common.{◌≡◌, ◌∙◌, refl, ap, sym, ℕ, zero, suc, ◌+◌, Bool, true, false, List, [], ◌∷◌, map, set, get_or, Option, None, Some, Result, Ok, Err}
use Rattle.std.specs.Prelude.{if◌then◌else◌}
use Rattle.std.proofs.lemmas.List.{map-set}
use Rattle.m161_bus.specs.declared.console.DoneError.{DoneError}
use Rattle.m161_bus.specs.declared.console.KeyFull.{KeyFull}
use Rattle.m161_bus.specs.Board.{BoardState, board_key, board_done}
use Rattle.m161_cop0.specs.Control.{is_pending}
use Rattle.m161_cpu.specs.declared.processor.Outcome.{Outcome}
use Rattle.m161_cpu.specs.declared.processor.Outcome.TheVariants.{Taken}
use Rattle.m161_cpu.specs.declared.processor.ProcessorState.{ProcessorState}
use Rattle.m161_cpu.specs.declared.processor.ProcessorState.TheVariants.{Stopped, Running, Waiting}
use Rattle.m161_cpu.specs.Processor.{Processor, stopped_processor, with_register, with_hi_lo, with_control, with_row, with_state}
use Rattle.m161_cpu.specs.Scene.{Change, Scene, apply_part, around, processor_after, scene}
use Rattle.m161_cpu.specs.Step.{conflict_of, without_row, step_of_result, change_of_step, idle, lines_in, running_step, step_by_state, step_of, tick, with_processor}
use Rattle.m161_machine.specs.declared.event.Event.{Event}
use Rattle.m161_machine.specs.declared.event.Event.TheVariants.{Step, Key, Done}
use Rattle.m161_machine.specs.declared.event.Refusal.{Refusal}
use Rattle.m161_machine.specs.declared.event.Refusal.TheVariants.{KeyFull as KeyFullRefusal}
use Rattle.m161_machine.specs.State.{State, answer, answered_done, answered_key, counts, next, processor_at, refusal, refusal_of_done, step_result, unless, with_board, with_starts, with_step}
use Rattle.m161_machine.specs.helpers.State.{counts_after}
use Rattle.m161_machine.proofs.Starting.{count_kept}
use Rattle.m161_tlb.specs.declared.row.Row.{Row}

-- Each Step counts once, of its own processor.

-- a part changed, by a change that keeps the count
kept_by_part : {A : Type 0} (f : A → Processor → Processor) →
    ((a : A) (p : Processor) → (f a p).count ≡ p.count) → (o : Option A) (p : Processor) →
    (apply_part f o p).count ≡ p.count
kept_by_part f keeps None p = refl
kept_by_part f keeps (Some a) p = keeps a p

kept_by_change : (c : Change) (p : Processor) → (processor_after c p).count ≡ p.count
kept_by_change c p =
    let with_words = apply_part (λ (x : ℕ × ℕ). with_register x.0 x.1) c.register p in
    let with_pair = apply_part with_hi_lo c.hi_lo with_words in
    let with_registers = apply_part with_control c.control with_pair in
    let with_rows = apply_part (λ (x : ℕ × Row). with_row x.0 x.1) c.row with_registers in
    kept_by_part with_state (λ _ _. refl) c.state with_rows
    ∙ kept_by_part (λ (x : ℕ × Row). with_row x.0 x.1) (λ _ _. refl) c.row with_registers
    ∙ kept_by_part with_control (λ _ _. refl) c.control with_pair
    ∙ kept_by_part with_hi_lo (λ _ _. refl) c.hi_lo with_words
    ∙ kept_by_part (λ (x : ℕ × ℕ). with_register x.0 x.1) (λ _ _. refl) c.register p

count_ended : (s : Scene) (r : Result Change _) →
    (step_of_result s r).after.processor.count ≡ s.processor.count + 1
count_ended s (Ok change) = ap (λ n. n + 1) (kept_by_change (without_row (conflict_of s change) change) s.processor)
count_ended s (Err f) = refl

count_waiting : (s : Scene) (pending : Bool) →
    (if pending then running_step (with_processor (with_state Running) s) else idle tick s).after.processor.count
    ≡ s.processor.count + 1
count_waiting s true =
    count_ended (with_processor (with_state Running) s) (change_of_step (with_processor (with_state Running) s))
count_waiting s false = refl

count_in : (state : ProcessorState) (s : Scene) → (step_by_state state s).after.processor.count ≡ s.processor.count + 1
count_in Stopped s = refl
count_in Running s = count_ended s (change_of_step s)
count_in Waiting s = count_waiting s (is_pending (lines_in s) s.processor.control)

step_count : (s : Scene) → (step_of s).after.processor.count ≡ s.processor.count + 1
unfolding step_of
step_count s = count_in s.processor.state s

-- a start keeps every count
starts_count : (before : ℕ) (board : BoardState) (c : ℕ) (ps : List Processor) →
    map (λ (p : Processor). p.count) (with_starts before board c ps) ≡ map (λ (p : Processor). p.count) ps
starts_count before board c [] = refl
starts_count before board c (p ∷ ps) =
    let first = count_kept before board c p in
    let rest = starts_count before board (c + 1) ps in
    λ i. first i ∷ rest i

pub count_at : (ps : List Processor) (p : ℕ) →
    get_or (map (λ (q : Processor). q.count) ps) p 0 ≡ (get_or ps p stopped_processor).count
count_at [] p = refl
count_at (q ∷ qs) zero = refl
count_at (q ∷ qs) (suc p) = count_at qs p

counts_stepped : (p : ℕ) (s : State) →
    counts (with_step p (step_result p s) s) ≡ counts_after (Step p) (counts s)
unfolding step_result
counts_stepped p s =
    let x = step_result p s in
    starts_count s.board.started x.after.around.board 0 (set s.processors p x.after.processor)
    ∙ map-set (λ (q : Processor). q.count) s.processors p x.after.processor
    ∙ ap (λ n. set (counts s) p n)
    (step_count (scene (processor_at p s.processors) (around p s.memory s.board s.links s.conf.strict))
    ∙ ap (λ n. n + 1) (sym (count_at s.processors p)))

-- an answer that is given isn't refused
pub given : (r : Option Refusal) (x : Result (Outcome × State) Refusal) (y : Outcome × State) →
    unless r x ≡ Ok y → x ≡ Ok y
given None x y h = h
given (Some r) x y h = absurd (let bad : ◌≡◌ {A = Result (Outcome × State) Refusal} (Err r) (Ok y) = h in cc)

pub state_of : (x y : Outcome × State) → ◌≡◌ {A = Result (Outcome × State) Refusal} (Ok x) (Ok y) → x.1 ≡ y.1
state_of x y h = let pair : x ≡ y = cc in ap (λ z. z.1) pair

counts_keyed : (s t : State) (o : Outcome) (r : Result BoardState KeyFull) →
    answered_key s r ≡ Ok (o, t) → counts t ≡ counts s
counts_keyed s t o (Ok board) h = ap counts (sym (state_of (Taken, with_board board s) (o, t) h))
counts_keyed s t o (Err e) h = absurd (let bad : ◌≡◌ {A = Result (Outcome × State) Refusal} (Err KeyFullRefusal) (Ok (o, t)) = h in cc)

counts_sent : (s t : State) (o : Outcome) (r : Result BoardState DoneError) →
    answered_done s r ≡ Ok (o, t) → counts t ≡ counts s
counts_sent s t o (Ok board) h = ap counts (sym (state_of (Taken, with_board board s) (o, t) h))
counts_sent s t o (Err e) h = absurd (let bad : ◌≡◌ {A = Result (Outcome × State) Refusal} (Err (refusal_of_done e)) (Ok (o, t)) = h in cc)

counts_answered : (e : Event) (s t : State) (o : Outcome) →
    answer s e ≡ Ok (o, t) → counts t ≡ counts_after e (counts s)
counts_answered (Step p) s t o h =
    ap counts (sym (state_of ((step_result p s).outcome, with_step p (step_result p s) s) (o, t) h)) ∙ counts_stepped p s
counts_answered (Key byte) s t o h = counts_keyed s t o (board_key byte s.board) h
counts_answered Done s t o h = counts_sent s t o (board_done s.board) h

-- an accepted event counts one Step of its processor, or none
pub counts_law : (s t : State) (e : Event) (o : Outcome) → next s e ≡ Ok (o, t) → counts t ≡ counts_after e (counts s)
unfolding next
counts_law s t e o h = counts_answered e s t o (given (refusal s e) (answer s e) (o, t) h)
