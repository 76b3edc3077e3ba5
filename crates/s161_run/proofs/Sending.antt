use Rattle.std.proofs.Common.{◌≡◌, ◌∙◌, refl, sym, ap, subst, ℕ, ◌≤◌, Bool, true, false, List, [], ◌∷◌, ◌++◌, length, Option, None, Some, Result, Ok, Err, arith, append-nil}
use Rattle.std.specs.Prelude.{◌-◌, ◌/◌, ◌%◌, ◌==◌, nat_le, nat_lt, if◌then◌else◌, unwrap_or}
use Rattle.m161_isa.specs.declared.effect.Effect.{Effect}
use Rattle.m161_isa.specs.declared.effect.Effect.TheVariants as effect
use Rattle.m161_isa.specs.declared.table.Row.{Row}
use Rattle.m161_isa.specs.Table.{table, row_that_fits, numbers_of}
use Rattle.m161_cop0.specs.Control.{is_interrupted, is_pending}
use Rattle.m161_bus.specs.Board.{BoardState, after_read, board_read, board_written, read_from, slot_written, with_console, with_slot_word}
use Rattle.m161_bus.specs.Console.{ConsoleState, done_from}
use Rattle.m161_bus.specs.Registers.{RegisterLine, at, console_configuration, console_table, controller_configuration, controller_part, in_table, is_word_of_slots, place_table, register_in, register_of}
use Rattle.m161_cpu.specs.declared.processor.Outcome.{Outcome}
use Rattle.m161_cpu.specs.declared.processor.ProcessorState.{ProcessorState}
use Rattle.m161_cpu.specs.declared.processor.ProcessorState.TheVariants.{Stopped, Running, Waiting}
use Rattle.m161_cpu.specs.Effect.{Argument, arguments, effect_of, is_linked, store_conditional, store_physical_word, with_three, write_board, write_read}
use Rattle.m161_cpu.specs.Processor.{with_state}
use Rattle.m161_cpu.specs.Scene.{around_after, Change, Scene, and_then, around, result_map, scene}
use Rattle.m161_cpu.specs.Step.{conflict_of, off_after, change_by_row, change_in, change_of_step, executable_word, idle, lines_in, running_step, step_by_state, step_of, step_of_result, tick, with_processor}
use Rattle.m161_cpu.specs.Translation.{or_bus_error, read_physical_word}
use Rattle.m161_machine.specs.declared.event.Event.{Event}
use Rattle.m161_machine.specs.declared.event.Event.TheVariants.{Step, Key, Done}
use Rattle.m161_machine.specs.declared.event.Refusal.{Refusal}
use Rattle.m161_machine.specs.State.{State, answer, answered_done, answered_key, next, processor_at, refusal, step_result, unless}

-- What the console has sent, after an event: what it had sent, and after Done one byte more.

abbrev sent : BoardState → List ℕ
sent b = b.console.output

-- an access of a register of the slots sends nothing
abbrev Quiet : RegisterLine → Type 0
Quiet l =
    (word : ℕ) (b : BoardState) →
    (sent (with_slot_word l.register word b) ≡ sent b) × (sent (after_read l.register b) ≡ sent b)

if_quiet : (t : Bool) (x y : _) → Quiet (at 0 x) → Quiet (at 0 y) → Quiet (at 0 (if t then x else y))
if_quiet true x y h k = h
if_quiet false x y h k = k

abbrev AllQuiet : List RegisterLine → Type 0
AllQuiet [] = Unit {0}
AllQuiet (l ∷ ls) = Quiet l × AllQuiet ls

table_quiet : (offset : ℕ) (ls : List RegisterLine) → AllQuiet ls → Quiet (at 0 (in_table offset ls))
table_quiet offset [] h = λ word b. (refl, refl)
table_quiet offset (l ∷ ls) h = if_quiet (offset == l.offset) l.register (in_table offset ls) h.0 (table_quiet offset ls h.1)

console_quiet : AllQuiet console_table
console_quiet = (λ word b. (refl, refl), (λ word b. (refl, refl), (λ word b. (refl, refl), tt)))

configuration_quiet : AllQuiet console_configuration
configuration_quiet = (λ word b. (refl, refl), (λ word b. (refl, refl), (λ word b. (refl, refl), tt)))

controller_quiet : AllQuiet controller_configuration
controller_quiet = (
  λ word b. (refl, refl),
  (
    λ word b. (refl, refl),
    (
      λ word b. (refl, refl),
      (
        λ word b. (refl, refl),
        (
          λ word b. (refl, refl),
          (λ word b. (refl, refl), (λ word b. (refl, refl), (λ word b. (refl, refl), (λ word b. (refl, refl), (λ word b. (refl, refl), tt))))),
        ),
      ),
    ),
  ),
)

place_quiet : (p : ℕ) → AllQuiet (place_table p)
place_quiet p = (λ word b. (refl, refl), (λ word b. (refl, refl), tt))

part_quiet : (processors part offset : ℕ) → Quiet (at 0 (controller_part processors part offset))
part_quiet processors part offset =
    if_quiet (nat_lt part 32) _ _
    (if_quiet (part == 0) _ _ (table_quiet offset console_configuration configuration_quiet)
    (if_quiet (part == 31) _ _ (table_quiet offset controller_configuration controller_quiet) (λ word b. (refl, refl))))
    (if_quiet (nat_lt (part - 32) processors) _ _
    (if_quiet (nat_le 0x300 offset) _ _ (λ word b. (refl, refl)) (table_quiet offset (place_table (part - 32)) (place_quiet (part - 32))))
    (λ word b. (refl, refl)))

register_quiet : (processors slot offset : ℕ) → Quiet (at 0 (register_in processors slot offset))
register_quiet processors slot offset =
    if_quiet (slot == 0) _ _ (table_quiet offset console_table console_quiet)
    (if_quiet (slot == 31) _ _ (part_quiet processors (offset / 0x400) (offset % 0x400)) (λ word b. (refl, refl)))

-- neither does an instruction
abbrev Silent : {E : Type 0} → Scene → Result Change E → Type 0
Silent s (Ok change) = sent (unwrap_or change.board s.around.board) ≡ sent s.around.board
Silent s (Err f) = Unit {0}

mapped : {T E : Type 0} (s : Scene) (r : Result T E) (f : T → Change) → ((x : T) → (f x).board ≡ None) → Silent s (result_map f r)
mapped s (Ok x) f h = ap (λ board. sent (unwrap_or board s.around.board)) (h x)
mapped s (Err e) f h = tt

in_slot : {E : Type 0} (slot : Bool) (s : Scene) (trap : E) (change : Change) → change.board ≡ None →
    Silent s (if slot then Err trap else Ok change)
in_slot true s trap change h = tt
in_slot false s trap change h = ap (λ board. sent (unwrap_or board s.around.board)) h

conditional : (linked : Bool) (x y : Change) → x.board ≡ None → y.board ≡ None → (if linked then x else y).board ≡ None
conditional true x y h k = h
conditional false x y h k = k

-- a load from the slots
loaded_from : (inside : Bool) (s : Scene) (access : _) (d c processors slot offset : ℕ) →
    Silent s (result_map (write_read d) (or_bus_error access
    (read_from c (if inside then Some (register_in processors slot offset) else None) s.around.board)))
loaded_from true s access d c processors slot offset = (register_quiet processors slot offset 0 s.around.board).1
loaded_from false s access d c processors slot offset = tt

loaded_if : (in_memory : Bool) (s : Scene) (access : _) (d word c place : ℕ) →
    Silent s (result_map (write_read d) (if in_memory then Ok (word, s.around.board) else or_bus_error access (board_read c place s.around.board)))
unfolding board_read register_of
loaded_if true s access d word c place = refl
loaded_if false s access d word c place =
    loaded_from (is_word_of_slots place) s access d c s.around.board.processors ((place - 0x1fe00000) / 0x10000) ((place - 0x1fe00000) % 0x10000)

loaded : (s : Scene) (d c : ℕ) (to : Result ℕ _) →
    Silent s (result_map (write_read d) (and_then to (read_physical_word c s.around.memory s.around.board)))
loaded s d c (Ok place) = search (loaded_if)
loaded s d c (Err f) = tt

-- a store to them
stored_to : (inside : Bool) (s : Scene) (access : _) (word processors slot offset : ℕ) →
    Silent s (result_map write_board (or_bus_error access
    (slot_written (if inside then Some (register_in processors slot offset) else None) word s.around.board)))
stored_to true s access word processors slot offset = (register_quiet processors slot offset word s.around.board).0
stored_to false s access word processors slot offset = tt

stored_if : (in_memory : Bool) (s : Scene) (access : _) (change : Change) (c place word : ℕ) → change.board ≡ None →
    Silent s (if in_memory then Ok change else result_map write_board (or_bus_error access (board_written c place word s.around.board)))
unfolding board_written register_of
stored_if true s access change c place word h = ap (λ board. sent (unwrap_or board s.around.board)) h
stored_if false s access change c place word h =
    stored_to (is_word_of_slots place) s access word s.around.board.processors ((place - 0x1fe00000) / 0x10000) ((place - 0x1fe00000) % 0x10000)

stored : (s : Scene) (word : ℕ) (to : Result ℕ _) → Silent s (and_then to (store_physical_word s word))
stored s word (Ok place) = search (stored_if)
stored s word (Err f) = tt

effect_sends : (s : Scene) (e : Effect) (a b c : Argument) → Silent s (effect_of s e a b c)
effect_sends s effect.ShiftLeft a b c = refl
effect_sends s effect.ShiftRight a b c = refl
effect_sends s effect.ShiftRightArithmetic a b c = refl
effect_sends s effect.Jump a b c = in_slot s.processor.slot s _ _ refl
effect_sends s effect.JumpAndLinkRegister a b c = in_slot s.processor.slot s _ _ refl
effect_sends s effect.SystemCall a b c = tt
effect_sends s effect.Breakpoint a b c = tt
effect_sends s effect.Synchronize a b c = refl
effect_sends s effect.MoveFromHi a b c = refl
effect_sends s effect.MoveToHi a b c = refl
effect_sends s effect.MoveFromLo a b c = refl
effect_sends s effect.MoveToLo a b c = refl
effect_sends s effect.Multiply a b c = refl
effect_sends s effect.MultiplyUnsigned a b c = refl
effect_sends s effect.Divide a b c = refl
effect_sends s effect.DivideUnsigned a b c = refl
effect_sends s effect.Sum a b c = mapped s _ _ (λ x. refl)
effect_sends s effect.SumModulo a b c = refl
effect_sends s effect.Difference a b c = mapped s _ _ (λ x. refl)
effect_sends s effect.DifferenceModulo a b c = refl
effect_sends s effect.And a b c = refl
effect_sends s effect.Or a b c = refl
effect_sends s effect.Xor a b c = refl
effect_sends s effect.Nor a b c = refl
effect_sends s effect.SetOnLess a b c = refl
effect_sends s effect.SetOnLessUnsigned a b c = refl
effect_sends s effect.BranchOnLess a b c = in_slot s.processor.slot s _ _ refl
effect_sends s effect.BranchOnGreaterOrEqual a b c = in_slot s.processor.slot s _ _ refl
effect_sends s effect.BranchOnLessAndLink a b c = in_slot s.processor.slot s _ _ refl
effect_sends s effect.BranchOnGreaterOrEqualAndLink a b c = in_slot s.processor.slot s _ _ refl
effect_sends s effect.JumpAndLink a b c = in_slot s.processor.slot s _ _ refl
effect_sends s effect.BranchOnEqual a b c = in_slot s.processor.slot s _ _ refl
effect_sends s effect.BranchOnNotEqual a b c = in_slot s.processor.slot s _ _ refl
effect_sends s effect.BranchOnLessOrEqual a b c = in_slot s.processor.slot s _ _ refl
effect_sends s effect.BranchOnGreater a b c = in_slot s.processor.slot s _ _ refl
effect_sends s effect.LoadUpper a b c = refl
effect_sends s effect.LoadByte a b c = mapped s _ _ (λ x. refl)
effect_sends s effect.LoadHalf a b c = mapped s _ _ (λ x. refl)
effect_sends s effect.LoadWordLeft a b c = mapped s _ _ (λ x. refl)
effect_sends s effect.LoadWord a b c = loaded s a.number s.around.number _
effect_sends s effect.LoadByteUnsigned a b c = mapped s _ _ (λ x. refl)
effect_sends s effect.LoadHalfUnsigned a b c = mapped s _ _ (λ x. refl)
effect_sends s effect.LoadWordRight a b c = mapped s _ _ (λ x. refl)
effect_sends s effect.StoreByte a b c = mapped s _ _ (λ x. refl)
effect_sends s effect.StoreHalf a b c = mapped s _ _ (λ x. refl)
effect_sends s effect.StoreWordLeft a b c = mapped s _ _ (λ x. refl)
effect_sends s effect.StoreWord a b c = stored s a.value _
effect_sends s effect.StoreWordRight a b c = mapped s _ _ (λ x. refl)
effect_sends s effect.LoadLinked a b c = mapped s _ _ (λ x. refl)
effect_sends s effect.StoreConditional a b c =
    mapped s _ (store_conditional s a.number a.value) (λ place. conditional (is_linked s place) _ _ refl refl)
effect_sends s effect.MoveFromCop0 a b c = refl
effect_sends s effect.MoveToCop0 a b c = refl
effect_sends s effect.ReadTlb a b c = refl
effect_sends s effect.WriteTlbIndexed a b c = refl
effect_sends s effect.WriteTlbRandom a b c = refl
effect_sends s effect.ProbeTlb a b c = refl
effect_sends s effect.RestoreFromException a b c = refl
effect_sends s effect.WaitForInterrupt a b c = refl

three_sends : (s : Scene) (e : Effect) (l : List Argument) → Silent s (with_three (effect_of s e) l)
three_sends s e [] = effect_sends s e _ _ _
three_sends s e (a ∷ []) = effect_sends s e a _ _
three_sends s e (a ∷ b ∷ []) = effect_sends s e a b _
three_sends s e (a ∷ b ∷ c ∷ l) = effect_sends s e a b c

row_sends : (s : Scene) (word : ℕ) (o : Option Row) → Silent s (change_by_row s word o)
row_sends s word None = tt
row_sends s word (Some r) = three_sends s (table r).effect (arguments s.processor (table r).operands (numbers_of word (Some r)))

word_sends : (s : Scene) (w : Result ℕ _) → Silent s (and_then w (change_in s))
word_sends s (Ok word) = row_sends s word (row_that_fits word)
word_sends s (Err f) = tt

interrupt_or_word : (interrupted : Bool) (s : Scene) (trap : _) →
    Silent s (if interrupted then Err trap else and_then (executable_word s.around.memory s.processor) (change_in s))
interrupt_or_word true s trap = tt
interrupt_or_word false s trap = word_sends s (executable_word s.around.memory s.processor)

change_sends : (s : Scene) → Silent s (change_of_step s)
unfolding change_of_step
change_sends s = interrupt_or_word (is_interrupted (lines_in s) s.processor.control) s _

-- nor does the end of a conflict
off_sends : (conflict : Option (ℕ × ℕ)) (board : BoardState) → sent (off_after conflict board) ≡ sent board
off_sends None board = refl
off_sends (Some conflict) board = refl

-- nor does a Step
result_sends : (s : Scene) (r : Result Change _) → Silent s r → sent (step_of_result s r).after.around.board ≡ sent s.around.board
result_sends s (Ok change) h = off_sends (conflict_of s change) (around_after change s.around).board ∙ h
result_sends s (Err f) h = refl

waiting_sends : (pending : Bool) (s : Scene) →
    sent (if pending then running_step (with_processor (with_state Running) s) else idle tick s).after.around.board ≡ sent s.around.board
waiting_sends true s =
    let up = with_processor (with_state Running) s in result_sends up (change_of_step up) (change_sends up)
waiting_sends false s = refl

state_sends : (state : ProcessorState) (s : Scene) → sent (step_by_state state s).after.around.board ≡ sent s.around.board
state_sends Stopped s = refl
state_sends Running s = result_sends s (change_of_step s) (change_sends s)
state_sends Waiting s = waiting_sends (is_pending (lines_in s) s.processor.control) s

step_sends : (p : ℕ) (s : State) → sent (step_result p s).after.around.board ≡ sent s.board
unfolding step_result step_of
step_sends p s =
    let here = scene (processor_at p s.processors) (around p s.memory s.board s.links s.conf.strict) in state_sends here.processor.state here

-- an event sends at most one byte
pub record Sends (s t : State) : Type 0 where
  pub bytes : List ℕ
  pub grown : t.board.console.output ≡ s.board.console.output ++ bytes
  pub at_most_one : length bytes ≤ 1

same_sends : (s t : State) → t.board.console.output ≡ s.board.console.output → Sends s t
same_sends s t h = record {
  bytes = [];
  grown = h ∙ sym (append-nil s.board.console.output);
  at_most_one = omega arith;
}

abbrev Answered : State → Result (Outcome × State) Refusal → Type 0
Answered s (Ok given) = Sends s given.1
Answered s (Err refusal) = Unit {0}

key_sends : (room : Bool) (new : ConsoleState) (s : State) → new.output ≡ s.board.console.output →
    Answered s (answered_key s (with_console (if room then Ok new else Err (record {})) s.board))
key_sends true new s h = same_sends s _ h
key_sends false new s h = tt

done_sends : (latch : Option ℕ) (s : State) → Answered s (answered_done s (with_console (done_from latch s.board.console) s.board))
done_sends None s = tt
done_sends (Some byte) s = record { bytes = byte ∷ []; grown = refl; at_most_one = omega arith }

answer_sends : (s : State) (e : Event) → Answered s (answer s e)
answer_sends s (Step p) = same_sends s _ (step_sends p s)
answer_sends s (Key byte) = key_sends (nat_lt (length s.board.console.waiting) 256) _ s refl
answer_sends s Done = done_sends s.board.console.latch s

unless_sends : (s : State) (r : Option Refusal) (x : Result (Outcome × State) Refusal) → Answered s x → Answered s (unless r x)
unless_sends s None x h = h
unless_sends s (Some r) x h = tt

next_sends : (s : State) (e : Event) → Answered s (next s e)
unfolding next
next_sends s e = unless_sends s (refusal s e) (answer s e) (answer_sends s e)

pub event_sends : (s t : State) (e : Event) (o : Outcome) → next s e ≡ Ok (o, t) → Sends s t
event_sends s t e o h = subst (Answered s) h (next_sends s e)
