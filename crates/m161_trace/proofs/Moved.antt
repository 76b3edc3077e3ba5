use Rattle.std.proofs.Common.{◌≡◌, ◌≢◌, refl, sym, ap, subst, ℕ, ◌+◌, ◌%◌, Bool, true, false, length, Option, None, Some, Result, Ok, Err}
use Rattle.std.specs.Prelude.{IfOk, nat_le, if◌then◌else◌, unwrap_or}
use Rattle.m161_isa.specs.declared.effect.Effect.{Effect}
use Rattle.m161_isa.specs.declared.effect.Effect.TheVariants as effect
use Rattle.m161_ram.specs.Word.{word_at}
use Rattle.m161_cop0.specs.Control.{is_pending}
use Rattle.m161_bus.specs.declared.board.BusFault.{BusFault}
use Rattle.m161_bus.specs.Board.{BoardState, board_read, board_written}
use Rattle.m161_cpu.specs.declared.processor.ProcessorState.{ProcessorState}
use Rattle.m161_cpu.specs.declared.processor.ProcessorState.TheVariants.{Stopped, Running, Waiting}
use Rattle.m161_cpu.specs.Processor.{with_state}
use Rattle.m161_cpu.specs.Links.{End}
use Rattle.m161_cpu.specs.Scene.{Change, Scene, and_then, result_map}
use Rattle.m161_cpu.specs.Translation.{read_physical_word}
use Rattle.m161_cpu.specs.Effect.{Argument, effect_of, effective_address, is_linked, store_physical_word, store_word, unless_overflow, write, write_read}
use Rattle.m161_cpu.specs.Step.{Stepped, change_of_step, conflict_of, count_step, idle, lines_in, running_step, step_by_conflict, step_by_state, step_of, step_of_result, tick, with_processor}
use Rattle.m161_trace.proofs.Console.{KeepsBytes, keeps_itself, read_keeps, write_keeps}
use Rattle.m161_trace.proofs.Near.{in_instruction}
use Rattle.m161_trace.proofs.Stored.{IsAligned, aligned, halves, reached, reached_word, same_size, word_stays, words}

-- What an instruction, and so a Step, keeps of RAM and of the console's bytes.

record KeepsParts (s : Scene) (c : Change) : Type 0 where
  store : IsAligned c.store
  console : KeepsBytes s.around.board (unwrap_or c.board s.around.board)

-- without the board
stores : (s : Scene) (c : Change) → IsAligned c.store → c.board ≡ None → KeepsParts s c
stores s c al none = record {
  store = al;
  console = subst (λ board. KeepsBytes s.around.board (unwrap_or board s.around.board)) (sym none) (keeps_itself s.around.board);
}

-- of neither
quiet : (s : Scene) (c : Change) → c.store ≡ None → c.board ≡ None → KeepsParts s c
quiet s c no_store no_board = stores s c (subst IsAligned (sym no_store) tt) no_board

in_slot : {E : Type 0} (t : Bool) (s : Scene) (e : E) (c : Change) → c.store ≡ None → c.board ≡ None → IfOk (if t then Err e else Ok c) (KeepsParts s)
in_slot true s e c no_store no_board = tt
in_slot false s e c no_store no_board = quiet s c no_store no_board

of_sum : (s : Scene) (d : ℕ) (o : Option ℕ) → IfOk (result_map (write d) (unless_overflow o)) (KeepsParts s)
of_sum s d None = tt
of_sum s d (Some sum) = quiet s (write d sum) refl refl

mapped : {E : Type 0} (s : Scene) (r : Result ℕ E) (f : ℕ → Change) → ((at : ℕ) → r ≡ Ok at → KeepsParts s (f at)) → IfOk (result_map f r) (KeepsParts s)
mapped s (Ok at) f h = h at refl
mapped s (Err e) f h = tt

read_by : (s : Scene) (d at : ℕ) (t : Bool) (r : Result (ℕ × BoardState) BusFault) → nat_le (at + 4) (length s.around.memory) ≡ t → board_read s.around.number at s.around.board ≡ r
    → IfOk (result_map (write_read d) (read_physical_word s.around.number s.around.memory s.around.board at)) (KeepsParts s)
read_by s d at true r is got = rw is (record { store = tt; console = keeps_itself s.around.board })
read_by s d at false (Err e) is got = rw (is, got) tt
read_by s d at false (Ok x) is got = rw (is, got) (record { store = tt; console = read_keeps s.around.number at s.around.board x.1 x.0 got })

read_at : (s : Scene) (d : ℕ) (r : Result ℕ _) →
    IfOk (result_map (write_read d) (and_then r (read_physical_word s.around.number s.around.memory s.around.board))) (KeepsParts s)
read_at s d (Ok at) = read_by s d at (nat_le (at + 4) (length s.around.memory)) (board_read s.around.number at s.around.board) refl refl
read_at s d (Err e) = tt

write_by : (s : Scene) (word at : ℕ) (t : Bool) (r : Result BoardState BusFault) → nat_le (at + 4) (length s.around.memory) ≡ t → at % 4 ≡ 0
    → board_written s.around.number at word s.around.board ≡ r → IfOk (store_physical_word s word at) (KeepsParts s)
write_by s word at true r is al got = rw is (stores s (store_word word at) al refl)
write_by s word at false (Err e) is al got = rw (is, got) tt
write_by s word at false (Ok b) is al got = rw (is, got) (record { store = tt; console = write_keeps s.around.number at word s.around.board b got })

write_at : (s : Scene) (word : ℕ) (r : Result ℕ _) → ((at : ℕ) → r ≡ Ok at → at % 4 ≡ 0) → IfOk (and_then r (store_physical_word s word)) (KeepsParts s)
write_at s word (Ok at) al =
    write_by s word at (nat_le (at + 4) (length s.around.memory)) (board_written s.around.number at word s.around.board) refl (al at refl) refl
write_at s word (Err e) al = tt

linked_if : (t : Bool) (s : Scene) (r word at : ℕ) → at % 4 ≡ 0 →
    KeepsParts s (if t then record (store_word word at) { register = Some (r, 1); link = End } else record (write r 0) { link = End })
linked_if true s r word at al = stores s _ al refl
linked_if false s r word at al = quiet s _ refl refl

-- each effect

effect_keeps : (s : Scene) (e : Effect) (a b c : Argument) → IfOk (effect_of s e a b c) (KeepsParts s)
effect_keeps s effect.ShiftLeft a b c = quiet s _ refl refl
effect_keeps s effect.ShiftRight a b c = quiet s _ refl refl
effect_keeps s effect.ShiftRightArithmetic a b c = quiet s _ refl refl
effect_keeps s effect.Jump a b c = in_slot s.processor.slot s _ _ refl refl
effect_keeps s effect.JumpAndLinkRegister a b c = in_slot s.processor.slot s _ _ refl refl
effect_keeps s effect.SystemCall a b c = tt
effect_keeps s effect.Breakpoint a b c = tt
effect_keeps s effect.Synchronize a b c = quiet s _ refl refl
effect_keeps s effect.MoveFromHi a b c = quiet s _ refl refl
effect_keeps s effect.MoveToHi a b c = quiet s _ refl refl
effect_keeps s effect.MoveFromLo a b c = quiet s _ refl refl
effect_keeps s effect.MoveToLo a b c = quiet s _ refl refl
effect_keeps s effect.Multiply a b c = quiet s _ refl refl
effect_keeps s effect.MultiplyUnsigned a b c = quiet s _ refl refl
effect_keeps s effect.Divide a b c = quiet s _ refl refl
effect_keeps s effect.DivideUnsigned a b c = quiet s _ refl refl
effect_keeps s effect.Sum a b c = of_sum s a.number _
effect_keeps s effect.SumModulo a b c = quiet s _ refl refl
effect_keeps s effect.Difference a b c = of_sum s a.number _
effect_keeps s effect.DifferenceModulo a b c = quiet s _ refl refl
effect_keeps s effect.And a b c = quiet s _ refl refl
effect_keeps s effect.Or a b c = quiet s _ refl refl
effect_keeps s effect.Xor a b c = quiet s _ refl refl
effect_keeps s effect.Nor a b c = quiet s _ refl refl
effect_keeps s effect.SetOnLess a b c = quiet s _ refl refl
effect_keeps s effect.SetOnLessUnsigned a b c = quiet s _ refl refl
effect_keeps s effect.BranchOnLess a b c = in_slot s.processor.slot s _ _ refl refl
effect_keeps s effect.BranchOnGreaterOrEqual a b c = in_slot s.processor.slot s _ _ refl refl
effect_keeps s effect.BranchOnLessAndLink a b c = in_slot s.processor.slot s _ _ refl refl
effect_keeps s effect.BranchOnGreaterOrEqualAndLink a b c = in_slot s.processor.slot s _ _ refl refl
effect_keeps s effect.JumpAndLink a b c = in_slot s.processor.slot s _ _ refl refl
effect_keeps s effect.BranchOnEqual a b c = in_slot s.processor.slot s _ _ refl refl
effect_keeps s effect.BranchOnNotEqual a b c = in_slot s.processor.slot s _ _ refl refl
effect_keeps s effect.BranchOnLessOrEqual a b c = in_slot s.processor.slot s _ _ refl refl
effect_keeps s effect.BranchOnGreater a b c = in_slot s.processor.slot s _ _ refl refl
effect_keeps s effect.LoadUpper a b c = quiet s _ refl refl
effect_keeps s effect.LoadByte a b c = mapped s _ _ (λ at is. quiet s _ refl refl)
effect_keeps s effect.LoadHalf a b c = mapped s _ _ (λ at is. quiet s _ refl refl)
effect_keeps s effect.LoadWordLeft a b c = mapped s _ _ (λ at is. quiet s _ refl refl)
effect_keeps s effect.LoadWord a b c = read_at s a.number _
effect_keeps s effect.LoadByteUnsigned a b c = mapped s _ _ (λ at is. quiet s _ refl refl)
effect_keeps s effect.LoadHalfUnsigned a b c = mapped s _ _ (λ at is. quiet s _ refl refl)
effect_keeps s effect.LoadWordRight a b c = mapped s _ _ (λ at is. quiet s _ refl refl)
effect_keeps s effect.StoreByte a b c = mapped s _ _ (λ at is. stores s _ tt refl)
effect_keeps s effect.StoreHalf a b c =
    mapped s _ _ (λ at is. stores s _ (reached _ 2 (effective_address b c) (length s.around.memory) s.processor at halves is) refl)
effect_keeps s effect.StoreWordLeft a b c =
    mapped s _ _ (λ at is. stores s _ (reached_word _ (effective_address b c) (length s.around.memory) s.processor at is) refl)
effect_keeps s effect.StoreWord a b c =
    write_at s a.value _ (λ at is. aligned _ 4 (effective_address b c) s.processor at words is)
effect_keeps s effect.StoreWordRight a b c =
    mapped s _ _ (λ at is. stores s _ (reached_word _ (effective_address b c) (length s.around.memory) s.processor at is) refl)
effect_keeps s effect.LoadLinked a b c = mapped s _ _ (λ at is. quiet s _ refl refl)
effect_keeps s effect.StoreConditional a b c =
    mapped s _ _ (λ at is. linked_if (is_linked s at) s a.number a.value at (reached _ 4 (effective_address b c) (length s.around.memory) s.processor at words is))
effect_keeps s effect.MoveFromCop0 a b c = quiet s _ refl refl
effect_keeps s effect.MoveToCop0 a b c = quiet s _ refl refl
effect_keeps s effect.ReadTlb a b c = quiet s _ refl refl
effect_keeps s effect.WriteTlbIndexed a b c = quiet s _ refl refl
effect_keeps s effect.WriteTlbRandom a b c = quiet s _ refl refl
effect_keeps s effect.ProbeTlb a b c = quiet s _ refl refl
effect_keeps s effect.RestoreFromException a b c = quiet s _ refl refl
effect_keeps s effect.WaitForInterrupt a b c = quiet s _ refl refl

-- Steps

pub record Moves (s : Scene) (x : Stepped) : Type 0 where
  pub word : (at : ℕ) → at % 4 ≡ 0 → x.stored ≢ Some at → word_at x.after.around.memory at ≡ word_at s.around.memory at
  pub size : length x.after.around.memory ≡ length s.around.memory
  pub console : KeepsBytes s.around.board x.after.around.board

-- one that changes neither RAM nor the board
still : (s : Scene) (x : Stepped) → x.after.around.memory ≡ s.around.memory → x.after.around.board ≡ s.around.board → Moves s x
still s x memory board = record {
  word = λ at al other. ap (λ m. word_at m at) memory;
  size = ap length memory;
  console = subst (KeepsBytes s.around.board) (sym board) (keeps_itself s.around.board);
}

off_keeps : (s : Scene) (c : Change) (found : Option (ℕ × ℕ)) → KeepsParts s c → KeepsBytes s.around.board (step_by_conflict found s c).after.around.board
off_keeps s c None k = k.console
off_keeps s c (Some rows) k = record { waiting = k.console.waiting; output = k.console.output; latch = k.console.latch }

of_change : (s : Scene) (c : Change) (found : Option (ℕ × ℕ)) → KeepsParts s c → Moves s (step_by_conflict found s c)
of_change s c found k = record {
  word = λ at al other. word_stays s.around.memory c.store at k.store al other;
  size = same_size s.around.memory c.store;
  console = off_keeps s c found k;
}

of_result : (s : Scene) (r : Result Change _) → IfOk r (KeepsParts s) → Moves s (step_of_result s r)
of_result s (Ok c) k = of_change s c (conflict_of s c) k
of_result s (Err e) k = still s (step_of_result s (Err e)) refl refl

of_running : (s : Scene) → Moves s (running_step s)
of_running s = of_result s (change_of_step s) (in_instruction s (λ far. KeepsParts s) (effect_keeps s))

awake : (s : Scene) (x : Stepped) → Moves (with_processor (with_state Running) s) x → Moves s x
awake s x m = record { word = m.word; size = m.size; console = m.console }

of_waiting : (s : Scene) (pending : Bool) → Moves s (if pending then running_step (with_processor (with_state Running) s) else idle tick s)
of_waiting s true = awake s _ (of_running (with_processor (with_state Running) s))
of_waiting s false = still s (idle tick s) refl refl

of_state : (state : ProcessorState) (s : Scene) → Moves s (step_by_state state s)
of_state Stopped s = still s (idle count_step s) refl refl
of_state Running s = of_running s
of_state Waiting s = of_waiting s (is_pending (lines_in s) s.processor.control)

pub moves : (s : Scene) → Moves s (step_of s)
unfolding step_of
moves s = of_state s.processor.state s
