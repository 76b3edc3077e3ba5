use Rattle.std.proofs.Common.{◌≡◌, ◌∙◌, refl, ap, sym, subst, ℕ, ◌+◌, ◌/◌, ◌%◌, ◌^◌, arith, Bool, true, false, List, [], ◌∷◌, length, set, Option, None, Some, Result, Ok, Err}
use Rattle.std.specs.Prelude.{◌==◌, IfSome, unwrap_or, if◌then◌else◌}
use Rattle.m161_isa.specs.declared.effect.Effect.{Effect}
use Rattle.m161_isa.specs.declared.table.Row.{Row}
use Rattle.m161_isa.specs.Table.{numbers_of, row_that_fits, table}
use Rattle.m161_tlb.specs.declared.row.Row.{Row as TlbRow}
use Rattle.m161_cop0.specs.Control.{is_interrupted, is_pending}
use Rattle.m161_bus.specs.Board.{BoardState}
use Rattle.m161_cpu.specs.declared.processor.ProcessorState.{ProcessorState}
use Rattle.m161_cpu.specs.declared.processor.ProcessorState.TheVariants.{Running, Stopped, Waiting}
use Rattle.m161_cpu.specs.Processor.{Processor, with_control, with_hi_lo, with_register, with_row, with_state}
use Rattle.m161_cpu.specs.Scene.{Change, Scene, Store, and_then, apply_part, byte_to, half_to, processor_after, with_store, word_to}
use Rattle.m161_cpu.specs.Effect.{Argument, arguments, effect_of, with_three}
use Rattle.m161_cpu.specs.Step.{Stepped, change_by_row, change_in, change_of_step, conflict_of, executable_word, idle, lines_in, off_after, running_step, step_by_conflict, step_by_state, step_of, step_of_result, tick, with_processor, without_row}
use Rattle.m161_alike.specs.Words.{HasSizes}
use Rattle.m161_states.specs.Shape.{HaveBytes}
use Rattle.m161_states.proofs.Boards.{KeepsBoard, unchanged}
use Rattle.m161_states.proofs.Changes.{Fits, FitsOk, IsGoodStore, effect_fits}
use Rattle.m161_states.proofs.Lists.{any_ok, either, if_then, set_byte, set_size}

-- What a Step keeps: the sizes of its processor's lists, those of the board, and bytes.

-- the change of a Step

three_fit : (s : Scene) (e : Effect) (l : List Argument) → FitsOk s.around.board (with_three (effect_of s e) l)
three_fit s e [] = effect_fits s e _ _ _
three_fit s e (a ∷ []) = effect_fits s e a _ _
three_fit s e (a ∷ b ∷ []) = effect_fits s e a b _
three_fit s e (a ∷ b ∷ c ∷ rest) = effect_fits s e a b c

row_fits : (s : Scene) (word : ℕ) (r : Option Row) → FitsOk s.around.board (change_by_row s word r)
row_fits s word (Some r) = three_fit s (table r).effect (arguments s.processor (table r).operands (numbers_of word (Some r)))
row_fits s word None = tt

step_fits : (s : Scene) → FitsOk s.around.board (change_of_step s)
unfolding change_of_step
step_fits s =
    either (FitsOk s.around.board) (is_interrupted (lines_in s) s.processor.control) _ (and_then (executable_word s.around.memory s.processor) (change_in s)) tt
    (if_then (λ word. Unit {0}) (Fits s.around.board) (change_in s) (executable_word s.around.memory s.processor) (any_ok (executable_word s.around.memory s.processor))
    (λ word h. row_fits s word (row_that_fits word)))

-- the sizes of a processor

part_sizes : {A : Type 0} (f : A → Processor → Processor) → ((a : A) (p : Processor) → HasSizes p → HasSizes (f a p)) → (o : Option A) (p : Processor) →
    HasSizes p → HasSizes (apply_part f o p)
part_sizes f keeps None p h = h
part_sizes f keeps (Some a) p h = keeps a p h

register_sizes : (r word : ℕ) (p : Processor) → HasSizes p → HasSizes (with_register r word p)
register_sizes r word p h = (
  either (λ (l : List ℕ). length l ≡ 32) (r == 0) p.registers (set p.registers r word) h.0 (set_size p.registers r word ∙ h.0),
  h.1,
)

row_sizes : (i : ℕ) (row : TlbRow) (p : Processor) → HasSizes p → HasSizes (with_row i row p)
row_sizes i row p h = (h.0, set_size p.rows i row ∙ h.1)

after_sizes : (c : Change) (p : Processor) → HasSizes p → HasSizes (processor_after c p)
after_sizes c p h =
    let a = apply_part (λ (x : ℕ × ℕ). with_register x.0 x.1) c.register p in
    let ha : HasSizes a = part_sizes (λ (x : ℕ × ℕ). with_register x.0 x.1) (λ x q k. register_sizes x.0 x.1 q k) c.register p h in
    let b = apply_part with_hi_lo c.hi_lo a in
    let hb : HasSizes b = part_sizes with_hi_lo (λ _ q k. (k.0, k.1)) c.hi_lo a ha in
    let d = apply_part with_control c.control b in
    let hd : HasSizes d = part_sizes with_control (λ _ q k. (k.0, k.1)) c.control b hb in
    let e = apply_part (λ (x : ℕ × TlbRow). with_row x.0 x.1) c.row d in
    let he : HasSizes e = part_sizes (λ (x : ℕ × TlbRow). with_row x.0 x.1) (λ x q k. row_sizes x.0 x.1 q k) c.row d hd in
    let g : HasSizes (apply_part with_state c.state e) = part_sizes with_state (λ _ q k. (k.0, k.1)) c.state e he in
    (g.0, g.1)

-- memory

abbrev pub KeepsMemory : List ℕ → List ℕ → Type 0
KeepsMemory m n = (length n ≡ length m) × (HaveBytes m → HaveBytes n)

store_keeps : (st : Store) (m : List ℕ) → IsGoodStore st → KeepsMemory m (with_store st m)
store_keeps (byte_to at byte) m good = (set_size m at byte, λ h. set_byte m at byte h (λ _. good))
store_keeps (half_to at half) m good = (
  set_size (set m at (half / 2 ^ 8)) (at + 1) (half % 2 ^ 8) ∙ set_size m at (half / 2 ^ 8),
  λ h. set_byte (set m at (half / 2 ^ 8)) (at + 1) (half % 2 ^ 8) (set_byte m at (half / 2 ^ 8) h (λ _. omega (arith, good))) (λ _. omega arith),
)
store_keeps (word_to at word) m good =
    let a = set m at (word / 2 ^ 24) in
    let b = set a (at + 1) (word / 2 ^ 16 % 2 ^ 8) in
    let c = set b (at + 2) (word / 2 ^ 8 % 2 ^ 8) in (
      set_size c (at + 3) (word % 2 ^ 8) ∙ set_size b (at + 2) (word / 2 ^ 8 % 2 ^ 8) ∙ set_size a (at + 1) (word / 2 ^ 16 % 2 ^ 8) ∙ set_size m at (word / 2 ^ 24),
      λ h. set_byte c (at + 3) (word % 2 ^ 8)
          (set_byte b (at + 2) (word / 2 ^ 8 % 2 ^ 8)
          (set_byte a (at + 1) (word / 2 ^ 16 % 2 ^ 8)
          (set_byte m at (word / 2 ^ 24) h (λ inside. absurd (let bad : ⊥ = omega (arith, inside, good) in bad)))
          (λ _. omega arith)) (λ _. omega arith)) (λ _. omega arith),
    )

stores_keep : (o : Option Store) (m : List ℕ) → IfSome o IsGoodStore → KeepsMemory m (apply_part with_store o m)
stores_keep None m good = (refl, λ h. h)
stores_keep (Some st) m good = store_keeps st m good

-- the board

board_kept : (o : Option BoardState) (b : BoardState) → IfSome o (KeepsBoard b) → KeepsBoard b (unwrap_or o b)
board_kept None b h = unchanged b b refl refl refl
board_kept (Some c) b h = h

off_kept : (conflict : Option (ℕ × ℕ)) (b c : BoardState) → KeepsBoard b c → KeepsBoard b (off_after conflict c)
off_kept None b c h = h
off_kept (Some conflict) b c h = record { ram = h.ram; processors = h.processors; places = h.places; crams = h.crams; others = h.others }

-- a Step

pub record KeepsScene (s : Scene) (x : Stepped) : Type 0 where
  pub sizes : HasSizes s.processor → HasSizes x.after.processor
  pub board : KeepsBoard s.around.board x.after.around.board
  pub memory : KeepsMemory s.around.memory x.after.around.memory

still : (s : Scene) (x : Stepped) → (HasSizes s.processor → HasSizes x.after.processor) → x.after.around.board ≡ s.around.board →
    x.after.around.memory ≡ s.around.memory → KeepsScene s x
still s x sizes board memory = record {
  sizes = sizes;
  board = unchanged s.around.board x.after.around.board (ap (λ (b : BoardState). b.ram) board) (ap (λ (b : BoardState). b.processors) board) (ap (λ (b : BoardState). b.places) board);
  memory = (ap length memory, λ h. subst HaveBytes (sym memory) h);
}

without_sizes : (conflict : Option (ℕ × ℕ)) (c : Change) (p : Processor) → HasSizes p → HasSizes (tick (processor_after (without_row conflict c) p))
without_sizes conflict c p h = let k = after_sizes (without_row conflict c) p h in (k.0, k.1)

conflict_keeps : (conflict : Option (ℕ × ℕ)) (s : Scene) (c : Change) → Fits s.around.board c → KeepsScene s (step_by_conflict conflict s c)
conflict_keeps conflict s c fits = record {
  sizes = λ h. without_sizes conflict c s.processor h;
  board = off_kept conflict s.around.board (unwrap_or c.board s.around.board) (board_kept c.board s.around.board fits.1);
  memory = stores_keep c.store s.around.memory fits.0;
}

result_keeps : (s : Scene) (r : Result Change _) → FitsOk s.around.board r → KeepsScene s (step_of_result s r)
result_keeps s (Ok c) fits = conflict_keeps (conflict_of s c) s c fits
result_keeps s (Err f) fits = still s _ (λ h. (h.0, h.1)) refl refl

awake_keeps : (s : Scene) (x : Stepped) → KeepsScene (with_processor (with_state Running) s) x → KeepsScene s x
awake_keeps s x h = record { sizes = λ k. h.sizes (k.0, k.1); board = h.board; memory = h.memory }

waiting_keeps : (s : Scene) (pending : Bool) → KeepsScene s (if pending then running_step (with_processor (with_state Running) s) else idle tick s)
waiting_keeps s true =
    let t = with_processor (with_state Running) s in
    awake_keeps s (running_step t) (result_keeps t (change_of_step t) (step_fits t))
waiting_keeps s false = still s _ (λ h. (h.0, h.1)) refl refl

state_keeps : (state : ProcessorState) (s : Scene) → KeepsScene s (step_by_state state s)
state_keeps Stopped s = still s _ (λ h. (h.0, h.1)) refl refl
state_keeps Running s = result_keeps s (change_of_step s) (step_fits s)
state_keeps Waiting s = waiting_keeps s (is_pending (lines_in s) s.processor.control)

pub step_keeps : (s : Scene) → KeepsScene s (step_of s)
unfolding step_of
step_keeps s = state_keeps s.processor.state s
