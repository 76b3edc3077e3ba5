use Rattle.std.proofs.Common.{◌≡◌, ◌∙◌, refl, ap, ℕ, ◌+◌, ◌-◌, ◌/◌, ◌%◌, Bool, true, false, List, [], ◌∷◌, length, None, Some, Result, Ok, Err}
use Rattle.std.specs.Prelude.{◌==◌, nat_le, nat_lt, option_map, if◌then◌else◌}
use Rattle.std.specs.List.{AllByRecursion}
use Rattle.m161_isa.specs.declared.effect.Effect.{Effect}
use Rattle.m161_isa.specs.declared.effect.Effect.TheVariants as effect
use Rattle.m161_bus.specs.declared.board.BusFault.{BusFault}
use Rattle.m161_bus.specs.Registers.{RegisterLine, at, configuration_register, console_configuration, console_table, controller_configuration, controller_part, controller_register, in_table, is_word_of_slots, place_register, place_table, register_in, register_of}
use Rattle.m161_bus.specs.Board.{BoardState, after_read, board_read, board_written, interrupt_lines, read_from, slot_word, slot_written, with_slot_word}
use Rattle.m161_cpu.specs.Scene.{Scene, Change, and_then, result_map, scene}
use Rattle.m161_cpu.specs.Translation.{read_physical_word, read_word}
use Rattle.m161_cpu.specs.Effect.{Argument, effect_of, effective_address, is_linked, store_physical_word, store_word_at, write_read}
use Rattle.m161_alike.specs.View.{with_output}

-- What the console has sent is read by nothing: an effect does the same whatever it was, and leaves it
-- as it is.

-- the registers of the slots

either : {A : Type 0} (P : A → Type 0) (test : Bool) (x y : A) → P x → P y → P (if test then x else y)
either P true x y one other = one
either P false x y one other = other

-- a scene whose console has sent these bytes
abbrev pub heard : List ℕ → Scene → Scene
heard sent s = scene s.processor (record s.around { board = with_output sent s.around.board })

abbrev pub heard_change : List ℕ → Change → Change
heard_change sent change = record change { board = option_map (with_output sent) change.board }

-- a register of the slots, whatever the console has sent
abbrev IsDeaf : RegisterLine → Type 0
IsDeaf l =
    (c value : ℕ) (sent : List ℕ) (b : BoardState)
    → (slot_word c l.register (with_output sent b) ≡ slot_word c l.register b)
    × (after_read l.register (with_output sent b) ≡ with_output sent (after_read l.register b))
    × (with_slot_word l.register value (with_output sent b) ≡ with_output sent (with_slot_word l.register value b))

deaf_in_table : (offset : ℕ) (ls : List RegisterLine) → AllByRecursion IsDeaf ls → IsDeaf (at 0 (in_table offset ls))
deaf_in_table offset [] h = λ c value sent b. (refl, refl, refl)
deaf_in_table offset (l ∷ ls) h =
    either (λ r. IsDeaf (at 0 r)) (offset == l.offset) l.register (in_table offset ls) h.0 (deaf_in_table offset ls h.1)

deaf_console : (offset : ℕ) → IsDeaf (at 0 (in_table offset console_table))
deaf_console offset = deaf_in_table offset console_table
    (λ c value sent b. (refl, refl, refl), (λ c value sent b. (refl, refl, refl), (λ c value sent b. (refl, refl, refl), tt)))

deaf_console_configuration : (offset : ℕ) → IsDeaf (at 0 (in_table offset console_configuration))
deaf_console_configuration offset = deaf_in_table offset console_configuration
    (λ c value sent b. (refl, refl, refl), (λ c value sent b. (refl, refl, refl), (λ c value sent b. (refl, refl, refl), tt)))

deaf_controller_configuration : (offset : ℕ) → IsDeaf (at 0 (in_table offset controller_configuration))
deaf_controller_configuration offset = deaf_in_table offset controller_configuration
    (λ c value sent b. (refl, refl, refl), (λ c value sent b. (refl, refl, refl), (λ c value sent b. (refl, refl, refl), (λ c value sent b. (refl, refl, refl), (λ c value sent b. (refl, refl, refl), (λ c value sent b. (refl, refl, refl), (λ c value sent b. (refl, refl, refl), (λ c value sent b. (refl, refl, refl), (λ c value sent b. (refl, refl, refl), (λ c value sent b. (refl, refl, refl), tt))))))))))

deaf_place : (p offset : ℕ) → IsDeaf (at 0 (place_register p offset))
deaf_place p offset =
    either (λ r. IsDeaf (at 0 r)) (nat_le 0x300 offset) _ (in_table offset (place_table p))
    (λ c value sent b. (refl, refl, refl))
    (deaf_in_table offset (place_table p)
    (λ c value sent b. (refl, refl, refl), (λ c value sent b. (refl, refl, refl), tt)))

deaf_configuration : (slot offset : ℕ) → IsDeaf (at 0 (configuration_register slot offset))
deaf_configuration slot offset =
    either (λ r. IsDeaf (at 0 r)) (slot == 0) (in_table offset console_configuration) _
    (deaf_console_configuration offset)
    (either (λ r. IsDeaf (at 0 r)) (slot == 31) (in_table offset controller_configuration) _
    (deaf_controller_configuration offset) (λ c value sent b. (refl, refl, refl)))

deaf_part : (processors part offset : ℕ) → IsDeaf (at 0 (controller_part processors part offset))
deaf_part processors part offset =
    either (λ r. IsDeaf (at 0 r)) (nat_lt part 32) (configuration_register part offset) _
    (deaf_configuration part offset)
    (either (λ r. IsDeaf (at 0 r)) (nat_lt (part - 32) processors) (place_register (part - 32) offset) _
    (deaf_place (part - 32) offset) (λ c value sent b. (refl, refl, refl)))

deaf_in_slots : (processors slot offset : ℕ) → IsDeaf (at 0 (register_in processors slot offset))
deaf_in_slots processors slot offset =
    either (λ r. IsDeaf (at 0 r)) (slot == 0) (in_table offset console_table) _ (deaf_console offset)
    (either (λ r. IsDeaf (at 0 r)) (slot == 31) (controller_register processors offset) _
    (deaf_part processors (offset / 0x400) (offset % 0x400)) (λ c value sent b. (refl, refl, refl)))

-- a read of the slots, and a write

abbrev heard_read : List ℕ → ℕ × BoardState → ℕ × BoardState
heard_read sent read = (read.0, with_output sent read.1)

read_in : (test : Bool) (c processors slot offset : ℕ) (sent : List ℕ) (b : BoardState) →
    read_from c (if test then Some (register_in processors slot offset) else None) (with_output sent b)
    ≡ result_map (heard_read sent) (read_from c (if test then Some (register_in processors slot offset) else None) b)
read_in true c processors slot offset sent b =
    let deaf = deaf_in_slots processors slot offset c 0 sent b in
    λ i. Ok (deaf.0 i, deaf.1 i)
read_in false c processors slot offset sent b = refl

pub board_reads : (c address : ℕ) (sent : List ℕ) (b : BoardState) →
    board_read c address (with_output sent b) ≡ result_map (heard_read sent) (board_read c address b)
unfolding board_read register_of
board_reads c address sent b =
    read_in (is_word_of_slots address) c b.processors ((address - 0x1fe00000) / 0x10000) ((address - 0x1fe00000) % 0x10000) sent b

write_in : (test : Bool) (processors slot offset value : ℕ) (sent : List ℕ) (b : BoardState) →
    slot_written (if test then Some (register_in processors slot offset) else None) value (with_output sent b)
    ≡ result_map (with_output sent) (slot_written (if test then Some (register_in processors slot offset) else None) value b)
write_in true processors slot offset value sent b =
    let deaf = deaf_in_slots processors slot offset 0 value sent b in
    λ i. Ok (deaf.2 i)
write_in false processors slot offset value sent b = refl

pub board_writes : (c address value : ℕ) (sent : List ℕ) (b : BoardState) →
    board_written c address value (with_output sent b) ≡ result_map (with_output sent) (board_written c address value b)
unfolding board_written register_of
board_writes c address value sent b =
    write_in (is_word_of_slots address) b.processors ((address - 0x1fe00000) / 0x10000) ((address - 0x1fe00000) % 0x10000) value sent b

-- effects

-- a change that leaves the board alone
unheard : {E : Type 0} (sent : List ℕ) (f : ℕ → Change) (r : Result ℕ E) → ((at : ℕ) → f at ≡ heard_change sent (f at)) →
    result_map f r ≡ result_map (heard_change sent) (result_map f r)
unheard sent f (Ok at) none = λ i. Ok (none at i)
unheard sent f (Err e) none = refl

in_slot : {F : Type 0} (sent : List ℕ) (slot : Bool) (change : Change) (f : F) → change ≡ heard_change sent change →
    (if slot then Err f else Ok change) ≡ result_map (heard_change sent) (if slot then Err f else Ok change)
in_slot sent true change f none = refl
in_slot sent false change f none = λ i. Ok (none i)

linked_heard : (sent : List ℕ) (linked : Bool) (x y : Change) → x ≡ heard_change sent x → y ≡ heard_change sent y →
    (if linked then x else y) ≡ heard_change sent (if linked then x else y)
linked_heard sent true x y one other = one
linked_heard sent false x y one other = other

-- `lw` and `sw` reach the slots

read_by : (sent : List ℕ) (c : ℕ) (memory : List ℕ) (b : BoardState) (at : ℕ) (test : Bool) (r : Result (ℕ × BoardState) BusFault) →
    nat_le (at + 4) (length memory) ≡ test → board_read c at b ≡ r →
    read_physical_word c memory (with_output sent b) at ≡ result_map (heard_read sent) (read_physical_word c memory b at)
read_by sent c memory b at true r h e = rw h refl
read_by sent c memory b at false (Ok read) h e = rw (h, board_reads c at sent b, e) refl
read_by sent c memory b at false (Err f) h e = rw (h, board_reads c at sent b, e) refl

read_heard : (sent : List ℕ) (c : ℕ) (memory : List ℕ) (b : BoardState) (at : _) →
    and_then at (read_physical_word c memory (with_output sent b)) ≡ result_map (heard_read sent) (and_then at (read_physical_word c memory b))
read_heard sent c memory b (Ok at) = read_by sent c memory b at (nat_le (at + 4) (length memory)) (board_read c at b) refl refl
read_heard sent c memory b (Err f) = refl

put_read : {F : Type 0} (sent : List ℕ) (d : ℕ) (r : Result (ℕ × BoardState) F) →
    result_map (write_read d) (result_map (heard_read sent) r) ≡ result_map (heard_change sent) (result_map (write_read d) r)
put_read sent d (Ok read) = refl
put_read sent d (Err f) = refl

load_heard : (sent : List ℕ) (s : Scene) (d address : ℕ) →
    result_map (write_read d) (read_word address s.processor s.around.number s.around.memory (with_output sent s.around.board))
    ≡ result_map (heard_change sent) (result_map (write_read d) (read_word address s.processor s.around.number s.around.memory s.around.board))
load_heard sent s d address =
    ap (result_map (write_read d)) (read_heard sent s.around.number s.around.memory s.around.board _)
    ∙ put_read sent d (read_word address s.processor s.around.number s.around.memory s.around.board)

store_by : (sent : List ℕ) (s : Scene) (word at : ℕ) (test : Bool) (r : Result BoardState BusFault) →
    nat_le (at + 4) (length s.around.memory) ≡ test → board_written s.around.number at word s.around.board ≡ r →
    store_physical_word (heard sent s) word at ≡ result_map (heard_change sent) (store_physical_word s word at)
store_by sent s word at true r h e = rw h refl
store_by sent s word at false (Ok b) h e = rw (h, board_writes s.around.number at word sent s.around.board, e) refl
store_by sent s word at false (Err f) h e = rw (h, board_writes s.around.number at word sent s.around.board, e) refl

store_then : (sent : List ℕ) (s : Scene) (word : ℕ) (at : _) →
    and_then at (store_physical_word (heard sent s) word) ≡ result_map (heard_change sent) (and_then at (store_physical_word s word))
store_then sent s word (Ok at) =
    store_by sent s word at (nat_le (at + 4) (length s.around.memory)) (board_written s.around.number at word s.around.board) refl refl
store_then sent s word (Err f) = refl

store_heard : (sent : List ℕ) (s : Scene) (word address : ℕ) →
    store_word_at address word (heard sent s) ≡ result_map (heard_change sent) (store_word_at address word s)
store_heard sent s word address = store_then sent s word _

pub effect_heard : (sent : List ℕ) (s : Scene) (e : Effect) (a b c : Argument) →
    effect_of (heard sent s) e a b c ≡ result_map (heard_change sent) (effect_of s e a b c)
unfolding interrupt_lines
effect_heard sent s effect.ShiftLeft a b c = refl
effect_heard sent s effect.ShiftRight a b c = refl
effect_heard sent s effect.ShiftRightArithmetic a b c = refl
effect_heard sent s effect.Jump a b c = in_slot sent s.processor.slot _ _ refl
effect_heard sent s effect.JumpAndLinkRegister a b c = in_slot sent s.processor.slot _ _ refl
effect_heard sent s effect.SystemCall a b c = refl
effect_heard sent s effect.Breakpoint a b c = refl
effect_heard sent s effect.Synchronize a b c = refl
effect_heard sent s effect.MoveFromHi a b c = refl
effect_heard sent s effect.MoveToHi a b c = refl
effect_heard sent s effect.MoveFromLo a b c = refl
effect_heard sent s effect.MoveToLo a b c = refl
effect_heard sent s effect.Multiply a b c = refl
effect_heard sent s effect.MultiplyUnsigned a b c = refl
effect_heard sent s effect.Divide a b c = refl
effect_heard sent s effect.DivideUnsigned a b c = refl
effect_heard sent s effect.Sum a b c = unheard sent _ _ (λ x. refl)
effect_heard sent s effect.SumModulo a b c = refl
effect_heard sent s effect.Difference a b c = unheard sent _ _ (λ x. refl)
effect_heard sent s effect.DifferenceModulo a b c = refl
effect_heard sent s effect.And a b c = refl
effect_heard sent s effect.Or a b c = refl
effect_heard sent s effect.Xor a b c = refl
effect_heard sent s effect.Nor a b c = refl
effect_heard sent s effect.SetOnLess a b c = refl
effect_heard sent s effect.SetOnLessUnsigned a b c = refl
effect_heard sent s effect.BranchOnLess a b c = in_slot sent s.processor.slot _ _ refl
effect_heard sent s effect.BranchOnGreaterOrEqual a b c = in_slot sent s.processor.slot _ _ refl
effect_heard sent s effect.BranchOnLessAndLink a b c = in_slot sent s.processor.slot _ _ refl
effect_heard sent s effect.BranchOnGreaterOrEqualAndLink a b c = in_slot sent s.processor.slot _ _ refl
effect_heard sent s effect.JumpAndLink a b c = in_slot sent s.processor.slot _ _ refl
effect_heard sent s effect.BranchOnEqual a b c = in_slot sent s.processor.slot _ _ refl
effect_heard sent s effect.BranchOnNotEqual a b c = in_slot sent s.processor.slot _ _ refl
effect_heard sent s effect.BranchOnLessOrEqual a b c = in_slot sent s.processor.slot _ _ refl
effect_heard sent s effect.BranchOnGreater a b c = in_slot sent s.processor.slot _ _ refl
effect_heard sent s effect.LoadUpper a b c = refl
effect_heard sent s effect.LoadByte a b c = unheard sent _ _ (λ at. refl)
effect_heard sent s effect.LoadHalf a b c = unheard sent _ _ (λ at. refl)
effect_heard sent s effect.LoadWordLeft a b c = unheard sent _ _ (λ at. refl)
effect_heard sent s effect.LoadWord a b c = load_heard sent s a.number (effective_address b c)
effect_heard sent s effect.LoadByteUnsigned a b c = unheard sent _ _ (λ at. refl)
effect_heard sent s effect.LoadHalfUnsigned a b c = unheard sent _ _ (λ at. refl)
effect_heard sent s effect.LoadWordRight a b c = unheard sent _ _ (λ at. refl)
effect_heard sent s effect.StoreByte a b c = unheard sent _ _ (λ at. refl)
effect_heard sent s effect.StoreHalf a b c = unheard sent _ _ (λ at. refl)
effect_heard sent s effect.StoreWordLeft a b c = unheard sent _ _ (λ at. refl)
effect_heard sent s effect.StoreWord a b c = store_heard sent s a.value (effective_address b c)
effect_heard sent s effect.StoreWordRight a b c = unheard sent _ _ (λ at. refl)
effect_heard sent s effect.LoadLinked a b c = unheard sent _ _ (λ at. refl)
effect_heard sent s effect.StoreConditional a b c = unheard sent _ _ (λ at. linked_heard sent (is_linked s at) _ _ refl refl)
effect_heard sent s effect.MoveFromCop0 a b c = refl
effect_heard sent s effect.MoveToCop0 a b c = refl
effect_heard sent s effect.ReadTlb a b c = refl
effect_heard sent s effect.WriteTlbIndexed a b c = refl
effect_heard sent s effect.WriteTlbRandom a b c = refl
effect_heard sent s effect.ProbeTlb a b c = refl
effect_heard sent s effect.RestoreFromException a b c = refl
effect_heard sent s effect.WaitForInterrupt a b c = refl
