use Rattle.std.proofs.Common.{◌≡◌, refl, ℕ, ◌+◌, ◌-◌, ◌*◌, ◌/◌, ◌%◌, ◌^◌, ◌<◌, arith, Bool, true, false, List, length, Option, None, Some, Result, Ok, Err}
use Rattle.std.specs.Prelude.{◌==◌, ◌&&◌, ◌||◌, not, IfOk, IfSome, nat_le, nat_lt, slice_get, if◌then◌else◌}
use Rattle.std.proofs.lemmas.Bool.Decides.{nat_tests}
use Rattle.m161_isa.specs.Address.{unmapped}
use Rattle.m161_isa.specs.declared.effect.Effect.{Effect}
use Rattle.m161_isa.specs.declared.effect.Effect.TheVariants as effect
use Rattle.m161_tlb.specs.declared.row.Row.{Row}
use Rattle.m161_tlb.specs.Rows.{find_row}
use Rattle.m161_cop0.specs.Control.{identifier_of, is_user}
use Rattle.m161_bus.specs.Board.{BoardState, board_read, board_written}
use Rattle.m161_bus.specs.declared.board.BusFault.{BusFault}
use Rattle.m161_cpu.specs.Processor.{Processor}
use Rattle.m161_cpu.specs.Scene.{Change, Scene, Store as StoreOf, byte_to, half_to, result_map, word_to}
use Rattle.m161_cpu.specs.Translation.{by_row, by_segment, in_ram, is_misaddressed, is_store, physical, physical_at, reach, reach_word_of, read_physical_word, read_word, through_row, translate}
use Rattle.m161_cpu.specs.Effect.{Argument, effect_of, effective_address, is_linked, store_physical_word, store_word_at, write_read}
use Rattle.m161_states.proofs.Boards.{KeepsBoard, read_keeps, unchanged, write_keeps}
use Rattle.m161_states.proofs.Lists.{any_ok, either, either_if, if_mapped, if_then}

-- What the change of an instruction keeps: it stores bytes, or an aligned word, and the board keeps its
-- sizes.

abbrev pub IsGoodStore : StoreOf → Type 0
IsGoodStore (byte_to at byte) = byte < 256
IsGoodStore (half_to at half) = half < 2 ^ 16
IsGoodStore (word_to at word) = at % 4 ≡ 0

abbrev pub Fits : BoardState → Change → Type 0
Fits b c = IfSome c.store IsGoodStore × IfSome c.board (KeepsBoard b)

abbrev pub FitsOk : {F : Type 0} → BoardState → Result Change F → Type 0
FitsOk b r = IfOk r (Fits b)

-- aligned addresses

abbrev IsAligned : ℕ → Type 0
IsAligned at = at % 4 ≡ 0

aligned_by : (address : ℕ) (a b c : Bool) → IsAligned address →
    IfSome (if a then None else if b then Some (address - 0x80000000) else if c then Some (address - 0xa0000000) else None) IsAligned
aligned_by address true b c h = tt
aligned_by address false true c h = omega (arith, h)
aligned_by address false false true h = omega (arith, h)
aligned_by address false false false h = tt

unmapped_aligned : (address : ℕ) → IsAligned address → IfSome (unmapped address) IsAligned
unmapped_aligned address h = aligned_by address (nat_lt address 0x80000000) (nat_lt address 0xa0000000) (nat_lt address 0xc0000000) h

through_aligned : {F : Type 0} (address i : ℕ) (row : Row) (v w : Bool) (e f : F) → IsAligned address →
    IfOk (if v then Err e else if w then Err f else Ok (physical (row.frame * 2 ^ 12 + address % 2 ^ 12) (Some i))) (λ to. IsAligned to.at)
through_aligned address i row true w e f h = tt
through_aligned address i row false true e f h = tt
through_aligned address i row false false e f h = omega (arith, h)

row_aligned : (access : _) (address i : ℕ) (row : Option Row) → IsAligned address → IfOk (through_row access address i row) (λ to. IsAligned to.at)
row_aligned access address i None h = tt
row_aligned access address i (Some row) h = through_aligned address i row (not row.v) (is_store access && not row.d) _ _ h

rows_aligned : (access : _) (address : ℕ) (rows : List Row) (found : Option ℕ) → IsAligned address → IfOk (by_row access address rows found) (λ to. IsAligned to.at)
rows_aligned access address rows None h = tt
rows_aligned access address rows (Some i) h = row_aligned access address i (slice_get rows i) h

segment_aligned : (access : _) (address : ℕ) (p : Processor) (at : Option ℕ) → IsAligned address → IfSome at IsAligned → IfOk (by_segment access address p at) (λ to. IsAligned to.at)
segment_aligned access address p (Some at) h one = one
segment_aligned access address p None h one = rows_aligned access address p.rows (find_row p.rows (address / 2 ^ 12) (identifier_of p.control)) h

test_aligned : (address : ℕ) (test other : Bool) → (address % 4 == 0) ≡ test → (not test || other) ≡ false → IsAligned address
test_aligned address true other h e = grind (arith, nat_tests, h)
test_aligned address false other h e = absurd (let bad : true ≡ false = e in cc)

misaddressed_not : (address : ℕ) (p : Processor) → is_misaddressed 4 address p ≡ false → IsAligned address
unfolding is_misaddressed
misaddressed_not address p h = test_aligned address (address % 4 == 0) (is_user p.control && nat_le 0x80000000 address) refl h

translate_aligned : (access : _) (address : ℕ) (p : Processor) → IfOk (translate access 4 address p) (λ to. IsAligned to.at)
translate_aligned access address p =
    either_if (λ r. IfOk r (λ to. IsAligned to.at)) (is_misaddressed 4 address p) _ (by_segment access address p (unmapped address)) (λ h. tt)
    (λ h. let aligned = misaddressed_not address p h in segment_aligned access address p (unmapped address) aligned (unmapped_aligned address aligned))

physical_aligned : (access : _) (address : ℕ) (p : Processor) → IfOk (physical_at access 4 address p) IsAligned
unfolding physical_at
physical_aligned access address p =
    if_mapped _ IsAligned _ (translate access 4 address p) (translate_aligned access address p) (λ to h. h)

in_ram_aligned : (access : _) (width size at : ℕ) → IsAligned at → IfOk (in_ram access width size at) IsAligned
in_ram_aligned access width size at h = either (λ r. IfOk r IsAligned) (nat_le (at + width) size) (Ok at) _ h tt

reach_aligned : (access : _) (address size : ℕ) (p : Processor) → IfOk (reach access 4 address size p) IsAligned
reach_aligned access address size p =
    if_then IsAligned IsAligned (in_ram access 4 size) (physical_at access 4 address p) (physical_aligned access address p) (λ at h. in_ram_aligned access 4 size at h)

word_aligned : (access : _) (address size : ℕ) (p : Processor) → IfOk (reach_word_of access address size p) IsAligned
word_aligned access address size p =
    if_then (λ at. Unit {0}) IsAligned (λ at. in_ram access 4 size (at / 4 * 4)) (physical_at access 1 address p) (any_ok (physical_at access 1 address p))
    (λ at h. in_ram_aligned access 4 size (at / 4 * 4) (omega arith))

-- `lw` and `sw` reach the slots

stored_by : (s : Scene) (word at : ℕ) (test : Bool) (r : Result BoardState BusFault) → nat_le (at + 4) (length s.around.memory) ≡ test →
    board_written s.around.number at word s.around.board ≡ r → IsAligned at → IfOk r (KeepsBoard s.around.board) → FitsOk s.around.board (store_physical_word s word at)
stored_by s word at true r h e aligned keeps = rw h (aligned, tt)
stored_by s word at false (Ok b) h e aligned keeps = rw (h, e) (tt, keeps)
stored_by s word at false (Err f) h e aligned keeps = rw (h, e) tt

word_stored : (s : Scene) (word at : ℕ) → IsAligned at → FitsOk s.around.board (store_physical_word s word at)
word_stored s word at h =
    stored_by s word at (nat_le (at + 4) (length s.around.memory)) (board_written s.around.number at word s.around.board) refl refl h
    (write_keeps s.around.number at word s.around.board)

word_fits : (s : Scene) (address word : ℕ) → FitsOk s.around.board (store_word_at address word s)
word_fits s address word =
    if_then IsAligned (Fits s.around.board) (store_physical_word s word) (physical_at _ 4 address s.processor) (physical_aligned _ address s.processor)
    (λ at h. word_stored s word at h)

abbrev ReadKeeps : BoardState → ℕ × BoardState → Type 0
ReadKeeps b read = KeepsBoard b read.1

read_by : (c : ℕ) (memory : List ℕ) (b : BoardState) (at : ℕ) (test : Bool) (r : Result (ℕ × BoardState) BusFault) → nat_le (at + 4) (length memory) ≡ test →
    board_read c at b ≡ r → IfOk r (ReadKeeps b) → IfOk (read_physical_word c memory b at) (ReadKeeps b)
read_by c memory b at true r h e keeps = rw h (unchanged b b refl refl refl)
read_by c memory b at false (Ok read) h e keeps = rw (h, e) keeps
read_by c memory b at false (Err f) h e keeps = rw (h, e) tt

word_read : (c : ℕ) (memory : List ℕ) (b : BoardState) (at : ℕ) → IfOk (read_physical_word c memory b at) (ReadKeeps b)
word_read c memory b at = read_by c memory b at (nat_le (at + 4) (length memory)) (board_read c at b) refl refl (read_keeps c at b)

read_fits : (s : Scene) (d address : ℕ) → FitsOk s.around.board (result_map (write_read d) (read_word address s.processor s.around.number s.around.memory s.around.board))
read_fits s d address =
    if_mapped (ReadKeeps s.around.board) (Fits s.around.board) (write_read d) (read_word address s.processor s.around.number s.around.memory s.around.board)
    (if_then (λ at. Unit {0}) (ReadKeeps s.around.board) (read_physical_word s.around.number s.around.memory s.around.board) (physical_at _ 4 address s.processor)
    (any_ok (physical_at _ 4 address s.processor)) (λ at h. word_read s.around.number s.around.memory s.around.board at))
    (λ read keeps. (tt, keeps))

-- effects

fits_any : {X F : Type 0} (b : BoardState) (f : X → Change) (r : Result X F) → ((x : X) → Fits b (f x)) → FitsOk b (result_map f r)
fits_any b f r h = if_mapped (λ x. Unit {0}) (Fits b) f r (any_ok r) (λ x _. h x)

fits_aligned : {F : Type 0} (b : BoardState) (f : ℕ → Change) (r : Result ℕ F) → IfOk r IsAligned → ((at : ℕ) → IsAligned at → Fits b (f at)) → FitsOk b (result_map f r)
fits_aligned b f r aligned h = if_mapped IsAligned (Fits b) f r aligned h

in_slot : {F : Type 0} (b : BoardState) (slot : Bool) (c : Change) (f : F) → Fits b c → FitsOk b (if slot then Err f else Ok c)
in_slot b slot c f h = either (FitsOk b) slot (Err f) (Ok c) tt h

pub effect_fits : (s : Scene) (e : Effect) (a b c : Argument) → FitsOk s.around.board (effect_of s e a b c)
effect_fits s effect.ShiftLeft a b c = (tt, tt)
effect_fits s effect.ShiftRight a b c = (tt, tt)
effect_fits s effect.ShiftRightArithmetic a b c = (tt, tt)
effect_fits s effect.Jump a b c = in_slot s.around.board s.processor.slot _ _ (tt, tt)
effect_fits s effect.JumpAndLinkRegister a b c = in_slot s.around.board s.processor.slot _ _ (tt, tt)
effect_fits s effect.SystemCall a b c = tt
effect_fits s effect.Breakpoint a b c = tt
effect_fits s effect.Synchronize a b c = (tt, tt)
effect_fits s effect.MoveFromHi a b c = (tt, tt)
effect_fits s effect.MoveToHi a b c = (tt, tt)
effect_fits s effect.MoveFromLo a b c = (tt, tt)
effect_fits s effect.MoveToLo a b c = (tt, tt)
effect_fits s effect.Multiply a b c = (tt, tt)
effect_fits s effect.MultiplyUnsigned a b c = (tt, tt)
effect_fits s effect.Divide a b c = (tt, tt)
effect_fits s effect.DivideUnsigned a b c = (tt, tt)
effect_fits s effect.Sum a b c = fits_any s.around.board _ _ (λ x. (tt, tt))
effect_fits s effect.SumModulo a b c = (tt, tt)
effect_fits s effect.Difference a b c = fits_any s.around.board _ _ (λ x. (tt, tt))
effect_fits s effect.DifferenceModulo a b c = (tt, tt)
effect_fits s effect.And a b c = (tt, tt)
effect_fits s effect.Or a b c = (tt, tt)
effect_fits s effect.Xor a b c = (tt, tt)
effect_fits s effect.Nor a b c = (tt, tt)
effect_fits s effect.SetOnLess a b c = (tt, tt)
effect_fits s effect.SetOnLessUnsigned a b c = (tt, tt)
effect_fits s effect.BranchOnLess a b c = in_slot s.around.board s.processor.slot _ _ (tt, tt)
effect_fits s effect.BranchOnGreaterOrEqual a b c = in_slot s.around.board s.processor.slot _ _ (tt, tt)
effect_fits s effect.BranchOnLessAndLink a b c = in_slot s.around.board s.processor.slot _ _ (tt, tt)
effect_fits s effect.BranchOnGreaterOrEqualAndLink a b c = in_slot s.around.board s.processor.slot _ _ (tt, tt)
effect_fits s effect.JumpAndLink a b c = in_slot s.around.board s.processor.slot _ _ (tt, tt)
effect_fits s effect.BranchOnEqual a b c = in_slot s.around.board s.processor.slot _ _ (tt, tt)
effect_fits s effect.BranchOnNotEqual a b c = in_slot s.around.board s.processor.slot _ _ (tt, tt)
effect_fits s effect.BranchOnLessOrEqual a b c = in_slot s.around.board s.processor.slot _ _ (tt, tt)
effect_fits s effect.BranchOnGreater a b c = in_slot s.around.board s.processor.slot _ _ (tt, tt)
effect_fits s effect.LoadUpper a b c = (tt, tt)
effect_fits s effect.LoadByte a b c = fits_any s.around.board _ _ (λ x. (tt, tt))
effect_fits s effect.LoadHalf a b c = fits_any s.around.board _ _ (λ x. (tt, tt))
effect_fits s effect.LoadWordLeft a b c = fits_any s.around.board _ _ (λ x. (tt, tt))
effect_fits s effect.LoadWord a b c = read_fits s a.number (effective_address b c)
effect_fits s effect.LoadByteUnsigned a b c = fits_any s.around.board _ _ (λ x. (tt, tt))
effect_fits s effect.LoadHalfUnsigned a b c = fits_any s.around.board _ _ (λ x. (tt, tt))
effect_fits s effect.LoadWordRight a b c = fits_any s.around.board _ _ (λ x. (tt, tt))
effect_fits s effect.StoreByte a b c = fits_any s.around.board _ _ (λ at. (omega arith, tt))
effect_fits s effect.StoreHalf a b c = fits_any s.around.board _ _ (λ at. (omega arith, tt))
effect_fits s effect.StoreWordLeft a b c = fits_aligned s.around.board _ _ (word_aligned _ (effective_address b c) (length s.around.memory) s.processor) (λ at h. (h, tt))
effect_fits s effect.StoreWord a b c = word_fits s (effective_address b c) a.value
effect_fits s effect.StoreWordRight a b c = fits_aligned s.around.board _ _ (word_aligned _ (effective_address b c) (length s.around.memory) s.processor) (λ at h. (h, tt))
effect_fits s effect.LoadLinked a b c = fits_any s.around.board _ _ (λ x. (tt, tt))
effect_fits s effect.StoreConditional a b c = fits_aligned s.around.board _ _ (reach_aligned _ (effective_address b c) (length s.around.memory) s.processor) (λ at h. either (Fits s.around.board) (is_linked s at) _ _ (h, tt) (tt, tt))
effect_fits s effect.MoveFromCop0 a b c = (tt, tt)
effect_fits s effect.MoveToCop0 a b c = (tt, tt)
effect_fits s effect.ReadTlb a b c = (tt, tt)
effect_fits s effect.WriteTlbIndexed a b c = (tt, tt)
effect_fits s effect.WriteTlbRandom a b c = (tt, tt)
effect_fits s effect.ProbeTlb a b c = (tt, tt)
effect_fits s effect.RestoreFromException a b c = (tt, tt)
effect_fits s effect.WaitForInterrupt a b c = (tt, tt)
