use Rattle.std.proofs.Common.{◌≡◌, refl, ℕ, ◌+◌, ◌*◌, ◌/◌, ◌%◌, ◌^◌, Bool, true, false, arith, List, [], ◌∷◌, length, Option, None, Some, Result, Ok, Err, slice_get}
use Rattle.std.specs.Prelude.{if◌then◌else◌, nat_le, nat_lt, not, ◌==◌, ◌&&◌, unwrap_or}
use Rattle.std.proofs.lemmas.Bool.Decides.{nat_tests}
use Rattle.m161_isa.specs.Address.{unmapped}
use Rattle.m161_isa.specs.declared.effect.Effect.{Effect}
use Rattle.m161_isa.specs.declared.effect.Effect.TheVariants as effect
use Rattle.m161_isa.specs.declared.instr.Coprocessor.{Coprocessor}
use Rattle.m161_isa.specs.declared.instr.Coprocessor.TheVariants as coprocessor
use Rattle.m161_isa.specs.declared.table.Row.{Row as TableRow}
use Rattle.m161_isa.specs.Table.{absent_in, numbers_of, row_that_fits, table}
use Rattle.m161_tlb.specs.declared.row.Row.{Row}
use Rattle.m161_tlb.specs.Rows.{find_row}
use Rattle.m161_cop0.specs.Control.{identifier_of}
use Rattle.m161_cop0.specs.declared.exception.Exception.{Exception}
use Rattle.m161_cop0.specs.Registers.{number_of_exception}
use Rattle.m161_cpu.specs.Effect.{Argument, arguments, effect_of, effective_address, outside_slot, unless_overflow, with_three}
use Rattle.m161_cpu.specs.Fault.{exception_of}
use Rattle.m161_cpu.specs.Processor.{Processor}
use Rattle.m161_cpu.specs.Scene.{Change, Scene, and_then, result_map}
use Rattle.m161_cpu.specs.Step.{change_by_row, change_in, misfit_kind}
use Rattle.m161_cpu.specs.Translation.{address_error, bus_error, by_row, by_segment, in_ram, invalid, is_misaddressed, is_store, miss, or_bus_error, physical_at, reach, reach_word_of, through, through_row, translate}
use Rattle.m161_cpu.specs.Uses.{Reference, reference_by_row, reference_in, reference_of}
use Rattle.m161_cpu.specs.UsesLaw.{address_of}
use Rattle.m161_trace.proofs.Stored.{aligned, halves, words}

-- The traps of effects, and loads from RAM, which make none.

-- an exception is no interrupt
abbrev pub IsTrap : Exception → Type 0
IsTrap code = (number_of_exception code == 0) ≡ false

-- a fault makes such an exception
abbrev pub Traps : {A F : Type 0} → Result A F → (F → Exception) → Type 0
Traps (Ok x) code = Unit {0}
Traps (Err f) code = IsTrap (code f)

pub mapped_traps : {A B F : Type 0} (code : F → Exception) (f : A → B) (r : Result A F) → Traps r code → Traps (result_map f r) code
mapped_traps code f (Ok x) h = tt
mapped_traps code f (Err e) h = h

pub then_traps : {A B F : Type 0} (code : F → Exception) (r : Result A F) (f : A → Result B F) → Traps r code → ((x : A) → Traps (f x) code) → Traps (and_then r f) code
then_traps code (Ok x) f h each = each x
then_traps code (Err e) f h each = h

if_traps : {A F : Type 0} (code : F → Exception) (t : Bool) (x y : Result A F) → Traps x code → Traps y code → Traps (if t then x else y) code
if_traps code true x y h k = h
if_traps code false x y h k = k

either : {K : Type 0} (code : K → Exception) (t : Bool) (x y : K) → IsTrap (code x) → IsTrap (code y) → IsTrap (code (if t then x else y))
either code true x y h k = h
either code false x y h k = k

-- of addresses

address_traps : (access : _) (address : ℕ) → IsTrap (exception_of (address_error access address).kind)
address_traps access address = either exception_of (is_store access) _ _ refl refl

invalid_traps : (access : _) (address : ℕ) → IsTrap (exception_of (invalid access address).kind)
invalid_traps access address = either exception_of (is_store access) _ _ refl refl

miss_traps : (access : _) (address : ℕ) → IsTrap (exception_of (miss access address).kind)
miss_traps access address =
    either (λ f. exception_of f.kind) (nat_lt address 0x80000000) _ (invalid access address)
    (either exception_of (is_store access) _ _ refl refl) (invalid_traps access address)

through_traps : (access : _) (address i : ℕ) (row : Row) → Traps (through access address i row) (λ f. exception_of f.kind)
through_traps access address i row =
    if_traps (λ f. exception_of f.kind) (not row.v) (Err (invalid access address)) _ (invalid_traps access address)
    (if_traps (λ f. exception_of f.kind) (is_store access && not row.d) _ _ refl tt)

row_traps : (access : _) (address i : ℕ) (o : Option Row) → Traps (through_row access address i o) (λ f. exception_of f.kind)
row_traps access address i None = miss_traps access address
row_traps access address i (Some row) = through_traps access address i row

found_traps : (access : _) (address : ℕ) (rows : List Row) (o : Option ℕ) → Traps (by_row access address rows o) (λ f. exception_of f.kind)
found_traps access address rows None = miss_traps access address
found_traps access address rows (Some i) = row_traps access address i (slice_get rows i)

segment_traps : (access : _) (address : ℕ) (p : Processor) (o : Option ℕ) → Traps (by_segment access address p o) (λ f. exception_of f.kind)
segment_traps access address p (Some at) = tt
segment_traps access address p None =
    found_traps access address p.rows (find_row p.rows (address / 2 ^ 12) (identifier_of p.control))

translate_traps : (access : _) (width address : ℕ) (p : Processor) → Traps (translate access width address p) (λ f. exception_of f.kind)
translate_traps access width address p =
    if_traps (λ f. exception_of f.kind) (is_misaddressed width address p) (Err (address_error access address)) (by_segment access address p (unmapped address))
    (address_traps access address) (segment_traps access address p (unmapped address))

physical_traps : (access : _) (width address : ℕ) (p : Processor) → Traps (physical_at access width address p) (λ f. exception_of f.kind)
unfolding physical_at
physical_traps access width address p =
    mapped_traps (λ f. exception_of f.kind) _ (translate access width address p) (translate_traps access width address p)

-- of the bus, where an access that finds nothing there makes no interrupt

ram_traps : (access : _) (width size at : ℕ) → IsTrap (exception_of (bus_error access).kind) → Traps (in_ram access width size at) (λ f. exception_of f.kind)
ram_traps access width size at h =
    if_traps (λ f. exception_of f.kind) (nat_le (at + width) size) (Ok at) (Err (bus_error access)) tt h

bus_traps : {V : Type 0} (access : _) (r : Result V _) → IsTrap (exception_of (bus_error access).kind) → Traps (or_bus_error access r) (λ f. exception_of f.kind)
bus_traps access (Ok value) h = tt
bus_traps access (Err e) h = h

pub reach_traps : (access : _) (width address size : ℕ) (p : Processor) → IsTrap (exception_of (bus_error access).kind) → Traps (reach access width address size p) (λ f. exception_of f.kind)
reach_traps access width address size p h =
    then_traps (λ f. exception_of f.kind) (physical_at access width address p) (in_ram access width size)
    (physical_traps access width address p) (λ at. ram_traps access width size at h)

word_traps : (access : _) (address size : ℕ) (p : Processor) → IsTrap (exception_of (bus_error access).kind) → Traps (reach_word_of access address size p) (λ f. exception_of f.kind)
word_traps access address size p h =
    then_traps (λ f. exception_of f.kind) (physical_at access 1 address p) (λ at. in_ram access 4 size (at / 4 * 4))
    (physical_traps access 1 address p) (λ at. ram_traps access 4 size (at / 4 * 4) h)

-- of effects

outside_traps : (t : Bool) (c : Change) (p : Processor) → p.slot ≡ t → Traps (outside_slot p c) (λ f. exception_of f.kind)
outside_traps true c p h = rw h refl
outside_traps false c p h = rw h tt

sum_traps : (o : Option ℕ) → Traps (unless_overflow o) (λ f. exception_of f.kind)
sum_traps (Some sum) = tt
sum_traps None = refl

-- the references of `lw` and of `sw`
abbrev word_loaded : (a b c : Argument) → (r : Reference) × (reference_of effect.LoadWord a b c ≡ Some r)
word_loaded a b c = (_, refl)

abbrev word_stored : (a b c : Argument) → (r : Reference) × (reference_of effect.StoreWord a b c ≡ Some r)
word_stored a b c = (_, refl)

effect_traps : (s : Scene) (e : Effect) (a b c : Argument) → Traps (effect_of s e a b c) (λ f. exception_of f.kind)
effect_traps s effect.ShiftLeft a b c = tt
effect_traps s effect.ShiftRight a b c = tt
effect_traps s effect.ShiftRightArithmetic a b c = tt
effect_traps s effect.Jump a b c = outside_traps s.processor.slot _ s.processor refl
effect_traps s effect.JumpAndLinkRegister a b c = outside_traps s.processor.slot _ s.processor refl
effect_traps s effect.SystemCall a b c = refl
effect_traps s effect.Breakpoint a b c = refl
effect_traps s effect.Synchronize a b c = tt
effect_traps s effect.MoveFromHi a b c = tt
effect_traps s effect.MoveToHi a b c = tt
effect_traps s effect.MoveFromLo a b c = tt
effect_traps s effect.MoveToLo a b c = tt
effect_traps s effect.Multiply a b c = tt
effect_traps s effect.MultiplyUnsigned a b c = tt
effect_traps s effect.Divide a b c = tt
effect_traps s effect.DivideUnsigned a b c = tt
effect_traps s effect.Sum a b c = mapped_traps (λ f. exception_of f.kind) _ _ (sum_traps _)
effect_traps s effect.SumModulo a b c = tt
effect_traps s effect.Difference a b c = mapped_traps (λ f. exception_of f.kind) _ _ (sum_traps _)
effect_traps s effect.DifferenceModulo a b c = tt
effect_traps s effect.And a b c = tt
effect_traps s effect.Or a b c = tt
effect_traps s effect.Xor a b c = tt
effect_traps s effect.Nor a b c = tt
effect_traps s effect.SetOnLess a b c = tt
effect_traps s effect.SetOnLessUnsigned a b c = tt
effect_traps s effect.BranchOnLess a b c = outside_traps s.processor.slot _ s.processor refl
effect_traps s effect.BranchOnGreaterOrEqual a b c = outside_traps s.processor.slot _ s.processor refl
effect_traps s effect.BranchOnLessAndLink a b c = outside_traps s.processor.slot _ s.processor refl
effect_traps s effect.BranchOnGreaterOrEqualAndLink a b c = outside_traps s.processor.slot _ s.processor refl
effect_traps s effect.JumpAndLink a b c = outside_traps s.processor.slot _ s.processor refl
effect_traps s effect.BranchOnEqual a b c = outside_traps s.processor.slot _ s.processor refl
effect_traps s effect.BranchOnNotEqual a b c = outside_traps s.processor.slot _ s.processor refl
effect_traps s effect.BranchOnLessOrEqual a b c = outside_traps s.processor.slot _ s.processor refl
effect_traps s effect.BranchOnGreater a b c = outside_traps s.processor.slot _ s.processor refl
effect_traps s effect.LoadUpper a b c = tt
effect_traps s effect.LoadByte a b c = mapped_traps (λ f. exception_of f.kind) _ _ (reach_traps _ 1 (effective_address b c) (length s.around.memory) s.processor refl)
effect_traps s effect.LoadHalf a b c = mapped_traps (λ f. exception_of f.kind) _ _ (reach_traps _ 2 (effective_address b c) (length s.around.memory) s.processor refl)
effect_traps s effect.LoadWordLeft a b c = mapped_traps (λ f. exception_of f.kind) _ _ (word_traps _ (effective_address b c) (length s.around.memory) s.processor refl)
effect_traps s effect.LoadWord a b c = mapped_traps (λ f. exception_of f.kind) _ _ (then_traps (λ f. exception_of f.kind) _ _ (physical_traps _ 4 (effective_address b c) s.processor) (λ at. if_traps (λ f. exception_of f.kind) (nat_le (at + 4) (length s.around.memory)) _ _ tt (bus_traps (word_loaded a b c).0.access _ refl)))
effect_traps s effect.LoadByteUnsigned a b c = mapped_traps (λ f. exception_of f.kind) _ _ (reach_traps _ 1 (effective_address b c) (length s.around.memory) s.processor refl)
effect_traps s effect.LoadHalfUnsigned a b c = mapped_traps (λ f. exception_of f.kind) _ _ (reach_traps _ 2 (effective_address b c) (length s.around.memory) s.processor refl)
effect_traps s effect.LoadWordRight a b c = mapped_traps (λ f. exception_of f.kind) _ _ (word_traps _ (effective_address b c) (length s.around.memory) s.processor refl)
effect_traps s effect.StoreByte a b c = mapped_traps (λ f. exception_of f.kind) _ _ (reach_traps _ 1 (effective_address b c) (length s.around.memory) s.processor refl)
effect_traps s effect.StoreHalf a b c = mapped_traps (λ f. exception_of f.kind) _ _ (reach_traps _ 2 (effective_address b c) (length s.around.memory) s.processor refl)
effect_traps s effect.StoreWordLeft a b c = mapped_traps (λ f. exception_of f.kind) _ _ (word_traps _ (effective_address b c) (length s.around.memory) s.processor refl)
effect_traps s effect.StoreWord a b c = then_traps (λ f. exception_of f.kind) _ _ (physical_traps _ 4 (effective_address b c) s.processor) (λ at. if_traps (λ f. exception_of f.kind) (nat_le (at + 4) (length s.around.memory)) _ _ tt (mapped_traps (λ f. exception_of f.kind) _ _ (bus_traps (word_stored a b c).0.access _ refl)))
effect_traps s effect.StoreWordRight a b c = mapped_traps (λ f. exception_of f.kind) _ _ (word_traps _ (effective_address b c) (length s.around.memory) s.processor refl)
effect_traps s effect.LoadLinked a b c = mapped_traps (λ f. exception_of f.kind) _ _ (reach_traps _ 4 (effective_address b c) (length s.around.memory) s.processor refl)
effect_traps s effect.StoreConditional a b c = mapped_traps (λ f. exception_of f.kind) _ _ (reach_traps _ 4 (effective_address b c) (length s.around.memory) s.processor refl)
effect_traps s effect.MoveFromCop0 a b c = tt
effect_traps s effect.MoveToCop0 a b c = tt
effect_traps s effect.ReadTlb a b c = tt
effect_traps s effect.WriteTlbIndexed a b c = tt
effect_traps s effect.WriteTlbRandom a b c = tt
effect_traps s effect.ProbeTlb a b c = tt
effect_traps s effect.RestoreFromException a b c = tt
effect_traps s effect.WaitForInterrupt a b c = tt

-- of instructions

three_traps : (s : Scene) (e : Effect) (l : List Argument) → Traps (with_three (effect_of s e) l) (λ f. exception_of f.kind)
three_traps s e [] = effect_traps s e _ _ _
three_traps s e (a ∷ []) = effect_traps s e a _ _
three_traps s e (a ∷ b ∷ []) = effect_traps s e a b _
three_traps s e (a ∷ b ∷ c ∷ l) = effect_traps s e a b c

misfit_traps : (o : Option Coprocessor) → IsTrap (exception_of (misfit_kind o))
misfit_traps None = refl
misfit_traps (Some coprocessor.One) = refl
misfit_traps (Some coprocessor.Two) = refl
misfit_traps (Some coprocessor.Three) = refl

by_row_traps : (s : Scene) (word : ℕ) (o : Option TableRow) → Traps (change_by_row s word o) (λ f. exception_of f.kind)
by_row_traps s word None = misfit_traps (absent_in word)
by_row_traps s word (Some r) =
    three_traps s (table r).effect (arguments s.processor (table r).operands (numbers_of word (Some r)))

pub instruction_traps : (s : Scene) (word : ℕ) → Traps (change_in s word) (λ f. exception_of f.kind)
instruction_traps s word = by_row_traps s word (row_that_fits word)

-- Loads from RAM.

-- neither a row of the TLB is changed, nor the board
abbrev pub Runs : {F : Type 0} → Scene → Result Change F → Type 0
Runs s (Ok c) = (c.row ≡ None) × (unwrap_or c.board s.around.board ≡ s.around.board)
Runs s (Err f) = ⊥

-- by its reference, if that is a load of a word in RAM
abbrev pub RunsBy : {F : Type 0} → Scene → Option Reference → Result Change F → Type 0
RunsBy s None result = Unit {0}
RunsBy s (Some r) result =
    is_store r.access ≡ false → (at : ℕ) → address_of s.processor r ≡ Ok at → nat_le (at / 4 * 4 + 4) (length s.around.memory) ≡ true → Runs s result

no_load : {X : Type 0} → true ≡ false → X
no_load h = absurd (cc)

byte_fits : (at size : ℕ) → nat_le (at / 4 * 4 + 4) size ≡ true → nat_le (at + 1) size ≡ true
byte_fits at size h = grind (arith, nat_tests, h)

half_fits : (at size : ℕ) → at % 2 ≡ 0 → nat_le (at / 4 * 4 + 4) size ≡ true → nat_le (at + 2) size ≡ true
half_fits at size al h = grind (arith, nat_tests, al, h)

word_fits : (at size : ℕ) → at % 4 ≡ 0 → nat_le (at / 4 * 4 + 4) size ≡ true → nat_le (at + 4) size ≡ true
word_fits at size al h = grind (arith, nat_tests, al, h)

effect_runs : (s : Scene) (e : Effect) (a b c : Argument) → RunsBy s (reference_of e a b c) (effect_of s e a b c)
effect_runs s effect.ShiftLeft a b c = tt
effect_runs s effect.ShiftRight a b c = tt
effect_runs s effect.ShiftRightArithmetic a b c = tt
effect_runs s effect.Jump a b c = tt
effect_runs s effect.JumpAndLinkRegister a b c = tt
effect_runs s effect.SystemCall a b c = tt
effect_runs s effect.Breakpoint a b c = tt
effect_runs s effect.Synchronize a b c = tt
effect_runs s effect.MoveFromHi a b c = tt
effect_runs s effect.MoveToHi a b c = tt
effect_runs s effect.MoveFromLo a b c = tt
effect_runs s effect.MoveToLo a b c = tt
effect_runs s effect.Multiply a b c = tt
effect_runs s effect.MultiplyUnsigned a b c = tt
effect_runs s effect.Divide a b c = tt
effect_runs s effect.DivideUnsigned a b c = tt
effect_runs s effect.Sum a b c = tt
effect_runs s effect.SumModulo a b c = tt
effect_runs s effect.Difference a b c = tt
effect_runs s effect.DifferenceModulo a b c = tt
effect_runs s effect.And a b c = tt
effect_runs s effect.Or a b c = tt
effect_runs s effect.Xor a b c = tt
effect_runs s effect.Nor a b c = tt
effect_runs s effect.SetOnLess a b c = tt
effect_runs s effect.SetOnLessUnsigned a b c = tt
effect_runs s effect.BranchOnLess a b c = tt
effect_runs s effect.BranchOnGreaterOrEqual a b c = tt
effect_runs s effect.BranchOnLessAndLink a b c = tt
effect_runs s effect.BranchOnGreaterOrEqualAndLink a b c = tt
effect_runs s effect.JumpAndLink a b c = tt
effect_runs s effect.BranchOnEqual a b c = tt
effect_runs s effect.BranchOnNotEqual a b c = tt
effect_runs s effect.BranchOnLessOrEqual a b c = tt
effect_runs s effect.BranchOnGreater a b c = tt
effect_runs s effect.LoadUpper a b c = tt
effect_runs s effect.LoadByte a b c = λ loads at is fits. rw (is, byte_fits at (length s.around.memory) fits) (refl, refl)
effect_runs s effect.LoadHalf a b c = λ loads at is fits. rw (is, half_fits at (length s.around.memory) (aligned _ 2 (effective_address b c) s.processor at halves is) fits) (refl, refl)
effect_runs s effect.LoadWordLeft a b c = λ loads at is fits. rw (is, fits) (refl, refl)
effect_runs s effect.LoadWord a b c = λ loads at is fits. rw (is, word_fits at (length s.around.memory) (aligned _ 4 (effective_address b c) s.processor at words is) fits) (refl, refl)
effect_runs s effect.LoadByteUnsigned a b c = λ loads at is fits. rw (is, byte_fits at (length s.around.memory) fits) (refl, refl)
effect_runs s effect.LoadHalfUnsigned a b c = λ loads at is fits. rw (is, half_fits at (length s.around.memory) (aligned _ 2 (effective_address b c) s.processor at halves is) fits) (refl, refl)
effect_runs s effect.LoadWordRight a b c = λ loads at is fits. rw (is, fits) (refl, refl)
effect_runs s effect.StoreByte a b c = λ loads. no_load loads
effect_runs s effect.StoreHalf a b c = λ loads. no_load loads
effect_runs s effect.StoreWordLeft a b c = λ loads. no_load loads
effect_runs s effect.StoreWord a b c = λ loads. no_load loads
effect_runs s effect.StoreWordRight a b c = λ loads. no_load loads
effect_runs s effect.LoadLinked a b c = λ loads at is fits. rw (is, word_fits at (length s.around.memory) (aligned _ 4 (effective_address b c) s.processor at words is) fits) (refl, refl)
effect_runs s effect.StoreConditional a b c = λ loads. no_load loads
effect_runs s effect.MoveFromCop0 a b c = tt
effect_runs s effect.MoveToCop0 a b c = tt
effect_runs s effect.ReadTlb a b c = tt
effect_runs s effect.WriteTlbIndexed a b c = tt
effect_runs s effect.WriteTlbRandom a b c = tt
effect_runs s effect.ProbeTlb a b c = tt
effect_runs s effect.RestoreFromException a b c = tt
effect_runs s effect.WaitForInterrupt a b c = tt

three_run : (s : Scene) (e : Effect) (l : List Argument) → RunsBy s (with_three (reference_of e) l) (with_three (effect_of s e) l)
three_run s e [] = effect_runs s e _ _ _
three_run s e (a ∷ []) = effect_runs s e a _ _
three_run s e (a ∷ b ∷ []) = effect_runs s e a b _
three_run s e (a ∷ b ∷ c ∷ l) = effect_runs s e a b c

by_row_runs : (s : Scene) (word : ℕ) (o : Option TableRow) → RunsBy s (reference_by_row s.processor word o) (change_by_row s word o)
by_row_runs s word None = tt
by_row_runs s word (Some r) =
    three_run s (table r).effect (arguments s.processor (table r).operands (numbers_of word (Some r)))

pub instruction_runs : (s : Scene) (word : ℕ) → RunsBy s (reference_in s.processor word) (change_in s word)
instruction_runs s word = by_row_runs s word (row_that_fits word)
