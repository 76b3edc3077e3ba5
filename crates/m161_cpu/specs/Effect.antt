use Rattle.std.specs.Prelude.{ℕ, ◌+◌, ◌-◌, ◌*◌, ◌/◌, ◌%◌, ◌^◌, ◌+ℤ◌, ◌-ℤ◌, Bool, true, not, nat_le, ◌==◌, bit_and, bit_or, bit_xor, if◌then◌else◌, List, [], ◌∷◌, length, slice_get, slice_index, slice_index_or, Option, None, Some, Result, Ok, Err}
use Rattle.m161_isa.specs.Address.{branch_target, jump_target}
use Rattle.m161_isa.specs.declared.operand.Operand.{Operand}
use Rattle.m161_isa.specs.declared.operand.Operand.TheVariants as operand
use Rattle.m161_isa.specs.declared.effect.Effect.{Effect}
use Rattle.m161_isa.specs.declared.effect.Effect.TheVariants as effect
use Rattle.m161_isa.specs.declared.instr.ShiftOp.TheVariants as shift
use Rattle.m161_isa.specs.declared.instr.ZeroTest.TheVariants as zero
use Rattle.m161_alu.specs.declared.arithmetic.Signedness.TheVariants.{Signed, Unsigned}
use Rattle.m161_alu.specs.declared.arithmetic.HiLoPair.{HiLoPair}
use Rattle.m161_alu.specs.Word.{signed, word_of_signed, sign_extended_byte, sign_extended_half}
use Rattle.m161_alu.specs.Results.{shifted_word, product, quotient, is_less, is_taken}
use Rattle.m161_alu.specs.Merge.{merged_left, merged_right, stored_left, stored_right}
use Rattle.m161_ram.specs.Word.{word_at, half_at}
use Rattle.m161_tlb.specs.declared.row.Row.{Row as TlbRow}
use Rattle.m161_tlb.specs.Row.{hi_word, lo_word, row_of_words}
use Rattle.m161_tlb.specs.Rows.{find_row}
use Rattle.m161_cop0.specs.Control.{Control, read_of, after_write, with_tlb_row, with_probe, identifier_of, index_row_of}
use Rattle.m161_cop0.specs.Trap.{after_rfe}
use Rattle.m161_bus.specs.Board.{BoardState, board_written, interrupt_lines}
use Rattle.m161_cpu.specs.declared.fault.Access.TheVariants.{Load, Store}
use Rattle.m161_cpu.specs.declared.fault.FaultKind.TheVariants as kind
use Rattle.m161_cpu.specs.declared.processor.Flow.{Flow}
use Rattle.m161_cpu.specs.declared.processor.Flow.TheVariants.{NotTaken, Taken}
use Rattle.m161_cpu.specs.declared.processor.ProcessorState.TheVariants.{Waiting}
use Rattle.m161_cpu.specs.Processor.{Processor}
use Rattle.m161_cpu.specs.Links.{LinkTo, End, is_to}
use Rattle.m161_cpu.specs.Scene.{Scene, Change, byte_to, half_to, word_to, nothing, result_map, and_then}
use Rattle.m161_cpu.specs.declared.fault.StepFault.{StepFault}
use Rattle.m161_cpu.specs.Fault.{fault}
use Rattle.m161_cpu.specs.Translation.{physical_at, reach, reach_word_of, read_word, or_bus_error}

-- What the rows of the instruction table do. Kane, MIPS RISC Architecture, instruction
-- descriptions.

-- the word that an operand is, by its kind and the number in its field
abbrev pub value_of : Processor → Operand → ℕ → ℕ
value_of p operand.Rd n = slice_index p.registers n
value_of p operand.Rs n = slice_index p.registers n
value_of p operand.Rt n = slice_index p.registers n
value_of p operand.Base n = slice_index p.registers n
value_of p operand.Amount n = n
value_of p operand.Unsigned n = n
value_of p operand.Signed n = sign_extended_half n
value_of p operand.Offset n = sign_extended_half n
value_of p operand.Branch n = branch_target p.pc n
value_of p operand.Jump n = jump_target p.pc n
value_of p operand.Cop0 n = n

-- an operand of an instruction: the number in its field, and the word that it is
pub record Argument : Type 0 where
  pub number : ℕ
  pub value : ℕ

abbrev pub blank : Argument
blank = record { number = 0; value = 0 }

abbrev pub arguments : Processor → List Operand → List ℕ → List Argument
arguments p (o ∷ os) (n ∷ ns) = record { number = n; value = value_of p o n } ∷ arguments p os ns
arguments p _ _ = []

-- a row has at most three operands; if it has fewer, the others are blank, and its effect doesn't
-- look at them
abbrev pub with_three : {R : Type 0} → (Argument → Argument → Argument → R) → List Argument → R
with_three f [] = f blank blank blank
with_three f (a ∷ []) = f a blank blank
with_three f (a ∷ b ∷ []) = f a b blank
with_three f (a ∷ b ∷ c ∷ _) = f a b c

-- changes
abbrev pub write : ℕ → ℕ → Change
write r word = record nothing { register = Some (r, word) }

abbrev pub write_hi_lo : ℕ → ℕ → Change
write_hi_lo hi lo = record nothing { hi_lo = Some (record { hi = hi; lo = lo }) }

abbrev pub write_pair : HiLoPair → Change
write_pair pair = write_hi_lo pair.hi pair.lo

abbrev pub store_byte : ℕ → ℕ → Change
store_byte byte at = record nothing { store = Some (byte_to at byte) }

abbrev pub store_half : ℕ → ℕ → Change
store_half half at = record nothing { store = Some (half_to at half) }

abbrev pub store_word : ℕ → ℕ → Change
store_word word at = record nothing { store = Some (word_to at word) }

abbrev pub write_control : Control → Change
write_control control = record nothing { control = Some control }

abbrev pub write_row : ℕ → TlbRow → Change
write_row i row = record nothing { row = Some (i, row) }

-- where a processor continues after a branch: its delay slot comes next in either case
abbrev pub branch_flow : Bool → ℕ → Flow
branch_flow taken target = if taken then Taken target else NotTaken

-- a branch to a target, taken or not; with the return address in a register
abbrev pub branch : Bool → ℕ → Change
branch taken target = record nothing { flow = branch_flow taken target }

abbrev pub return_address : Processor → ℕ
return_address p = (p.pc + 8) % 2 ^ 32

abbrev pub branch_and_link : Processor → ℕ → Bool → ℕ → Change
branch_and_link p r taken target =
    record (branch taken target) { register = Some (r, return_address p) }

-- a branch; in a delay slot it is a reserved instruction
abbrev pub outside_slot : Processor → Change → Result Change StepFault
outside_slot p change = if p.slot then Err (fault kind.ReservedInstruction) else Ok change

-- a sum, if it is a signed word, or the trap
abbrev pub unless_overflow : Option ℕ → Result ℕ StepFault
unless_overflow (Some sum) = Ok sum
unless_overflow None = Err (fault kind.Overflow)

abbrev pub one_if : Bool → ℕ
one_if test = if test then 1 else 0

-- the address of a load or a store
abbrev pub effective_address : Argument → Argument → ℕ
effective_address offset base = (base.value + offset.value) % 2 ^ 32

abbrev pub place_in_word : Argument → Argument → ℕ
place_in_word offset base = effective_address offset base % 4

-- a load and a store, as a function of the place in RAM of the address
abbrev pub load : Scene → ℕ → Argument → Argument → (ℕ → Change) → Result Change StepFault
load s width o b change =
    result_map change
    (reach Load width (effective_address o b) (length s.around.memory) s.processor)

abbrev pub store : Scene → ℕ → Argument → Argument → (ℕ → Change) → Result Change StepFault
store s width o b change =
    result_map change
    (reach Store width (effective_address o b) (length s.around.memory) s.processor)

-- the same, of the word that contains the address
abbrev pub load_within : Scene → Argument → Argument → (ℕ → Change) → Result Change StepFault
load_within s o b change =
    result_map change
    (reach_word_of Load (effective_address o b) (length s.around.memory) s.processor)

abbrev pub store_within : Scene → Argument → Argument → (ℕ → Change) → Result Change StepFault
store_within s o b change =
    result_map change
    (reach_word_of Store (effective_address o b) (length s.around.memory) s.processor)

-- `lw` and `sw` reach the slots too
abbrev pub write_read : ℕ → ℕ × BoardState → Change
write_read r read = record (write r read.0) { board = Some read.1 }

abbrev pub write_board : BoardState → Change
write_board board = record nothing { board = Some board }

abbrev pub store_physical_word : Scene → ℕ → ℕ → Result Change StepFault
store_physical_word s word at =
    if nat_le (at + 4) (length s.around.memory) then Ok (store_word word at)
    else result_map write_board
    (or_bus_error Store (board_written s.around.number at word s.around.board))

abbrev pub store_word_at : ℕ → ℕ → Scene → Result Change StepFault
store_word_at address word s =
    and_then (physical_at Store 4 address s.processor) (store_physical_word s word)

-- `ll` links the processor to the unit that has the word
abbrev pub load_linked : Scene → ℕ → ℕ → Change
load_linked s r at = record (write r (word_at s.around.memory at)) { link = LinkTo at }

-- the processor's link, if it is live
abbrev pub own_link : Scene → Option ℕ
own_link s = slice_index_or s.around.links.live s.around.number None

-- that link is to the unit that has an address
abbrev pub is_linked : Scene → ℕ → Bool
is_linked s at = is_to s.around.links.unit at (own_link s)

-- `sc` stores and gives 1 if the link is to the unit that has the word, else it gives 0; the link
-- ends
abbrev pub store_conditional : Scene → ℕ → ℕ → ℕ → Change
store_conditional s r word at =
    if is_linked s at then record (store_word word at) { register = Some (r, 1); link = End }
    else record (write r 0) { link = End }

-- the row in EntryHi and EntryLo
abbrev pub entry_row : Control → TlbRow
entry_row c = row_of_words c.entry_hi c.entry_lo

-- `tlbr`: the two words of a row; a row's number is below 64, so the row exists
abbrev pub row_read : Control → Option TlbRow → Control
row_read c None = c
row_read c (Some row) = with_tlb_row (hi_word row) (lo_word row) c

abbrev pub row_indexed : Processor → Control
row_indexed p = row_read p.control (slice_get p.rows (index_row_of p.control))

-- `tlbp`: the lowest row that matches EntryHi, whether it is valid or not
abbrev pub after_probe : Processor → Control
after_probe p =
    with_probe (find_row p.rows (p.control.entry_hi / 2 ^ 12) (identifier_of p.control)) p.control

-- each effect, from its operands and the scene
abbrev pub effect_of : Scene → Effect → Argument → Argument → Argument → Result Change StepFault
-- shifts
effect_of s effect.ShiftLeft d a n =
    Ok (write d.number (shifted_word shift.Left a.value (n.value % 32)))
effect_of s effect.ShiftRight d a n =
    Ok (write d.number (shifted_word shift.Right a.value (n.value % 32)))
effect_of s effect.ShiftRightArithmetic d a n =
    Ok (write d.number (shifted_word shift.RightArithmetic a.value (n.value % 32)))
-- sums
effect_of s effect.Sum d a b =
    result_map (write d.number)
    (unless_overflow (word_of_signed (signed a.value +ℤ signed b.value)))
effect_of s effect.Difference d a b =
    result_map (write d.number)
    (unless_overflow (word_of_signed (signed a.value -ℤ signed b.value)))
effect_of s effect.SumModulo d a b = Ok (write d.number ((a.value + b.value) % 2 ^ 32))
effect_of s effect.DifferenceModulo d a b =
    Ok (write d.number ((a.value + (2 ^ 32 - b.value)) % 2 ^ 32))
-- bit by bit, comparisons
effect_of s effect.And d a b = Ok (write d.number (bit_and a.value b.value))
effect_of s effect.Or d a b = Ok (write d.number (bit_or a.value b.value))
effect_of s effect.Xor d a b = Ok (write d.number (bit_xor a.value b.value))
effect_of s effect.Nor d a b = Ok (write d.number (2 ^ 32 - 1 - bit_or a.value b.value))
effect_of s effect.SetOnLess d a b = Ok (write d.number (one_if (is_less Signed a.value b.value)))
effect_of s effect.SetOnLessUnsigned d a b =
    Ok (write d.number (one_if (is_less Unsigned a.value b.value)))
effect_of s effect.LoadUpper d i _ = Ok (write d.number (i.value * 2 ^ 16))
-- products, quotients, HI and LO
effect_of s effect.Multiply a b _ = Ok (write_pair (product Signed a.value b.value))
effect_of s effect.MultiplyUnsigned a b _ = Ok (write_pair (product Unsigned a.value b.value))
effect_of s effect.Divide a b _ = Ok (write_pair (quotient Signed a.value b.value))
effect_of s effect.DivideUnsigned a b _ = Ok (write_pair (quotient Unsigned a.value b.value))
effect_of s effect.MoveFromHi d _ _ = Ok (write d.number s.processor.hi)
effect_of s effect.MoveFromLo d _ _ = Ok (write d.number s.processor.lo)
effect_of s effect.MoveToHi v _ _ = Ok (write_hi_lo v.value s.processor.lo)
effect_of s effect.MoveToLo v _ _ = Ok (write_hi_lo s.processor.hi v.value)
-- jumps
effect_of s effect.Jump t _ _ = outside_slot s.processor (branch true t.value)
effect_of s effect.JumpAndLink t _ _ =
    outside_slot s.processor (branch_and_link s.processor 31 true t.value)
effect_of s effect.JumpAndLinkRegister d v _ =
    outside_slot s.processor (branch_and_link s.processor d.number true v.value)
-- branches
effect_of s effect.BranchOnEqual a b t =
    outside_slot s.processor (branch (a.value == b.value) t.value)
effect_of s effect.BranchOnNotEqual a b t =
    outside_slot s.processor (branch (not (a.value == b.value)) t.value)
effect_of s effect.BranchOnLess v t _ =
    outside_slot s.processor (branch (is_taken zero.Less v.value) t.value)
effect_of s effect.BranchOnGreaterOrEqual v t _ =
    outside_slot s.processor (branch (is_taken zero.GreaterOrEqual v.value) t.value)
effect_of s effect.BranchOnLessOrEqual v t _ =
    outside_slot s.processor (branch (is_taken zero.LessOrEqual v.value) t.value)
effect_of s effect.BranchOnGreater v t _ =
    outside_slot s.processor (branch (is_taken zero.Greater v.value) t.value)
effect_of s effect.BranchOnLessAndLink v t _ =
    outside_slot s.processor (branch_and_link s.processor 31 (is_taken zero.Less v.value) t.value)
effect_of s effect.BranchOnGreaterOrEqualAndLink v t _ =
    outside_slot s.processor
    (branch_and_link s.processor 31 (is_taken zero.GreaterOrEqual v.value) t.value)
-- loads
effect_of s effect.LoadByte d o b =
    load s 1 o b (λ at. write d.number (sign_extended_byte (slice_index s.around.memory at)))
effect_of s effect.LoadByteUnsigned d o b =
    load s 1 o b (λ at. write d.number (slice_index s.around.memory at))
effect_of s effect.LoadHalf d o b =
    load s 2 o b (λ at. write d.number (sign_extended_half (half_at s.around.memory at)))
effect_of s effect.LoadHalfUnsigned d o b =
    load s 2 o b (λ at. write d.number (half_at s.around.memory at))
effect_of s effect.LoadWord d o b =
    result_map (write_read d.number)
    (read_word (effective_address o b) s.processor s.around.number s.around.memory s.around.board)
effect_of s effect.LoadWordLeft d o b =
    load_within s o b (λ at. write d.number
    (merged_left (word_at s.around.memory at) d.value (place_in_word o b)))
effect_of s effect.LoadWordRight d o b =
    load_within s o b (λ at. write d.number
    (merged_right (word_at s.around.memory at) d.value (place_in_word o b)))
-- stores
effect_of s effect.StoreByte t o b = store s 1 o b (store_byte (t.value % 2 ^ 8))
effect_of s effect.StoreHalf t o b = store s 2 o b (store_half (t.value % 2 ^ 16))
effect_of s effect.StoreWord t o b = store_word_at (effective_address o b) t.value s
effect_of s effect.StoreWordLeft t o b =
    store_within s o b (λ at. store_word
    (stored_left (word_at s.around.memory at) t.value (place_in_word o b)) at)
effect_of s effect.StoreWordRight t o b =
    store_within s o b (λ at. store_word
    (stored_right (word_at s.around.memory at) t.value (place_in_word o b)) at)
-- links
effect_of s effect.LoadLinked d o b = load s 4 o b (load_linked s d.number)
effect_of s effect.StoreConditional t o b = store s 4 o b (store_conditional s t.number t.value)
-- memory is always synchronized
effect_of s effect.Synchronize _ _ _ = Ok nothing
-- traps
effect_of s effect.SystemCall _ _ _ = Err (fault kind.SystemCall)
effect_of s effect.Breakpoint _ _ _ = Err (fault kind.Breakpoint)
-- coprocessor 0
effect_of s effect.MoveFromCop0 t r _ =
    Ok (write t.number
    (read_of r.number (interrupt_lines s.around.number s.around.board) s.processor.control))
effect_of s effect.MoveToCop0 t r _ =
    Ok (write_control (after_write r.number t.value s.processor.control))
effect_of s effect.ReadTlb _ _ _ =
    Ok (write_control (row_indexed s.processor))
effect_of s effect.WriteTlbIndexed _ _ _ =
    Ok (write_row (index_row_of s.processor.control) (entry_row s.processor.control))
effect_of s effect.WriteTlbRandom _ _ _ =
    Ok (write_row s.processor.control.random (entry_row s.processor.control))
effect_of s effect.ProbeTlb _ _ _ = Ok (write_control (after_probe s.processor))
effect_of s effect.RestoreFromException _ _ _ =
    Ok (record (write_control (after_rfe s.processor.control)) { link = End })
effect_of s effect.WaitForInterrupt _ _ _ = Ok (record nothing { state = Some Waiting })
