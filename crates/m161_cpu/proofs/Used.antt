use Rattle.std.proofs.Common.{◌≡◌, ◌≢◌, ◌∙◌, refl, ap, sym, subst, ℕ, ◌+◌, ◌*◌, ◌/◌, ◌^◌, ◌<◌, ◌≤◌, arith, Bool, true, false, List, length, Option, None, Some, Result, Ok, Err}
use Rattle.std.specs.Prelude.{IfSome, ◌+ℤ◌, ◌-ℤ◌, ◌%◌, slice_index, nat_le, if◌then◌else◌, ◌&&◌}
use Rattle.m161_isa.specs.declared.instr.Instr.{Instr}
use Rattle.m161_isa.specs.declared.instr.Instr.TheVariants as instrs
use Rattle.m161_isa.specs.declared.instr.LoadOp.{LoadOp}
use Rattle.m161_isa.specs.declared.instr.LoadOp.TheVariants as load
use Rattle.m161_isa.specs.declared.instr.StoreOp.{StoreOp}
use Rattle.m161_isa.specs.declared.instr.StoreOp.TheVariants as store
use Rattle.m161_isa.specs.declared.instr.ShiftOp.TheVariants as shift
use Rattle.m161_isa.specs.declared.instr.ArithOp.TheVariants as arithop
use Rattle.m161_isa.specs.declared.instr.MultiplyOp.TheVariants as multiply
use Rattle.m161_isa.specs.declared.instr.HiLo.TheVariants as half
use Rattle.m161_isa.specs.declared.instr.ZeroTest.TheVariants as zero
use Rattle.m161_isa.specs.declared.instr.EqualTest.TheVariants as equal
use Rattle.m161_isa.specs.declared.instr.JumpOp.TheVariants as jump
use Rattle.m161_isa.specs.declared.instr.ImmediateOp.TheVariants as immediate
use Rattle.m161_isa.specs.declared.instr.PlainOp.TheVariants as plain
use Rattle.m161_isa.specs.declared.table.Row.{Row}
use Rattle.m161_isa.specs.Instr.{row_of_instr, numbers_of_instr, instr_of}
use Rattle.m161_isa.specs.declared.table.Row.TheVariants as rows
use Rattle.m161_isa.specs.Bits.{bits_of}
use Rattle.m161_isa.specs.Table.{Fits, row_that_fits, numbers_of}
use Rattle.m161_isa.proofs.InstrBy.{row_of_instr-instr_by, numbers_of_instr-instr_by}
use Rattle.m161_isa.proofs.OneRow.{row_that_fits-fits}
use Rattle.m161_isa.specs.Address.{unmapped}
use Rattle.m161_bus.specs.Board.{BoardState}
use Rattle.m161_cpu.specs.declared.fault.Access.{Access}
use Rattle.m161_cpu.specs.declared.fault.Access.TheVariants.{Load, Store, Fetch}
use Rattle.m161_cpu.specs.declared.fault.FaultKind.TheVariants as kind
use Rattle.m161_ram.specs.Word.{half_at, word_at}
use Rattle.m161_alu.specs.Word.{signed, word_of_signed, sign_extended_byte, sign_extended_half}
use Rattle.m161_alu.specs.Merge.{merged_left, merged_right}
use Rattle.m161_cop0.specs.Control.{is_user}
use Rattle.m161_cpu.proofs.Fetched.{in_kernel_mode}
use Rattle.m161_cpu.specs.declared.translation.Physical.{Physical}
use Rattle.m161_cpu.specs.declared.uses.Via.{Via}
use Rattle.m161_cpu.specs.declared.uses.Uses.{Uses}
use Rattle.m161_cpu.specs.Processor.{Processor}
use Rattle.m161_cpu.specs.Scene.{Scene, Change, and_then, result_map, stored_by}
use Rattle.m161_cpu.specs.declared.fault.StepFault.{StepFault}
use Rattle.m161_cpu.specs.Fault.{fault}
use Rattle.m161_cpu.specs.Translation.{bus_error, is_misaddressed, physical, physical_at, reach, reach_word_of, read_word, translate}
use Rattle.m161_cpu.specs.Effect.{is_linked, load_linked, store_conditional, unless_overflow, write, write_board, write_read}
use Rattle.m161_cpu.specs.helpers.Execute.{change_by}
use Rattle.m161_cpu.specs.Step.{change_in, executable_word, is_unusable}
use Rattle.m161_cpu.specs.Uses.{fetch_of, fetches, reference, reference_after, reference_by_row, reference_of_row, uses_of, via_in, via_of, via_row, via_reference}
use Rattle.m161_cpu.specs.helpers.Uses.{IsFetched, IsWord, address_by, no_uses, place_of_store, reference_by, reference_by_some, stored_of, stores_only, uses_after, uses_by, uses_fetched, uses_of_word, width_of_load, width_of_store}
use Rattle.m161_cpu.proofs.Decoded.{decoded}
use Rattle.m161_cpu.proofs.Located.{not_located, located}
use Rattle.m161_cpu.proofs.Awake.{step_stored}

-- What an instruction uses.

-- the access of a load and of a store
load_refers : (p : Processor) (op : LoadOp) (rt o b : ℕ) → reference_by p (instrs.Load op rt o b) ≡ Some (reference Load (width_of_load op) (address_by p o b))
unfolding reference_by
load_refers p load.Byte rt o b = refl
load_refers p load.ByteUnsigned rt o b = refl
load_refers p load.Half rt o b = refl
load_refers p load.HalfUnsigned rt o b = refl
load_refers p load.Word rt o b = refl
load_refers p load.WordLeft rt o b = refl
load_refers p load.WordRight rt o b = refl
load_refers p load.Linked rt o b = refl

store_refers : (p : Processor) (op : StoreOp) (rt o b : ℕ) → reference_by p (instrs.Store op rt o b) ≡ Some (reference Store (width_of_store op) (address_by p o b))
unfolding reference_by
store_refers p store.Byte rt o b = refl
store_refers p store.Half rt o b = refl
store_refers p store.Word rt o b = refl
store_refers p store.WordLeft rt o b = refl
store_refers p store.WordRight rt o b = refl
store_refers p store.Conditional rt o b = refl

-- a load stores nothing
nothing_stored : {V : Type 0} (r : Result V StepFault) (f : V → Change) → ((x : V) → stored_by (f x).store ≡ None) → stored_of (result_map f r) ≡ None
nothing_stored (Ok x) f none = none x
nothing_stored (Err e) f none = refl

load_stored : (s : Scene) (op : LoadOp) (rt o b : ℕ) → stored_of (change_by s (instrs.Load op rt o b)) ≡ None
unfolding change_by
load_stored s load.Byte rt o b =
    nothing_stored (reach Load 1 (address_by s.processor o b) (length s.around.memory) s.processor)
    (λ at. write rt (sign_extended_byte (slice_index s.around.memory at))) (λ x. refl)
load_stored s load.ByteUnsigned rt o b =
    nothing_stored (reach Load 1 (address_by s.processor o b) (length s.around.memory) s.processor)
    (λ at. write rt (slice_index s.around.memory at)) (λ x. refl)
load_stored s load.Half rt o b =
    nothing_stored (reach Load 2 (address_by s.processor o b) (length s.around.memory) s.processor)
    (λ at. write rt (sign_extended_half (half_at s.around.memory at))) (λ x. refl)
load_stored s load.HalfUnsigned rt o b =
    nothing_stored (reach Load 2 (address_by s.processor o b) (length s.around.memory) s.processor)
    (λ at. write rt (half_at s.around.memory at)) (λ x. refl)
load_stored s load.Word rt o b =
    nothing_stored (read_word (address_by s.processor o b) s.processor s.around.number s.around.memory s.around.board)
    (write_read rt) (λ x. refl)
load_stored s load.WordLeft rt o b =
    nothing_stored (reach_word_of Load (address_by s.processor o b) (length s.around.memory) s.processor)
    (λ at. write rt (merged_left (word_at s.around.memory at) (slice_index s.processor.registers rt) ((address_by s.processor o b) % 4))) (λ x. refl)
load_stored s load.WordRight rt o b =
    nothing_stored (reach_word_of Load (address_by s.processor o b) (length s.around.memory) s.processor)
    (λ at. write rt (merged_right (word_at s.around.memory at) (slice_index s.processor.registers rt) ((address_by s.processor o b) % 4))) (λ x. refl)
load_stored s load.Linked rt o b =
    nothing_stored (reach Load 4 (address_by s.processor o b) (length s.around.memory) s.processor)
    (load_linked s rt) (λ x. refl)

pub load_uses : (s : Scene) (fetch : Option Via) (op : LoadOp) (rt o b : ℕ) (via : Option Via) → via ≡ via_of s.processor (reference Load (width_of_load op) (address_by s.processor o b)) →
    record { fetch = fetch; access = via; stored = None } ≡ uses_by s fetch (instrs.Load op rt o b)
load_uses s fetch op rt o b via is = λ i. record {
  fetch = fetch;
  access = (is ∙ ap (via_reference s.processor) (sym (load_refers s.processor op rt o b))) i;
  stored = sym (load_stored s op rt o b) i;
}

-- a store whose translation faults
store_faults : (s : Scene) (op : StoreOp) (rt o b : ℕ) (f : StepFault) →
    translate Store (width_of_store op) (address_by s.processor o b) s.processor ≡ Err f →
    stored_of (change_by s (instrs.Store op rt o b)) ≡ None
unfolding change_by
store_faults s store.Byte rt o b f h = rw (not_located Store 1 (address_by s.processor o b) s.processor f h) refl
store_faults s store.Half rt o b f h = rw (not_located Store 2 (address_by s.processor o b) s.processor f h) refl
store_faults s store.Word rt o b f h = rw (not_located Store 4 (address_by s.processor o b) s.processor f h) refl
store_faults s store.WordLeft rt o b f h = rw (not_located Store 1 (address_by s.processor o b) s.processor f h) refl
store_faults s store.WordRight rt o b f h = rw (not_located Store 1 (address_by s.processor o b) s.processor f h) refl
store_faults s store.Conditional rt o b f h = rw (not_located Store 4 (address_by s.processor o b) s.processor f h) refl

-- a store to RAM, or to no word of it
in_test : (t : Bool) (r e : Result Change StepFault) (w : ℕ) → stored_of r ≡ Some w → stored_of e ≡ None → stored_of (if t then r else e) ≡ (if t then Some w else None)
in_test true r e w here elsewhere = here
in_test false r e w here elsewhere = elsewhere

in_ram_test : (t : Bool) (f : ℕ → Change) (at : ℕ) (e : StepFault) (w : ℕ) → stored_by (f at).store ≡ Some w → stored_of (result_map f (if t then Ok at else Err e)) ≡ (if t then Some w else None)
in_ram_test true f at e w here = here
in_ram_test false f at e w here = refl

in_linked : (t linked : Bool) (s : Scene) (r word at : ℕ) (e : StepFault) → is_linked s at ≡ linked →
    stored_of (result_map (store_conditional s r word) (if t then Ok at else Err e)) ≡ (if t && linked then Some at else None)
in_linked true true s r word at e h = rw h refl
in_linked true false s r word at e h = rw h refl
in_linked false linked s r word at e h = refl

no_word : (r : Result BoardState StepFault) → stored_of (result_map write_board r) ≡ None
no_word (Ok board) = refl
no_word (Err f) = refl

store_place : (s : Scene) (op : StoreOp) (rt o b at : ℕ) →
    physical_at Store (width_of_store op) (address_by s.processor o b) s.processor ≡ Ok at →
    stored_of (change_by s (instrs.Store op rt o b)) ≡ place_of_store op at (length s.around.memory) (is_linked s at)
unfolding change_by
store_place s store.Byte rt o b at h = rw h (in_ram_test (nat_le (at + 1) (length s.around.memory)) _ at _ _ refl)
store_place s store.Half rt o b at h = rw h (in_ram_test (nat_le (at + 2) (length s.around.memory)) _ at _ _ refl)
store_place s store.Word rt o b at h = rw h (in_test (nat_le (at + 4) (length s.around.memory)) _ _ at refl (no_word _))
store_place s store.WordLeft rt o b at h = rw h (in_ram_test (nat_le (at / 4 * 4 + 4) (length s.around.memory)) _ (at / 4 * 4) _ _ refl)
store_place s store.WordRight rt o b at h = rw h (in_ram_test (nat_le (at / 4 * 4 + 4) (length s.around.memory)) _ (at / 4 * 4) _ _ refl)
store_place s store.Conditional rt o b at h = rw h (in_linked (nat_le (at + 4) (length s.around.memory)) (is_linked s at) s rt (slice_index s.processor.registers rt) at _ refl)

pub store_not_located : (s : Scene) (fetch : Option Via) (op : StoreOp) (rt o b address width : ℕ) (f : StepFault) →
    address_by s.processor o b ≡ address → width ≡ width_of_store op → translate Store width address s.processor ≡ Err f →
    ◌≡◌ {A = Uses} (record { fetch = fetch; access = None; stored = None }) (uses_by s fetch (instrs.Store op rt o b))
unfolding via_of
store_not_located s fetch op rt o b address width f is w h =
    let here : translate Store (width_of_store op) (address_by s.processor o b) s.processor ≡ Err f = ap (λ a. translate Store (width_of_store op) a s.processor) is ∙ ap (λ x. translate Store x address s.processor) (sym w) ∙ h in
    let none : ◌≡◌ {A = Option Via} None (via_of s.processor (reference Store (width_of_store op) (address_by s.processor o b))) = rw here refl in
    λ i. record {
      fetch = fetch;
      access = (none ∙ ap (via_reference s.processor) (sym (store_refers s.processor op rt o b))) i;
      stored = sym (store_faults s op rt o b f here) i;
    }

pub store_located : (s : Scene) (fetch : Option Via) (op : StoreOp) (rt o b address width : ℕ) (to : Physical) (via : Option Via) (stored : Option ℕ) →
    address_by s.processor o b ≡ address → width ≡ width_of_store op → translate Store width address s.processor ≡ Ok to →
    via ≡ via_of s.processor (reference Store width address) → stored ≡ place_of_store op to.at (length s.around.memory) (is_linked s to.at) →
    record { fetch = fetch; access = via; stored = stored } ≡ uses_by s fetch (instrs.Store op rt o b)
store_located s fetch op rt o b address width to via stored is w h v at =
    let here : translate Store (width_of_store op) (address_by s.processor o b) s.processor ≡ Ok to = ap (λ a. translate Store (width_of_store op) a s.processor) is ∙ ap (λ x. translate Store x address s.processor) (sym w) ∙ h in
    let via_is : via ≡ via_of s.processor (reference Store (width_of_store op) (address_by s.processor o b)) = v ∙ ap (λ x. via_of s.processor (reference Store x address)) w ∙ ap (λ a. via_of s.processor (reference Store (width_of_store op) a)) (sym is) in
    λ i. record {
      fetch = fetch;
      access = (via_is ∙ ap (via_reference s.processor) (sym (store_refers s.processor op rt o b))) i;
      stored = (at ∙ sym (store_place s op rt o b to.at (located Store (width_of_store op) (address_by s.processor o b) s.processor to here))) i;
    }

-- no other instruction has an access, or stores
in_slot : (t : Bool) (c : Change) (f : StepFault) → stored_by c.store ≡ None → stored_of (if t then Err f else Ok c) ≡ None
in_slot true c f none = refl
in_slot false c f none = none

without : (s : Scene) (fetch : Option Via) (i : Instr) → reference_by s.processor i ≡ None → stored_of (change_by s i) ≡ None →
    ◌≡◌ {A = Uses} (record { fetch = fetch; access = None; stored = None }) (uses_by s fetch i)
without s fetch i t n = λ j. record { fetch = fetch; access = ap (via_reference s.processor) (sym t) j; stored = sym n j }

pub other_uses : (s : Scene) (fetch : Option Via) (i : Instr) →
    ((op : LoadOp) (rt o b : ℕ) → i ≢ instrs.Load op rt o b) → ((op : StoreOp) (rt o b : ℕ) → i ≢ instrs.Store op rt o b) →
    ◌≡◌ {A = Uses} (record { fetch = fetch; access = None; stored = None }) (uses_by s fetch i)
unfolding change_by reference_by
other_uses s fetch (instrs.Shift shift.Left a b c) l m = without s fetch (instrs.Shift shift.Left a b c) refl (refl)
other_uses s fetch (instrs.Shift shift.Right a b c) l m = without s fetch (instrs.Shift shift.Right a b c) refl (refl)
other_uses s fetch (instrs.Shift shift.RightArithmetic a b c) l m = without s fetch (instrs.Shift shift.RightArithmetic a b c) refl (refl)
other_uses s fetch (instrs.ShiftVariable shift.Left a b c) l m = without s fetch (instrs.ShiftVariable shift.Left a b c) refl (refl)
other_uses s fetch (instrs.ShiftVariable shift.Right a b c) l m = without s fetch (instrs.ShiftVariable shift.Right a b c) refl (refl)
other_uses s fetch (instrs.ShiftVariable shift.RightArithmetic a b c) l m = without s fetch (instrs.ShiftVariable shift.RightArithmetic a b c) refl (refl)
other_uses s fetch (instrs.JumpRegister a) l m = without s fetch (instrs.JumpRegister a) refl (in_slot s.processor.slot _ _ refl)
other_uses s fetch (instrs.JumpAndLinkRegister a b) l m = without s fetch (instrs.JumpAndLinkRegister a b) refl (in_slot s.processor.slot _ _ refl)
other_uses s fetch (instrs.MoveFrom half.Hi a) l m = without s fetch (instrs.MoveFrom half.Hi a) refl (refl)
other_uses s fetch (instrs.MoveTo half.Hi a) l m = without s fetch (instrs.MoveTo half.Hi a) refl (refl)
other_uses s fetch (instrs.MoveFrom half.Lo a) l m = without s fetch (instrs.MoveFrom half.Lo a) refl (refl)
other_uses s fetch (instrs.MoveTo half.Lo a) l m = without s fetch (instrs.MoveTo half.Lo a) refl (refl)
other_uses s fetch (instrs.Multiply multiply.Mult a b) l m = without s fetch (instrs.Multiply multiply.Mult a b) refl (refl)
other_uses s fetch (instrs.Multiply multiply.Multu a b) l m = without s fetch (instrs.Multiply multiply.Multu a b) refl (refl)
other_uses s fetch (instrs.Multiply multiply.Div a b) l m = without s fetch (instrs.Multiply multiply.Div a b) refl (refl)
other_uses s fetch (instrs.Multiply multiply.Divu a b) l m = without s fetch (instrs.Multiply multiply.Divu a b) refl (refl)
other_uses s fetch (instrs.Arith arithop.Add a b c) l m = without s fetch (instrs.Arith arithop.Add a b c) refl
    (nothing_stored (unless_overflow (word_of_signed ((signed (slice_index s.processor.registers b)) +ℤ (signed (slice_index s.processor.registers c))))) (write a) (λ x. refl))
other_uses s fetch (instrs.Arith arithop.Addu a b c) l m = without s fetch (instrs.Arith arithop.Addu a b c) refl (refl)
other_uses s fetch (instrs.Arith arithop.Sub a b c) l m = without s fetch (instrs.Arith arithop.Sub a b c) refl
    (nothing_stored (unless_overflow (word_of_signed ((signed (slice_index s.processor.registers b)) -ℤ (signed (slice_index s.processor.registers c))))) (write a) (λ x. refl))
other_uses s fetch (instrs.Arith arithop.Subu a b c) l m = without s fetch (instrs.Arith arithop.Subu a b c) refl (refl)
other_uses s fetch (instrs.Arith arithop.And a b c) l m = without s fetch (instrs.Arith arithop.And a b c) refl (refl)
other_uses s fetch (instrs.Arith arithop.Or a b c) l m = without s fetch (instrs.Arith arithop.Or a b c) refl (refl)
other_uses s fetch (instrs.Arith arithop.Xor a b c) l m = without s fetch (instrs.Arith arithop.Xor a b c) refl (refl)
other_uses s fetch (instrs.Arith arithop.Nor a b c) l m = without s fetch (instrs.Arith arithop.Nor a b c) refl (refl)
other_uses s fetch (instrs.Arith arithop.Slt a b c) l m = without s fetch (instrs.Arith arithop.Slt a b c) refl (refl)
other_uses s fetch (instrs.Arith arithop.Sltu a b c) l m = without s fetch (instrs.Arith arithop.Sltu a b c) refl (refl)
other_uses s fetch (instrs.BranchZero zero.Less a b) l m = without s fetch (instrs.BranchZero zero.Less a b) refl (in_slot s.processor.slot _ _ refl)
other_uses s fetch (instrs.BranchZero zero.GreaterOrEqual a b) l m = without s fetch (instrs.BranchZero zero.GreaterOrEqual a b) refl (in_slot s.processor.slot _ _ refl)
other_uses s fetch (instrs.BranchZero zero.LessAndLink a b) l m = without s fetch (instrs.BranchZero zero.LessAndLink a b) refl (in_slot s.processor.slot _ _ refl)
other_uses s fetch (instrs.BranchZero zero.GreaterOrEqualAndLink a b) l m = without s fetch (instrs.BranchZero zero.GreaterOrEqualAndLink a b) refl (in_slot s.processor.slot _ _ refl)
other_uses s fetch (instrs.BranchZero zero.LessOrEqual a b) l m = without s fetch (instrs.BranchZero zero.LessOrEqual a b) refl (in_slot s.processor.slot _ _ refl)
other_uses s fetch (instrs.BranchZero zero.Greater a b) l m = without s fetch (instrs.BranchZero zero.Greater a b) refl (in_slot s.processor.slot _ _ refl)
other_uses s fetch (instrs.Jump jump.Jump a) l m = without s fetch (instrs.Jump jump.Jump a) refl (in_slot s.processor.slot _ _ refl)
other_uses s fetch (instrs.Jump jump.JumpAndLink a) l m = without s fetch (instrs.Jump jump.JumpAndLink a) refl (in_slot s.processor.slot _ _ refl)
other_uses s fetch (instrs.BranchEqual equal.Equal a b c) l m = without s fetch (instrs.BranchEqual equal.Equal a b c) refl (in_slot s.processor.slot _ _ refl)
other_uses s fetch (instrs.BranchEqual equal.NotEqual a b c) l m = without s fetch (instrs.BranchEqual equal.NotEqual a b c) refl (in_slot s.processor.slot _ _ refl)
other_uses s fetch (instrs.Immediate immediate.Addi a b c) l m = without s fetch (instrs.Immediate immediate.Addi a b c) refl
    (nothing_stored (unless_overflow (word_of_signed ((signed (slice_index s.processor.registers b)) +ℤ signed (sign_extended_half c)))) (write a) (λ x. refl))
other_uses s fetch (instrs.Immediate immediate.Addiu a b c) l m = without s fetch (instrs.Immediate immediate.Addiu a b c) refl (refl)
other_uses s fetch (instrs.Immediate immediate.Slti a b c) l m = without s fetch (instrs.Immediate immediate.Slti a b c) refl (refl)
other_uses s fetch (instrs.Immediate immediate.Sltiu a b c) l m = without s fetch (instrs.Immediate immediate.Sltiu a b c) refl (refl)
other_uses s fetch (instrs.Immediate immediate.Andi a b c) l m = without s fetch (instrs.Immediate immediate.Andi a b c) refl (refl)
other_uses s fetch (instrs.Immediate immediate.Ori a b c) l m = without s fetch (instrs.Immediate immediate.Ori a b c) refl (refl)
other_uses s fetch (instrs.Immediate immediate.Xori a b c) l m = without s fetch (instrs.Immediate immediate.Xori a b c) refl (refl)
other_uses s fetch (instrs.LoadUpper a b) l m = without s fetch (instrs.LoadUpper a b) refl (refl)
other_uses s fetch (instrs.Load op a b c) l m = absurd (l op a b c refl)
other_uses s fetch (instrs.Store op a b c) l m = absurd (m op a b c refl)
other_uses s fetch (instrs.MoveFromCop0 a b) l m = without s fetch (instrs.MoveFromCop0 a b) refl (refl)
other_uses s fetch (instrs.MoveToCop0 a b) l m = without s fetch (instrs.MoveToCop0 a b) refl (refl)
other_uses s fetch (instrs.Plain plain.Syscall) l m = without s fetch (instrs.Plain plain.Syscall) refl (refl)
other_uses s fetch (instrs.Plain plain.Break) l m = without s fetch (instrs.Plain plain.Break) refl (refl)
other_uses s fetch (instrs.Plain plain.Sync) l m = without s fetch (instrs.Plain plain.Sync) refl (refl)
other_uses s fetch (instrs.Plain plain.Tlbr) l m = without s fetch (instrs.Plain plain.Tlbr) refl (refl)
other_uses s fetch (instrs.Plain plain.Tlbwi) l m = without s fetch (instrs.Plain plain.Tlbwi) refl (refl)
other_uses s fetch (instrs.Plain plain.Tlbwr) l m = without s fetch (instrs.Plain plain.Tlbwr) refl (refl)
other_uses s fetch (instrs.Plain plain.Tlbp) l m = without s fetch (instrs.Plain plain.Tlbp) refl (refl)
other_uses s fetch (instrs.Plain plain.Rfe) l m = without s fetch (instrs.Plain plain.Rfe) refl (refl)
other_uses s fetch (instrs.Plain plain.Wait) l m = without s fetch (instrs.Plain plain.Wait) refl (refl)
other_uses s fetch (instrs.Absent unit) l m = without s fetch (instrs.Absent unit) refl (refl)
other_uses s fetch (instrs.Reserved word) l m = without s fetch (instrs.Reserved word) refl (refl)

-- the instruction of a word

referred : (p : Processor) (word : ℕ) (i : Instr) (o : Option Row) → numbers_of_instr i ≡ numbers_of word o → reference_by_some p i o ≡ reference_by_row p word o
referred p word i (Some r) numbers = ap (reference_of_row p r) numbers
referred p word i None numbers = refl

pub word_uses : (s : Scene) (fetch : Option Via) (word : ℕ) (i : Instr) →
    row_of_instr i ≡ row_that_fits word → numbers_of_instr i ≡ numbers_of word (row_that_fits word) → i ≡ instr_of word →
    uses_by s fetch i ≡ uses_of_word s fetch word
unfolding uses_of_word reference_by
word_uses s fetch word i row numbers value = λ j. record {
  fetch = fetch;
  access = ap (via_reference s.processor) (ap (reference_by_some s.processor i) row ∙ referred s.processor word i (row_that_fits word) numbers) j;
  stored = ap stored_of (decoded s word i row numbers value) j;
}

-- the opcode of a load or a store is at least 32

high : (word n : ℕ) → 32 ≤ n → bits_of word 26 6 ≡ n → word / 2 ^ 26 < 32 → ⊥
high word n least is small = omega (arith, least, is, small)

fits_of : (word : ℕ) (i : Instr) (r : Row) → instr_of word ≡ i → row_of_instr i ≡ Some r → Fits word r
fits_of word i r is row =
    row_that_fits-fits word r (sym (row_of_instr-instr_by word (row_that_fits word)) ∙ ap row_of_instr is ∙ row)

no_load : (word : ℕ) → word / 2 ^ 26 < 32 → (op : LoadOp) (rt o b : ℕ) → instr_of word ≢ instrs.Load op rt o b
no_load word small load.Byte rt o b is = high word 32 (omega arith) (fits_of word (instrs.Load load.Byte rt o b) rows.Lb is refl).0 small
no_load word small load.ByteUnsigned rt o b is = high word 36 (omega arith) (fits_of word (instrs.Load load.ByteUnsigned rt o b) rows.Lbu is refl).0 small
no_load word small load.Half rt o b is = high word 33 (omega arith) (fits_of word (instrs.Load load.Half rt o b) rows.Lh is refl).0 small
no_load word small load.HalfUnsigned rt o b is = high word 37 (omega arith) (fits_of word (instrs.Load load.HalfUnsigned rt o b) rows.Lhu is refl).0 small
no_load word small load.Word rt o b is = high word 35 (omega arith) (fits_of word (instrs.Load load.Word rt o b) rows.Lw is refl).0 small
no_load word small load.WordLeft rt o b is = high word 34 (omega arith) (fits_of word (instrs.Load load.WordLeft rt o b) rows.Lwl is refl).0 small
no_load word small load.WordRight rt o b is = high word 38 (omega arith) (fits_of word (instrs.Load load.WordRight rt o b) rows.Lwr is refl).0 small
no_load word small load.Linked rt o b is = high word 48 (omega arith) (fits_of word (instrs.Load load.Linked rt o b) rows.Ll is refl).0 small

no_store : (word : ℕ) → word / 2 ^ 26 < 32 → (op : StoreOp) (rt o b : ℕ) → instr_of word ≢ instrs.Store op rt o b
no_store word small store.Byte rt o b is = high word 40 (omega arith) (fits_of word (instrs.Store store.Byte rt o b) rows.Sb is refl).0 small
no_store word small store.Half rt o b is = high word 41 (omega arith) (fits_of word (instrs.Store store.Half rt o b) rows.Sh is refl).0 small
no_store word small store.Word rt o b is = high word 43 (omega arith) (fits_of word (instrs.Store store.Word rt o b) rows.Sw is refl).0 small
no_store word small store.WordLeft rt o b is = high word 42 (omega arith) (fits_of word (instrs.Store store.WordLeft rt o b) rows.Swl is refl).0 small
no_store word small store.WordRight rt o b is = high word 46 (omega arith) (fits_of word (instrs.Store store.WordRight rt o b) rows.Swr is refl).0 small
no_store word small store.Conditional rt o b is = high word 56 (omega arith) (fits_of word (instrs.Store store.Conditional rt o b) rows.Sc is refl).0 small

pub plain_uses : (s : Scene) (fetch : Option Via) (word : ℕ) → word / 2 ^ 26 < 32 →
    ◌≡◌ {A = Uses} (record { fetch = fetch; access = None; stored = None }) (uses_of_word s fetch word)
plain_uses s fetch word small =
    other_uses s fetch (instr_of word) (no_load word small) (no_store word small)
    ∙ word_uses s fetch word (instr_of word) (row_of_instr-instr_by word (row_that_fits word))
    (numbers_of_instr-instr_by word (row_that_fits word)) refl

-- the fetch

pub fetched_uses : (s : Scene) (word : ℕ) (fetch : Option Via) → fetch ≡ via_of s.processor (fetch_of s.processor) → executable_word s.around.memory s.processor ≡ Ok word →
    uses_of_word s fetch word ≡ uses_fetched s
unfolding uses_fetched
fetched_uses s word fetch via is = ap (λ v. uses_of_word s v word) via ∙ ap (uses_after s (via_of s.processor (fetch_of s.processor))) (sym is)

pub not_fetched_uses : (s : Scene) (f : StepFault) (fetch : Option Via) → fetch ≡ via_of s.processor (fetch_of s.processor) → executable_word s.around.memory s.processor ≡ Err f →
    ◌≡◌ {A = Uses} (record { fetch = fetch; access = None; stored = None }) (uses_fetched s)
unfolding uses_fetched
not_fetched_uses s f fetch via is =
    (λ i. record { fetch = via i; access = None; stored = None }) ∙ ap (uses_after s (via_of s.processor (fetch_of s.processor))) (sym is)

-- an address in kseg0 or kseg1 has no row
by_test : (t : Bool) (access : Access) (address at : ℕ) (p : Processor) (f : StepFault) →
    ◌≡◌ {A = Option Via} (via_in p address (if t then Err f else Ok (physical at None))) None
by_test true access address at p f = refl
by_test false access address at p f = refl

pub direct_via : (access : Access) (width address at : ℕ) (p : Processor) → unmapped address ≡ Some at → via_of p (reference access width address) ≡ None
unfolding via_of
direct_via access width address at p h = rw h (by_test (is_misaddressed width address p) access address at p _)

-- a store by kseg0 or kseg1
pub store_direct : (s : Scene) (fetch : Option Via) (op : StoreOp) (rt o b address at : ℕ) (stored : Option ℕ) →
    address_by s.processor o b ≡ address → physical_at Store (width_of_store op) address s.processor ≡ Ok at → unmapped address ≡ Some at →
    stored ≡ place_of_store op at (length s.around.memory) (is_linked s at) →
    ◌≡◌ {A = Uses} (record { fetch = fetch; access = None; stored = stored }) (uses_by s fetch (instrs.Store op rt o b))
store_direct s fetch op rt o b address at stored is h segment place =
    let here : physical_at Store (width_of_store op) (address_by s.processor o b) s.processor ≡ Ok at = ap (λ a. physical_at Store (width_of_store op) a s.processor) is ∙ h in
    let none : via_of s.processor (reference Store (width_of_store op) (address_by s.processor o b)) ≡ None =
    direct_via Store (width_of_store op) (address_by s.processor o b) at s.processor (ap unmapped is ∙ segment) in
    λ i. record {
      fetch = fetch;
      access = (sym none ∙ ap (via_reference s.processor) (sym (store_refers s.processor op rt o b))) i;
      stored = (place ∙ sym (store_place s op rt o b at here)) i;
    }

-- a Step that fetches, and one that doesn't

stored_is : (s : Scene) (w : Result ℕ StepFault) (fetch : Option Via) → ◌≡◌ {A = Uses} (record { fetch = fetch; access = via_reference s.processor (reference_after s.processor w); stored = stored_of (and_then w (change_in s)) }) (uses_after s fetch w)
unfolding uses_of_word
stored_is s (Ok word) fetch = refl
stored_is s (Err f) fetch = refl

by_fetches : (s : Scene) (t : Bool) → fetches s ≡ t → uses_of s ≡ (if t then uses_fetched s else no_uses)
unfolding uses_of uses_fetched
by_fetches s true h =
    rw (step_stored s, h) (stored_is s (executable_word s.around.memory s.processor) (via_of s.processor (fetch_of s.processor)))
by_fetches s false h = rw (step_stored s, h) refl

pub uses_if : (s : Scene) (t : Bool) → fetches s ≡ t → uses_of s ≡ (if t then uses_fetched s else no_uses)
uses_if = by_fetches

-- a fetch, by its translation

via_none : (access : Access) (width address : ℕ) (p : Processor) (f : StepFault) → translate access width address p ≡ Err f → ◌≡◌ {A = Option Via} None (via_of p (reference access width address))
unfolding via_of
via_none access width address p f h = rw h refl

pub via_some : (access : Access) (width address : ℕ) (p : Processor) (to : Physical) → translate access width address p ≡ Ok to → via_row p address to.row ≡ via_of p (reference access width address)
unfolding via_of
via_some access width address p to h = rw h refl

pub no_word_at_pc : (memory : List ℕ) (p : Processor) (f : StepFault) → physical_at Fetch 4 p.pc p ≡ Err f → executable_word memory p ≡ Err f
no_word_at_pc memory p f h = rw h refl

outside_ram : (memory : List ℕ) (p : Processor) (at : ℕ) → physical_at Fetch 4 p.pc p ≡ Ok at → nat_le (at + 4) (length memory) ≡ false → executable_word memory p ≡ Err (bus_error Fetch)
outside_ram memory p at h past = rw (h, past) refl

unusable_word : (memory : List ℕ) (p : Processor) (at : ℕ) → physical_at Fetch 4 p.pc p ≡ Ok at → nat_le (at + 4) (length memory) ≡ true → is_unusable p.control (word_at memory at) ≡ true → executable_word memory p ≡ Err (fault kind.Coprocessor0Unusable)
unusable_word memory p at h in_ram is = rw (h, in_ram, is) refl

usable_word : (memory : List ℕ) (p : Processor) (at : ℕ) → physical_at Fetch 4 p.pc p ≡ Ok at → nat_le (at + 4) (length memory) ≡ true → is_unusable p.control (word_at memory at) ≡ false → executable_word memory p ≡ Ok (word_at memory at)
usable_word memory p at h in_ram is = rw (h, in_ram, is) refl

pub elsewhere_not_located : (memory : List ℕ) (p : Processor) (a : ℕ) (f : StepFault) → a ≡ p.pc → translate Fetch 4 a p ≡ Err f → IsFetched memory p (None, None)
elsewhere_not_located memory p a f is h =
    let here : translate Fetch 4 p.pc p ≡ Err f = ap (λ x. translate Fetch 4 x p) (sym is) ∙ h in
    (via_none Fetch 4 p.pc p f here, (f, no_word_at_pc memory p f (not_located Fetch 4 p.pc p f here)))

at_pc : (p : Processor) (a : ℕ) (r : Result Physical StepFault) → a ≡ p.pc → translate Fetch 4 a p ≡ r → translate Fetch 4 p.pc p ≡ r
at_pc p a r is h = ap (λ x. translate Fetch 4 x p) (sym is) ∙ h

fetch_via : (p : Processor) (a : ℕ) (to : Physical) (via : Option Via) → a ≡ p.pc → translate Fetch 4 a p ≡ Ok to → via ≡ via_row p a to.row → via ≡ via_of p (fetch_of p)
fetch_via p a to via is h v = v ∙ ap (λ x. via_row p x to.row) is ∙ via_some Fetch 4 p.pc p to (at_pc p a (Ok to) is h)

pub elsewhere_outside : (memory : List ℕ) (p : Processor) (a : ℕ) (to : Physical) (via : Option Via) → a ≡ p.pc → translate Fetch 4 a p ≡ Ok to → via ≡ via_row p a to.row →
    nat_le (to.at + 4) (length memory) ≡ false → IsFetched memory p (via, None)
elsewhere_outside memory p a to via is h v past =
    (fetch_via p a to via is h v, (bus_error Fetch, outside_ram memory p to.at (located Fetch 4 p.pc p to (at_pc p a (Ok to) is h)) past))

pub elsewhere_unusable : (memory : List ℕ) (p : Processor) (a : ℕ) (to : Physical) (via : Option Via) → a ≡ p.pc → translate Fetch 4 a p ≡ Ok to → via ≡ via_row p a to.row →
    nat_le (to.at + 4) (length memory) ≡ true → is_unusable p.control (word_at memory to.at) ≡ true → IsFetched memory p (via, None)
elsewhere_unusable memory p a to via is h v in_ram bad =
    (fetch_via p a to via is h v, (fault kind.Coprocessor0Unusable, unusable_word memory p to.at (located Fetch 4 p.pc p to (at_pc p a (Ok to) is h)) in_ram bad))

pub elsewhere_fetched : (memory : List ℕ) (p : Processor) (a word : ℕ) (to : Physical) (via : Option Via) → a ≡ p.pc → translate Fetch 4 a p ≡ Ok to → via ≡ via_row p a to.row →
    nat_le (to.at + 4) (length memory) ≡ true → word ≡ word_at memory to.at → is_unusable p.control word ≡ false → IsFetched memory p (via, Some word)
elsewhere_fetched memory p a word to via is h v in_ram w good = (
  fetch_via p a to via is h v,
  usable_word memory p to.at (located Fetch 4 p.pc p to (at_pc p a (Ok to) is h)) in_ram (ap (is_unusable p.control) (sym w) ∙ good) ∙ ap (λ x. Ok x) (sym w),
)

pub direct_fetched : (memory : List ℕ) (p : Processor) (a at word : ℕ) → a ≡ p.pc → physical_at Fetch 4 a p ≡ Ok at → unmapped a ≡ Some at →
    nat_le (at + 4) (length memory) ≡ true → is_user p.control ≡ false → word ≡ word_at memory at → IsFetched memory p (None, Some word)
direct_fetched memory p a at word is h segment in_ram kernel w = (
  sym (direct_via Fetch 4 p.pc at p (ap unmapped (sym is) ∙ segment)),
  usable_word memory p at (ap (λ x. physical_at Fetch 4 x p) (sym is) ∙ h) in_ram (in_kernel_mode p.control (word_at memory at) kernel) ∙ ap (λ x. Ok x) (sym w),
)

-- what a Step uses, by its fetch

pub fetched_by : (s : Scene) (x : Option Via × Option ℕ) (word : ℕ) (u : Uses) → IsFetched s.around.memory s.processor x → x.1 ≡ Some word → u ≡ uses_of_word s x.0 word → u ≡ uses_fetched s
fetched_by s x word u f w is =
    let here : executable_word s.around.memory s.processor ≡ Ok word = subst (IsWord (executable_word s.around.memory s.processor)) w f.1 in
    is ∙ fetched_uses s word x.0 f.0 here

pub not_fetched_by : (s : Scene) (x : Option Via × Option ℕ) → IsFetched s.around.memory s.processor x → x.1 ≡ None →
    ◌≡◌ {A = Uses} (record { fetch = x.0; access = None; stored = None }) (uses_fetched s)
not_fetched_by s x f w =
    let here : (g : StepFault) × (executable_word s.around.memory s.processor ≡ Err g) = subst (IsWord (executable_word s.around.memory s.processor)) w f.1 in
    not_fetched_uses s here.0 x.0 f.0 here.1

pub fetching : (s : Scene) (u : Uses) → fetches s ≡ true → u ≡ uses_fetched s → u ≡ uses_of s
fetching s u h is = is ∙ sym (uses_if s true h)

pub not_fetching : (s : Scene) → fetches s ≡ false → ◌≡◌ {A = Uses} no_uses (uses_of s)
not_fetching s h = sym (uses_if s false h)

-- a Step that gets no physical address through a row

pub direct_by_word : (s : Scene) (word : ℕ) (o : Option (Option ℕ)) → IsFetched s.around.memory s.processor (None, Some word) →
    IfSome o (λ stored. stores_only stored ≡ uses_of_word s None word) → IfSome o (λ stored. stores_only stored ≡ uses_fetched s)
direct_by_word s word (Some stored) f is = fetched_by s (None, Some word) word (stores_only stored) f refl is
direct_by_word s word None f is = is

pub direct_by_instr : (s : Scene) (word : ℕ) (i : Instr) (o : Option (Option ℕ)) →
    row_of_instr i ≡ row_that_fits word → numbers_of_instr i ≡ numbers_of word (row_that_fits word) → i ≡ instr_of word →
    IfSome o (λ stored. stores_only stored ≡ uses_by s None i) → IfSome o (λ stored. stores_only stored ≡ uses_of_word s None word)
direct_by_instr s word i (Some stored) row numbers value is = is ∙ word_uses s None word i row numbers value
direct_by_instr s word i None row numbers value is = is

pub direct_load : (s : Scene) (op : LoadOp) (rt o b at : ℕ) → unmapped (address_by s.processor o b) ≡ Some at →
    stores_only None ≡ uses_by s None (instrs.Load op rt o b)
direct_load s op rt o b at is =
    load_uses s None op rt o b None (sym (direct_via Load (width_of_load op) (address_by s.processor o b) at s.processor is))
