use Rattle.std.specs.Prelude.{Bool, true, false}
use Rattle.std.proofs.Common.{◌≡◌, ℕ, refl}
use Rattle.m161_cop0.specs.declared.exception.Exception.TheVariants as exception
use Rattle.m161_cop0.specs.declared.trap.Trap.{Trap}
use Rattle.m161_cop0.specs.Control.{Control, control_at_start, read_of, after_write, is_pending, is_interrupted}
use Rattle.m161_cop0.specs.Trap.{after_trap, vector_of}
use Rattle.m161_cop0.specs.Clock.{after_tick, after_ticks}

-- Worked values of the definitions, by computation.

-- a user load of 00401234 without a row, EntryHi's identifier 5
abbrev miss : Bool → ℕ → Trap
miss slot pc = record {
  code = exception.TlbLoad;
  unit = 0;
  user_miss = true;
  pc = pc;
  slot = slot;
  address = 0x00401234;
}

abbrev with_identifier_5 : Control
with_identifier_5 = after_write 10 0x00000140 control_at_start

abbrev missed : Control
missed = after_trap (miss false 0x00400000) with_identifier_5

miss-badvaddr : read_of 8 0 missed ≡ 0x00401234
unfolding read_of after_write after_trap vector_of after_tick is_pending is_interrupted
miss-badvaddr = refl

miss-entryhi : read_of 10 0 missed ≡ 0x00401140
unfolding read_of after_write after_trap vector_of after_tick is_pending is_interrupted
miss-entryhi = refl

miss-context : read_of 4 0 missed ≡ 0x00001004
unfolding read_of after_write after_trap vector_of after_tick is_pending is_interrupted
miss-context = refl

miss-vector : vector_of (miss false 0x00400000) with_identifier_5 ≡ 0x80000000
unfolding read_of after_write after_trap vector_of after_tick is_pending is_interrupted
miss-vector = refl

-- the same in the slot of a branch at 80000300
slot-epc : read_of 14 0 (after_trap (miss true 0x80000304) control_at_start) ≡ 0x80000300
unfolding read_of after_write after_trap vector_of after_tick is_pending is_interrupted
slot-epc = refl

slot-cause : read_of 13 0 (after_trap (miss true 0x80000304) control_at_start) ≡ 0x80000008
unfolding read_of after_write after_trap vector_of after_tick is_pending is_interrupted
slot-cause = refl

-- the pairs of Status
status-entered : read_of 12 0 (after_trap (miss false 0) (after_write 12 0x0000000f control_at_start)) ≡ 0x0000003c
unfolding read_of after_write after_trap vector_of after_tick is_pending is_interrupted
status-entered = refl

-- 5 written to Compare: Count is 1 after that Step, and 0 with the timer's bit after four more
compare-first : read_of 9 0 (after_tick (after_write 11 5 control_at_start)) ≡ 1
unfolding read_of after_write after_trap vector_of after_tick is_pending is_interrupted
compare-first = refl

compare-count : read_of 9 0 (after_ticks 5 (after_write 11 5 control_at_start)) ≡ 0
unfolding read_of after_write after_trap vector_of after_tick is_pending is_interrupted
compare-count = refl

compare-cause : read_of 13 0 (after_ticks 5 (after_write 11 5 control_at_start)) ≡ 0x00008000
unfolding read_of after_write after_trap vector_of after_tick is_pending is_interrupted
compare-cause = refl

-- Random after 55, 56 and 57 ticks
random-55 : read_of 1 0 (after_ticks 55 control_at_start) ≡ 0x00000800
unfolding read_of after_write after_trap vector_of after_tick is_pending is_interrupted
random-55 = refl

random-56 : read_of 1 0 (after_ticks 56 control_at_start) ≡ 0x00003f00
unfolding read_of after_write after_trap vector_of after_tick is_pending is_interrupted
random-56 = refl

random-57 : read_of 1 0 (after_ticks 57 control_at_start) ≡ 0x00003e00
unfolding read_of after_write after_trap vector_of after_tick is_pending is_interrupted
random-57 = refl

-- the board's lines in Cause; a line that isn't masked is pending with IEc 0, and interrupts with IEc 1
lines-cause : read_of 13 0x800 (after_ticks 5 (after_write 11 5 control_at_start)) ≡ 0x00008800
unfolding read_of after_write after_trap vector_of after_tick is_pending is_interrupted
lines-cause = refl

line-pending : is_pending 0x800 (after_write 12 0x00000800 control_at_start) ≡ true
unfolding read_of after_write after_trap vector_of after_tick is_pending is_interrupted
line-pending = refl

line-waits : is_interrupted 0x800 (after_write 12 0x00000800 control_at_start) ≡ false
unfolding read_of after_write after_trap vector_of after_tick is_pending is_interrupted
line-waits = refl

line-interrupts : is_interrupted 0x800 (after_write 12 0x00000801 control_at_start) ≡ true
unfolding read_of after_write after_trap vector_of after_tick is_pending is_interrupted
line-interrupts = refl
