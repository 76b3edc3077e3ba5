use Rattle.std.specs.Prelude.{ℕ, ◌+◌, ◌%◌, ◌^◌, Bool, true, false, not, nat_lt, ◌==◌, ◌&&◌, ◌||◌, bit_and, if◌then◌else◌, List, [], ◌∷◌, ◌++◌, length, drop, Option, None, Some, Result, Ok, Err}
use Rattle.m161_bus.specs.declared.irq.IrqBits.{IrqBits}
use Rattle.m161_bus.specs.declared.console.ConsoleRegister.{ConsoleRegister}
use Rattle.m161_bus.specs.declared.console.ConsoleRegister.TheVariants.{Char, WriteIrq, ReadIrq}
use Rattle.m161_bus.specs.declared.console.KeyFull.{KeyFull}
use Rattle.m161_bus.specs.declared.console.DoneError.{DoneError}
use Rattle.m161_bus.specs.declared.console.DoneError.TheVariants.{NothingSent}

-- The console. Its registers and bits are the System/161 manual's in outline; what each does is
-- this project's own.

-- the state of a console
pub record ConsoleState : Type 0 where
  -- bytes that were typed and not read yet, the oldest first
  pub waiting : List ℕ
  -- the byte that is being sent
  pub latch : Option ℕ
  -- the bytes that were sent
  pub output : List ℕ
  pub write_irq : IrqBits
  -- ENABLE and FORCE of RIRQ
  pub read_enable : Bool
  pub read_force : Bool

abbrev pub console_at_boot : ConsoleState
console_at_boot = record {
  waiting = [];
  latch = None;
  output = [];
  write_irq = record { enable = false; active = false; force = false };
  read_enable = false;
  read_force = false;
}

-- the bits of an interrupt register as a word: ENABLE 1, ACTIVE 2, FORCE 4
abbrev pub irq_word : IrqBits → ℕ
irq_word bits =
    (if bits.enable then 1 else 0) + (if bits.active then 2 else 0) + (if bits.force then 4 else 0)

abbrev pub has_flag : ℕ → ℕ → Bool
has_flag word bit = not (bit_and word bit == 0)

abbrev pub irq_bits : ℕ → IrqBits
irq_bits word =
    record { enable = has_flag word 1; active = has_flag word 2; force = has_flag word 4 }

-- an interrupt register raises the line
abbrev pub is_up : IrqBits → Bool
is_up bits = bits.enable && (bits.active || bits.force)

abbrev pub bytes_wait : List ℕ → Bool
bytes_wait [] = false
bytes_wait (byte ∷ rest) = true

-- RIRQ: its ACTIVE says that bytes wait
abbrev pub read_irq : ConsoleState → IrqBits
read_irq s = record { enable = s.read_enable; active = bytes_wait s.waiting; force = s.read_force }

abbrev pub is_line_up : ConsoleState → Bool
is_line_up s = is_up s.write_irq || is_up (read_irq s)

-- the first of these bytes, or 0
abbrev pub oldest : List ℕ → ℕ
oldest [] = 0
oldest (byte ∷ rest) = byte

-- the word that a read of a register gives
abbrev pub console_read : ConsoleRegister → ConsoleState → ℕ
console_read Char s = oldest s.waiting
console_read WriteIrq s = irq_word s.write_irq
console_read ReadIrq s = irq_word (read_irq s)

-- reading CHAR removes the byte
abbrev pub after_console_read : ConsoleRegister → ConsoleState → ConsoleState
after_console_read Char s = record s { waiting = drop 1 s.waiting }
after_console_read WriteIrq s = s
after_console_read ReadIrq s = s

-- a byte goes into the latch if that is free, else it is dropped
abbrev pub latch_with : ℕ → Option ℕ → Option ℕ
latch_with byte None = Some byte
latch_with byte (Some other) = Some other

-- the console after a word is written to a register
abbrev pub console_written : ConsoleRegister → ℕ → ConsoleState → ConsoleState
console_written Char word s = record s { latch = latch_with (word % 2 ^ 8) s.latch }
console_written WriteIrq word s = record s { write_irq = irq_bits word }
console_written ReadIrq word s =
    record s { read_enable = has_flag word 1; read_force = has_flag word 4 }

-- a typed byte waits; at most 256 bytes wait
abbrev pub with_key : ℕ → ConsoleState → Result ConsoleState KeyFull
with_key byte s =
    if nat_lt (length s.waiting) 256
    then Ok (record s { waiting = s.waiting ++ byte ∷ [] })
    else Err (record {})

-- the console after a byte is sent: it is the output's last, the latch is free, and WIRQ is active
abbrev pub after_sending : ℕ → ConsoleState → ConsoleState
after_sending byte s = record s {
  latch = None;
  output = s.output ++ byte ∷ [];
  write_irq = record s.write_irq { active = true };
}

-- the byte in the latch is sent
abbrev pub done_from : Option ℕ → ConsoleState → Result ConsoleState DoneError
done_from None s = Err NothingSent
done_from (Some byte) s = Ok (after_sending byte s)

abbrev pub done_of : ConsoleState → Result ConsoleState DoneError
done_of s = done_from s.latch s
