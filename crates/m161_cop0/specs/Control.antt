use Rattle.std.specs.Prelude.{ℕ, ◌+◌, ◌*◌, ◌/◌, ◌%◌, ◌^◌, Bool, false, not, ◌==◌, ◌&&◌, ◌||◌, bit_and, bit_or, if◌then◌else◌, Option, None, Some}
use Rattle.m161_isa.specs.Bits.{bits_of, has_bit}
use Rattle.m161_cop0.specs.declared.cause.CauseParts.{CauseParts}
use Rattle.m161_cop0.specs.declared.register.Register.{Register}
use Rattle.m161_cop0.specs.declared.register.Register.TheVariants as register
use Rattle.m161_cop0.specs.Registers.{register_with}

-- The registers of coprocessor 0, and how they are read and written. Kane, MIPS RISC Architecture,
-- "System control coprocessor"; which bits a write keeps, the timer and PRId are this project's
-- own.

-- the registers; Cause in parts, since the board's lines are a part of it
pub record Control : Type 0 where
  pub index : ℕ
  -- the row's number, 8 to 63
  pub random : ℕ
  pub entry_lo : ℕ
  pub context : ℕ
  pub bad_vaddr : ℕ
  pub count : ℕ
  pub entry_hi : ℕ
  pub compare : ℕ
  pub status : ℕ
  pub epc : ℕ
  -- of Cause: BD, CE, ExcCode, the timer's bit of IP and software's two
  pub branch_delay : Bool
  pub unit : ℕ
  pub code : ℕ
  pub timer : Bool
  pub software : ℕ
  -- the ticks since the start
  pub age : ℕ

-- at a start
abbrev pub control_at_start : Control
control_at_start = record {
  index = 0;
  random = 63;
  entry_lo = 0;
  context = 0;
  bad_vaddr = 0;
  count = 0;
  entry_hi = 0;
  compare = 0;
  status = 0;
  epc = 0;
  branch_delay = false;
  unit = 0;
  code = 0;
  timer = false;
  software = 0;
  age = 0;
}

-- bit n of a word, if a test holds
abbrev pub bit : ℕ → Bool → ℕ
bit n test = if test then 2 ^ n else 0

-- the bits of IP that aren't the board's, in their places of Cause: the timer's and software's two
abbrev pub internal_ip_of : Bool → ℕ → ℕ
internal_ip_of timer software = bit 15 timer + software * 2 ^ 8

-- IP in its places of Cause: those, and the board's lines
abbrev pub ip_of : ℕ → Control → ℕ
ip_of lines c = bit_or (internal_ip_of c.timer c.software) lines

-- IM of Status in the same places
abbrev pub im_of : ℕ → ℕ
im_of status = bits_of status 8 8 * 2 ^ 8

-- IM if IEc is set, else zero: the mask that the code caches
abbrev pub enabled_im_of : ℕ → ℕ
enabled_im_of status = if has_bit status 0 then im_of status else 0

-- an interrupt is up and not masked, whatever IEc is
unfoldable pub is_pending : ℕ → Control → Bool
is_pending lines c = not (bit_and (ip_of lines c) (im_of c.status) == 0)

-- IEc is set too
unfoldable pub is_interrupted : ℕ → Control → Bool
is_interrupted lines c = has_bit c.status 0 && is_pending lines c

-- the timer will interrupt: Status lets its interrupt through, and Compare is set
unfoldable pub expects_timer : Control → Bool
expects_timer c = has_bit c.status 15 && not (c.compare == 0)

-- KUc: user mode
unfoldable pub is_user : Control → Bool
is_user c = has_bit c.status 1

-- coprocessor 0 may be used: in kernel mode, or with CU0
unfoldable pub may_use_cop0 : Control → Bool
may_use_cop0 c = not (is_user c) || has_bit c.status 28

-- EntryHi's identifier
abbrev pub identifier_of : Control → ℕ
identifier_of c = bits_of c.entry_hi 6 6

-- Index's row
abbrev pub index_row_of : Control → ℕ
index_row_of c = bits_of c.index 8 6

-- its parts beside the board's lines
abbrev pub cause_parts_of : Control → CauseParts
cause_parts_of c = record {
  branch_delay = c.branch_delay;
  unit = c.unit;
  code = c.code;
  timer = c.timer;
  software = c.software;
}

-- Cause
abbrev pub cause_of : ℕ → Control → ℕ
cause_of lines c =
    bit 31 c.branch_delay + c.unit * 2 ^ 28 + bits_of (ip_of lines c) 8 8 * 2 ^ 8 + c.code * 2 ^ 2

-- the word of a register
abbrev pub register_word : Register → ℕ → Control → ℕ
register_word register.Index lines c = c.index
register_word register.Random lines c = c.random * 2 ^ 8
register_word register.EntryLo lines c = c.entry_lo
register_word register.Context lines c = c.context
register_word register.BadVaddr lines c = c.bad_vaddr
register_word register.Count lines c = c.count
register_word register.EntryHi lines c = c.entry_hi
register_word register.Compare lines c = c.compare
register_word register.Status lines c = c.status
register_word register.Cause lines c = cause_of lines c
register_word register.Epc lines c = c.epc
register_word register.Prid lines c = 0xa1

abbrev pub register_word_or_zero : Option Register → ℕ → Control → ℕ
register_word_or_zero None lines c = 0
register_word_or_zero (Some r) lines c = register_word r lines c

-- `mfc0`: the word of a register number; a number without a register reads zero
unfoldable pub read_of : ℕ → ℕ → Control → ℕ
read_of number lines c = register_word_or_zero (register_with number) lines c

-- a write of a register: the bits that it keeps, and what else it does
abbrev pub with_register_word : Register → ℕ → Control → Control
with_register_word register.Index word c = record c { index = bit_and word 0x80003f00 }
with_register_word register.Random word c = c
with_register_word register.EntryLo word c = record c { entry_lo = bit_and word 0xffffff00 }
with_register_word register.Context word c =
    record c { context = word / 2 ^ 21 * 2 ^ 21 + c.context % 2 ^ 21 }
with_register_word register.BadVaddr word c = c
with_register_word register.Count word c = record c { count = word }
with_register_word register.EntryHi word c = record c { entry_hi = bit_and word 0xffffffc0 }
with_register_word register.Compare word c = record c { compare = word; count = 0; timer = false }
with_register_word register.Status word c = record c { status = bit_and word 0xf040ff3f }
with_register_word register.Cause word c = record c { software = bits_of word 8 2 }
with_register_word register.Epc word c = c
with_register_word register.Prid word c = c

abbrev pub with_some_register_word : Option Register → ℕ → Control → Control
with_some_register_word None word c = c
with_some_register_word (Some r) word c = with_register_word r word c

-- `mtc0`: a write of a register number; a number without a register ignores it
unfoldable pub after_write : ℕ → ℕ → Control → Control
after_write number word c = with_some_register_word (register_with number) word c

-- `tlbr`: a row's two words
abbrev pub with_tlb_row : ℕ → ℕ → Control → Control
with_tlb_row hi lo c = record c { entry_hi = hi; entry_lo = lo }

-- `tlbp`: the row that was found, or P
abbrev pub with_probe : Option ℕ → Control → Control
with_probe None c = record c { index = 0x80000000 }
with_probe (Some row) c = record c { index = row % 2 ^ 6 * 2 ^ 8 }
