use Rattle.std.specs.Prelude.{◌≡◌, ℕ, ◌+◌, ◌-◌, ◌*◌, ◌^◌, ◌<◌, Bool, true, false, not, ◌==◌, bit_and, bit_or, if◌then◌else◌, List, replicate, slice_index, slice_set, Option, None, Some, Result, Ok, Err}
use Rattle.std.specs.List.{slice_index_or}
use Rattle.m161_bus.specs.declared.board.BusFault.{BusFault}
use Rattle.m161_bus.specs.declared.board.StartWords.{StartWords}
use Rattle.m161_bus.specs.declared.console.KeyFull.{KeyFull}
use Rattle.m161_bus.specs.declared.console.DoneError.{DoneError}
use Rattle.m161_bus.specs.declared.register.Register.{Register}
use Rattle.m161_bus.specs.declared.register.BoardWord.{BoardWord}
use Rattle.m161_bus.specs.declared.register.BoardWord.TheVariants as words
use Rattle.m161_bus.specs.declared.console.ConsoleRegister.TheVariants as consoles
use Rattle.m161_bus.specs.declared.register.Register.TheVariants.{Constant, Console, RamSize, Irqs, Power, Irqe, Cpus, Cpue, SelfBit, Cirqe, Cipi, Cram}
use Rattle.m161_bus.specs.Console.{ConsoleState, console_read, after_console_read, console_written, is_line_up, with_key, done_of}
use Rattle.m161_bus.specs.Registers.{register_of}

-- The board: its state, what a read of each register gives, and what a write changes. The parts are
-- those of the System/161 manual; what each word does is this project's own.

-- what the controller keeps for one processor
pub record PlaceState : Type 0 where
  pub cirqe : ℕ
  -- CIPI was last written with a word that isn't zero
  pub cipi : Bool
  -- 64 words
  pub cram : List ℕ

abbrev pub place_at_boot : ℕ → PlaceState
place_at_boot cirqe = record { cirqe = cirqe; cipi = false; cram = replicate 64 0 }

pub record BoardState : Type 0 where
  -- bytes of RAM
  pub ram : ℕ
  -- how many processors there are
  pub processors : ℕ
  pub irqe : ℕ
  -- bit c is set if processor c was started
  pub started : ℕ
  pub off : Bool
  -- a place for each of 32 processors; those of processors that don't exist stay as at boot
  pub places : List PlaceState
  pub console : ConsoleState

-- what contracts see of a board: its state; and what is no part of it: its console's room, that is
-- how many bytes the console can send before memory is needed again, and whether a processor may have
-- changed the state since this was last asked
pub record BoardValue : Type 0 where
  pub state : BoardState
  pub room : ℕ
  pub changed : Bool

-- processor 0 is started, and gets every line; the others get none
abbrev pub board_at_boot : ℕ → ℕ → ConsoleState → BoardState
board_at_boot ram processors console = record {
  ram = ram;
  processors = processors;
  irqe = 0xffffffff;
  started = 1;
  off = false;
  places = slice_set (replicate 32 (place_at_boot 0)) 0 (place_at_boot 0xffffffff);
  console = console;
}

abbrev pub place_of : ℕ → BoardState → PlaceState
place_of p b = slice_index_or b.places p (place_at_boot 0)

abbrev pub with_place : ℕ → PlaceState → BoardState → BoardState
with_place p place b = record b { places = slice_set b.places p place }

-- IRQS: the slots whose line is up; only the console in slot 0 has a line
abbrev pub irqs_with : ConsoleState → ℕ
irqs_with console = if is_line_up console then 1 else 0

abbrev pub irqs : BoardState → ℕ
irqs b = irqs_with b.console

-- the bits of IRQS that IRQE lets through
abbrev pub irqs_through : ℕ → ConsoleState → ℕ
irqs_through irqe console = bit_and (irqs_with console) irqe

-- CPUS: a bit for each processor
abbrev pub cpus : BoardState → ℕ
cpus b = 2 ^ b.processors - 1

-- the lines of a processor, if IRQE lets these bits of IRQS through
abbrev pub lines_at : ℕ → PlaceState → ℕ
lines_at through place =
    (if bit_and through place.cirqe == 0 then 0 else 0x400) + (if place.cipi then 0x800 else 0)

-- the lines of processor c, as bits of Cause's IP
unfoldable pub interrupt_lines : ℕ → BoardState → ℕ
interrupt_lines c b = lines_at (irqs_through b.irqe b.console) (place_of c b)

-- the word that processor c reads from a register
abbrev pub slot_word : ℕ → Register → BoardState → ℕ
slot_word c (Constant word) b = word
slot_word c (Console register) b = console_read register b.console
slot_word c RamSize b = b.ram
slot_word c Irqs b = irqs b
slot_word c Power b = 0
slot_word c Irqe b = b.irqe
slot_word c Cpus b = cpus b
slot_word c Cpue b = b.started
slot_word c SelfBit b = 2 ^ c
slot_word c (Cirqe p) b = (place_of p b).cirqe
slot_word c (Cipi p) b = if (place_of p b).cipi then 1 else 0
slot_word c (Cram p i) b = slice_index (place_of p b).cram i

-- the register of a word that an event can change
abbrev pub register_of_word : BoardWord → Register
register_of_word words.WriteIrq = Console consoles.WriteIrq
register_of_word words.ReadIrq = Console consoles.ReadIrq
register_of_word words.Irqe = Irqe
register_of_word words.Cpue = Cpue
register_of_word (words.Cirqe p) = Cirqe p
register_of_word (words.Cipi p) = Cipi p
register_of_word (words.Cram p i) = Cram p i

-- such a word, as any processor would read it
abbrev pub shown_word : BoardWord → BoardState → ℕ
shown_word word b = slot_word 0 (register_of_word word) b

-- the processor of such a word exists, and so does the word of its CRAM
abbrev pub IsShown : ℕ → BoardWord → Type 0
IsShown processors words.WriteIrq = Unit {0}
IsShown processors words.ReadIrq = Unit {0}
IsShown processors words.Irqe = Unit {0}
IsShown processors words.Cpue = Unit {0}
IsShown processors (words.Cirqe p) = p < processors
IsShown processors (words.Cipi p) = p < processors
IsShown processors (words.Cram p i) = (p < processors) × (i < 64)

-- reading changes only the console
abbrev pub after_read : Register → BoardState → BoardState
after_read (Console register) b = record b { console = after_console_read register b.console }
after_read other b = b

-- the board after the machine is switched off
abbrev pub switched_off : BoardState → BoardState
switched_off b = record b { off = true }

-- the board after a word is written to a register
abbrev pub with_slot_word : Register → ℕ → BoardState → BoardState
with_slot_word (Constant word) value b = b
with_slot_word (Console register) value b =
    record b { console = console_written register value b.console }
with_slot_word RamSize value b = b
with_slot_word Irqs value b = b
with_slot_word Power value b = switched_off b
with_slot_word Irqe value b = record b { irqe = value }
with_slot_word Cpus value b = b
-- the existing processors with a bit are started; a zero bit stops none
with_slot_word Cpue value b = record b { started = bit_or b.started (bit_and value (cpus b)) }
with_slot_word SelfBit value b = b
with_slot_word (Cirqe p) value b = with_place p (record (place_of p b) { cirqe = value }) b
with_slot_word (Cipi p) value b = with_place p (record (place_of p b) { cipi = not (value == 0) }) b
with_slot_word (Cram p i) value b =
    with_place p (record (place_of p b) { cram = slice_set (place_of p b).cram i value }) b

abbrev pub read_from : ℕ → Option Register → BoardState → Result (ℕ × BoardState) BusFault
read_from c None b = Err (record {})
read_from c (Some register) b = Ok (slot_word c register b, after_read register b)

abbrev pub slot_written : Option Register → ℕ → BoardState → Result BoardState BusFault
slot_written None value b = Err (record {})
slot_written (Some register) value b = Ok (with_slot_word register value b)

-- the word that processor c reads at a physical address, and the board after it; or a bus fault
unfoldable pub board_read : ℕ → ℕ → BoardState → Result (ℕ × BoardState) BusFault
board_read c address b = read_from c (register_of b.processors address) b

-- the board after processor c wrote a word there; or a bus fault. No register depends on which
-- processor writes
unfoldable pub board_written : ℕ → ℕ → ℕ → BoardState → Result BoardState BusFault
board_written c address value b = slot_written (register_of b.processors address) value b

-- the board after an event of its console
abbrev pub with_console : {E : Type 0} → Result ConsoleState E → BoardState → Result BoardState E
with_console (Ok console) b = Ok (record b { console = console })
with_console (Err refusal) b = Err refusal

-- a byte is typed; the byte in the latch is sent
abbrev pub board_key : ℕ → BoardState → Result BoardState KeyFull
board_key byte b = with_console (with_key byte b.console) b

abbrev pub board_done : BoardState → Result BoardState DoneError
board_done b = with_console (done_of b.console) b

-- how a processor starts: at CRAM word 0, with CRAM word 1 in register 4 and the end of its CRAM in
-- register 29
abbrev pub start_words : ℕ → BoardState → StartWords
start_words c b = record {
  pc = slice_index (place_of c b).cram 0;
  r4 = slice_index (place_of c b).cram 1;
  r29 = 0xbfff8000 + c * 0x400 + 0x400;
}

-- the result of a read, and the board after it
abbrev pub ReadsSlot :
    Result (ℕ × BoardState) BusFault → BoardState → Result ℕ BusFault → BoardState → Type 0
ReadsSlot (Ok read) old (Ok word) new = (word ≡ read.0) × (new ≡ read.1)
ReadsSlot (Ok read) old (Err e) new = ⊥
ReadsSlot (Err fault) old (Ok word) new = ⊥
ReadsSlot (Err fault) old (Err e) new = new ≡ old

-- the number of processors and the size of RAM stay
abbrev pub KeepsSize : BoardState → BoardState → Type 0
KeepsSize old new = (new.ram ≡ old.ram) × (new.processors ≡ old.processors)

-- where no change is noted there is none, and none was noted before
abbrev pub NotesChange : BoardValue → BoardValue → Type 0
NotesChange old new = new.changed ≡ false → (new.state ≡ old.state) × (old.changed ≡ false)

-- what a processor does to a board: sizes and the console's room stay, and a change is noted
abbrev pub IsUsed : BoardValue → BoardValue → Type 0
IsUsed old new =
    KeepsSize old.state new.state × (new.room ≡ old.room) × NotesChange old new

-- the kept lines are those of each place
abbrev pub KeepsLines : List ℕ → ℕ → List PlaceState → Type 0
KeepsLines lines through places =
    (c : ℕ) → c < 32
    → slice_index lines c ≡ lines_at through (slice_index_or places c (place_at_boot 0))
