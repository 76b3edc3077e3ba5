use Rattle.std.specs.Prelude.{[], ◌∷◌, replicate, Bool, true, false, Option, None, Some, Result, Ok, Err}
use Rattle.std.proofs.Common.{◌≡◌, ℕ, refl}
use Rattle.m161_bus.specs.declared.console.ConsoleRegister.TheVariants.{Char, WriteIrq}
use Rattle.m161_bus.specs.declared.console.DoneError.TheVariants.{NothingSent}
use Rattle.m161_bus.specs.declared.board.BusFault.{BusFault}
use Rattle.m161_bus.specs.Console.{ConsoleState, console_at_boot, console_read, console_written, with_key, done_of}
use Rattle.m161_bus.specs.Registers.{register_of}
use Rattle.m161_bus.specs.Board.{BoardState, board_at_boot, board_read, board_written, board_done, interrupt_lines, start_words}

-- Worked values of the definitions, by computation.

-- the state that a call leaves, where it isn't refused
abbrev state_or : {S E : Type 0} → S → Result S E → S
state_or old (Ok new) = new
state_or old (Err e) = old

abbrev is_accepted : {S E : Type 0} → Result S E → Bool
is_accepted (Ok s) = true
is_accepted (Err e) = false

-- a console in which n bytes wait
abbrev with_waiting : ℕ → ConsoleState
with_waiting n = record console_at_boot { waiting = replicate n 0x41 }

-- the 256th byte is accepted, the 257th isn't
last-key : is_accepted (with_key 0x41 (with_waiting 255)) ≡ true
last-key = refl

key-too-many : is_accepted (with_key 0x41 (with_waiting 256)) ≡ false
key-too-many = refl

-- no byte waits
char-at-boot : console_read Char console_at_boot ≡ 0
char-at-boot = refl

-- 41 and then 42 written to CHAR: the latch keeps the first byte
abbrev after_two_writes : ConsoleState
after_two_writes = console_written Char 0x42 (console_written Char 0x41 console_at_boot)

-- once it is sent WIRQ is active, and the latch is free
abbrev after_done : ConsoleState
after_done = state_or after_two_writes (done_of after_two_writes)

sent-first : after_done.output ≡ 0x41 ∷ []
sent-first = refl

sent-active : console_read WriteIrq after_done ≡ 2
sent-active = refl

sent-once : done_of after_done ≡ Err NothingSent
sent-once = refl

-- 1 MB of RAM and two processors
abbrev board : BoardState
board = board_at_boot 0x100000 2 console_at_boot

-- a word written where it can be
abbrev after : ℕ → ℕ → BoardState → BoardState
after address word b = state_or b (board_written 0 address word b)

-- what a processor reads
abbrev word_in : Result (ℕ × BoardState) BusFault → Option ℕ
word_in (Ok read) = Some read.0
word_in (Err fault) = None

abbrev reads : ℕ → ℕ → BoardState → Option ℕ
reads c address b = word_in (board_read c address b)

-- the controller's device number
device : reads 0 0x1fff7c04 board ≡ Some 10
unfolding board_read register_of
device = refl

-- addresses that aren't those of a word of the slots
below-slots : reads 0 0x00100000 board ≡ None
unfolding board_read register_of
below-slots = refl

misaligned : reads 0 0x1fff7c06 board ≡ None
unfolding board_read register_of
misaligned = refl

past-slots : reads 0 0x20000000 board ≡ None
unfolding board_read register_of
past-slots = refl

-- sending enabled, 41 sent
abbrev interrupting : BoardState
interrupting =
    let b = after 0x1fe00000 0x41 (after 0x1fe00004 1 board) in
    state_or b (board_done b)

interrupting-wirq : reads 0 0x1fe00004 interrupting ≡ Some 3
unfolding board_read board_written register_of
interrupting-wirq = refl

interrupting-irqs : reads 0 0x1fff7e04 interrupting ≡ Some 1
unfolding board_read board_written register_of
interrupting-irqs = refl

interrupting-first : interrupt_lines 0 interrupting ≡ 0x400
unfolding interrupt_lines board_written register_of
interrupting-first = refl

interrupting-second : interrupt_lines 1 interrupting ≡ 0
unfolding interrupt_lines board_written register_of
interrupting-second = refl

-- WIRQ written again: sending no longer interrupts
abbrev after_rewrite : BoardState
after_rewrite = after 0x1fe00004 1 interrupting

rewritten-wirq : reads 0 0x1fe00004 after_rewrite ≡ Some 1
unfolding board_read board_written register_of
rewritten-wirq = refl

rewritten-irqs : reads 0 0x1fff7e04 after_rewrite ≡ Some 0
unfolding board_read board_written register_of
rewritten-irqs = refl

rewritten-lines : interrupt_lines 0 after_rewrite ≡ 0
unfolding interrupt_lines board_written register_of
rewritten-lines = refl

-- processor 0 raises processor 1's CIPI, and drops it
abbrev after_raise : BoardState
after_raise = after 0x1fff8404 1 board

abbrev after_drop : BoardState
after_drop = after 0x1fff8404 0 after_raise

raised-second : interrupt_lines 1 after_raise ≡ 0x800
unfolding interrupt_lines board_written register_of
raised-second = refl

raised-first : interrupt_lines 0 after_raise ≡ 0
unfolding interrupt_lines board_written register_of
raised-first = refl

dropped : interrupt_lines 1 after_drop ≡ 0
unfolding interrupt_lines board_written register_of
dropped = refl

-- the end of processor 1's CRAM in kseg1, and its bit in SELF
stack : (start_words 1 board).r29 ≡ 0xbfff8800
stack = refl

self : reads 1 0x1fff7e18 board ≡ Some 2
unfolding board_read register_of
self = refl

-- processor 1 is started, and 0 stays so; there is no processor 2
started : reads 0 0x1fff7e14 (after 0x1fff7e14 6 board) ≡ Some 3
unfolding board_read board_written register_of
started = refl

not-stopped : reads 0 0x1fff7e14 (after 0x1fff7e14 0 board) ≡ Some 1
unfolding board_read board_written register_of
not-stopped = refl

-- switched off
switched-off : (after 0x1fff7e08 0 board).off ≡ true
unfolding board_written register_of
switched-off = refl
