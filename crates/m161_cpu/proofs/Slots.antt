use Rattle.std.proofs.Common.{◌≡◌, refl, ℕ, ◌+◌, false, List, length, Result, Ok, Err}
use Rattle.std.specs.Prelude.{nat_le}
use Rattle.m161_bus.specs.declared.board.BusFault.{BusFault}
use Rattle.m161_bus.specs.Board.{BoardState, ReadsSlot, board_read}
use Rattle.m161_cpu.specs.declared.fault.Access.TheVariants.{Load}
use Rattle.m161_cpu.specs.Processor.{Processor}
use Rattle.m161_cpu.specs.Translation.{bus_error, or_bus_error, physical_at, read_word}

-- a word of the slots that isn't there is a bus error, and leaves the board as it was
pub not_read : (r : Result (ℕ × BoardState) BusFault) (old new : BoardState) (e : BusFault)
    → ReadsSlot r old (Err e) new →
    (or_bus_error Load r ≡ Err (bus_error Load)) × (new ≡ old)
not_read (Ok read) old new e h = absurd h
not_read (Err fault) old new e h = (refl, h)

-- and so is a load of it
pub outside : (p : Processor) (address c at : ℕ) (memory : List ℕ) (board left : BoardState)
    (e : BusFault) →
    physical_at Load 4 address p ≡ Ok at → nat_le (at + 4) (length memory) ≡ false
    → ReadsSlot (board_read c at board) board (Err e) left →
    read_word address p c memory board ≡ Err (bus_error Load)
outside p address c at memory board left e found past h =
    rw (found, past) (not_read (board_read c at board) board left e h).0
