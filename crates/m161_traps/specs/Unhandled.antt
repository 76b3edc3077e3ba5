use Rattle.std.specs.Prelude.{ℕ, ◌+◌, Bool, not, nat_lt, ◌&&◌, List, Option, find}
use Rattle.std.specs.List.{list_any}
use Rattle.m161_elf.specs.declared.span.Span.{Span}
use Rattle.m161_elf.specs.Image.{place_in_ram}
use Rattle.m161_machine.specs.declared.event.Event.{Event}
use Rattle.m161_machine.specs.State.{State}
use Rattle.m161_traps.specs.declared.traps.Trap.{Trap}
use Rattle.m161_traps.specs.Traps.{traps_of}

-- The first trap for which an image has nothing. The rule is this project's own.

-- the bytes of a span have one of the word at a physical address
abbrev pub has_byte_of : ℕ → Span → Bool
has_byte_of at span =
    nat_lt (place_in_ram span.address) (at + 4) && nat_lt at (place_in_ram span.address + span.size)

-- one of these spans, those of an image's bytes in its file, has a byte of the word at a vector
abbrev pub is_in_file : List Span → ℕ → Bool
is_in_file spans vector = list_any (has_byte_of (place_in_ram vector)) spans

-- nothing is at a trap's vector: the word there is in RAM and 0 right after the trap, and none of its
-- bytes is from the file
abbrev pub is_unhandled : List Span → Trap → Bool
is_unhandled spans trap = trap.empty && not (is_in_file spans trap.vector)

-- the first such trap of events, from a state on
abbrev pub first_unhandled : List Span → State → List Event → Option Trap
first_unhandled spans s events = find (is_unhandled spans) (traps_of s events)
