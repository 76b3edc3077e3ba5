use Rattle.std.specs.Prelude.{ℕ, Bool, true, false, nat_le, if◌then◌else◌, List, [], Option, None, Some, codes, decimal, flat_map}
use Rattle.std.specs.List.{range_with_len}
use Rattle.m161_cop0.specs.declared.exception.Exception.{Exception}
use Rattle.m161_cop0.specs.declared.exception.Exception.TheVariants as exception
use Rattle.m161_cop0.specs.Registers.{number_of_exception}
use Rattle.m161_machine.specs.declared.event.Entry.{Entry}
use Rattle.m161_text.specs.Lines.{with_line_end}
use Rattle.m161_text.specs.Parts.{◌␣◌, word_text}
use Rattle.m161_traps.specs.declared.traps.Trap.{Trap}
use Rattle.m161_traps.specs.declared.traps.TrapLine.{TrapLine}
use Rattle.m161_traps.specs.declared.trapping.Trapping.{Trapping}
use Rattle.m161_traps.specs.Trapping.{last_trapping}

-- The text of traps. Kane, MIPS RISC Architecture, "Exception processing": the names of the codes, and
-- which of them write BadVAddr.

-- the name of a code
abbrev pub name_of_exception : Exception → List ℕ
name_of_exception exception.Interrupt = codes "Int"
name_of_exception exception.TlbModified = codes "Mod"
name_of_exception exception.TlbLoad = codes "TLBL"
name_of_exception exception.TlbStore = codes "TLBS"
name_of_exception exception.AddressErrorLoad = codes "AdEL"
name_of_exception exception.AddressErrorStore = codes "AdES"
name_of_exception exception.BusErrorFetch = codes "IBE"
name_of_exception exception.BusErrorData = codes "DBE"
name_of_exception exception.SystemCall = codes "Sys"
name_of_exception exception.Breakpoint = codes "Bp"
name_of_exception exception.ReservedInstruction = codes "RI"
name_of_exception exception.CoprocessorUnusable = codes "CpU"
name_of_exception exception.Overflow = codes "Ov"

-- a trap of this code is of an address, which it writes to BadVAddr
abbrev pub is_of_address : Exception → Bool
is_of_address exception.Interrupt = false
is_of_address exception.TlbModified = true
is_of_address exception.TlbLoad = true
is_of_address exception.TlbStore = true
is_of_address exception.AddressErrorLoad = true
is_of_address exception.AddressErrorStore = true
is_of_address exception.BusErrorFetch = false
is_of_address exception.BusErrorData = false
is_of_address exception.SystemCall = false
is_of_address exception.Breakpoint = false
is_of_address exception.ReservedInstruction = false
is_of_address exception.CoprocessorUnusable = false
is_of_address exception.Overflow = false

-- the address of a trap, or a dash
abbrev pub address_text : Exception → ℕ → List ℕ
address_text code address = if is_of_address code then word_text address else codes "-"

-- a line, without its end
abbrev pub line_text : TrapLine → List ℕ
line_text line =
    codes "traps" ␣ decimal line.first.processor ␣ decimal (number_of_exception line.first.code)
    ␣ name_of_exception line.first.code ␣ decimal line.count ␣ codes "first"
    ␣ decimal line.first.place ␣ word_text line.first.epc
    ␣ address_text line.first.code line.first.address

-- lines, each with its end
abbrev pub traps_text : List TrapLine → List ℕ
traps_text lines = flat_map (λ (line : TrapLine). with_line_end (line_text line)) lines

-- a code with its name
abbrev pub code_text : Exception → List ℕ
code_text code = decimal (number_of_exception code) ␣ name_of_exception code

-- the note on a trap for which the image has nothing, without its end
abbrev pub unhandled_line : Trap → List ℕ
unhandled_line trap =
    codes "s161: note trap" ␣ decimal trap.place ␣ decimal trap.processor ␣ code_text trap.code
    ␣ word_text trap.vector ␣ codes "(the image has nothing there)"

abbrev pub unhandled_text : Option Trap → List ℕ
unhandled_text None = []
unhandled_text (Some trap) = with_line_end (unhandled_line trap)

-- the note on a processor whose last Steps all trapped, without its end
abbrev pub trapping_line : ℕ → Trapping → List ℕ
trapping_line p last =
    codes "s161: note trapping" ␣ decimal last.count ␣ decimal p ␣ code_text last.code
    ␣ codes "(its last" ␣ decimal last.count ␣ codes "Steps trapped)"

-- there is one where there were three such Steps or more
abbrev pub trapping_if : ℕ → Option Trapping → List ℕ
trapping_if p None = []
trapping_if p (Some last) = if nat_le 3 last.count then with_line_end (trapping_line p last) else []

-- the notes on the first n processors, by the entries of a run
abbrev pub trapping_texts : List Entry → ℕ → List ℕ
trapping_texts entries n =
    flat_map (λ p. trapping_if p (last_trapping p entries)) (range_with_len 0 n)

-- those on all, of which a machine has at most 32
abbrev pub trapping_text : List Entry → List ℕ
trapping_text entries = trapping_texts entries 32
