use Rattle.std.specs.Prelude.{ℕ, ◌+◌, ◌*◌, ◌/◌, ◌%◌, Bool, true, false, if◌then◌else◌, List, [], ◌∷◌, ◌++◌, length, flat_map, slice_index, slice_index_or, codes, decimal, map, Option, None, Some}
use Rattle.std.specs.List.{range_with_len}
use Rattle.std.specs.Option.{option_map_or}
use Rattle.m161_isa.specs.Address.{unmapped}
use Rattle.m161_isa.specs.Bits.{has_bit}
use Rattle.m161_dis.specs.declared.naming.Style.{Style}
use Rattle.m161_dis.specs.Canon.{canon_with}
use Rattle.m161_symbols.specs.Names.{place_behind}
use Rattle.m161_tlb.specs.declared.row.Row.{Row}
use Rattle.m161_tlb.specs.Row.{hi_word, lo_word}
use Rattle.m161_tlb.specs.Rows.{blank_row}
use Rattle.m161_cop0.specs.declared.register.Register.{Register}
use Rattle.m161_cop0.specs.Registers.{all_registers, name_of_register, number_of_register}
use Rattle.m161_cop0.specs.Control.{read_of}
use Rattle.m161_ram.specs.Word.{word_at}
use Rattle.m161_bus.specs.Board.{interrupt_lines}
use Rattle.m161_cpu.specs.declared.processor.ProcessorState.{ProcessorState}
use Rattle.m161_cpu.specs.declared.processor.ProcessorState.TheVariants.{Stopped, Running, Waiting}
use Rattle.m161_cpu.specs.Processor.{Processor}
use Rattle.m161_cpu.specs.Fetch.{fetched_word}
use Rattle.m161_machine.specs.State.{State, processor_at}
use Rattle.m161_text.specs.Lines.{text_of, with_line_end}
use Rattle.m161_text.specs.Parts.{◌␣◌, word_text}

-- The displays: each is a list of lines, computed from a state.

-- n lines, counted from 0
abbrev pub numbered_lines : ℕ → (ℕ → List ℕ) → List (List ℕ)
numbered_lines n line = map line (range_with_len 0 n)

-- a name and a word
unfoldable pub name_and_word : List ℕ → ℕ → List ℕ
name_and_word name word = name ␣ word_text word

-- The registers of a processor.

abbrev pub state_text : ProcessorState → List ℕ
state_text Stopped = codes "stopped"
state_text Running = codes "running"
state_text Waiting = codes "waiting"

-- what follows the address of an instruction in a delay slot
abbrev pub slot_text : Bool → List ℕ
slot_text false = []
slot_text true = codes " slot"

-- a processor's number, what it is doing, and where
abbrev pub place_text : ℕ → ProcessorState → ℕ → Bool → List ℕ
place_text p state pc slot =
    codes "cpu" ␣ decimal p ␣ state_text state ␣ codes "pc" ␣ (word_text pc ++ slot_text slot)

abbrev pub place_line : ℕ → Processor → List ℕ
place_line p c = place_text p c.state c.pc c.slot

unfoldable pub register_and_word : Processor → ℕ → List ℕ
register_and_word c r = name_and_word (codes "r" ++ decimal r) (slice_index c.registers r)

-- four registers
abbrev pub registers_line : Processor → ℕ → List ℕ
registers_line c i =
    register_and_word c (4 * i) ␣ register_and_word c (4 * i + 1) ␣ register_and_word c (4 * i + 2)
    ␣ register_and_word c (4 * i + 3)

abbrev pub hi_lo_line : Processor → List ℕ
hi_lo_line c = name_and_word (codes "hi") c.hi ␣ name_and_word (codes "lo") c.lo

-- a processor and its registers: ten lines
unfoldable pub show_regs_text : ℕ → State → List ℕ
show_regs_text p s =
    let c = processor_at p s.processors in
    text_of (place_line p c ∷ numbered_lines 8 (registers_line c) ++ hi_lo_line c ∷ [])

-- Coprocessor 0: a line for each register, in the order of their numbers.

-- a register by its name; Cause shows the board's lines as they are now
abbrev pub cop0_line : ℕ → State → Register → List ℕ
cop0_line p s r =
    name_and_word (name_of_register r)
    (read_of (number_of_register r) (interrupt_lines p s.board)
    (processor_at p s.processors).control)

unfoldable pub show_cop0_text : ℕ → State → List ℕ
show_cop0_text p s = text_of (map (cop0_line p s) all_registers)

-- The TLB: a line for each row.

-- a number below 100
abbrev pub two_digits : ℕ → List ℕ
two_digits n = decimal (n / 10) ++ decimal (n % 10)

-- a row by its number and its words in EntryHi and EntryLo
abbrev pub row_text : ℕ → Row → List ℕ
row_text i row = two_digits i ␣ word_text (hi_word row) ␣ word_text (lo_word row)

abbrev pub row_line : List Row → ℕ → List ℕ
row_line rows i = row_text i (slice_index_or rows i blank_row)

unfoldable pub show_tlb_text : ℕ → State → List ℕ
show_tlb_text p s = text_of (numbered_lines 64 (row_line (processor_at p s.processors).rows))

-- Memory: words from a physical address on.

abbrev pub memory_line : List ℕ → ℕ → List ℕ
memory_line memory at = word_text at ␣ word_text (word_at memory at)

unfoldable pub show_mem_text : ℕ → ℕ → State → List ℕ
show_mem_text address n s = text_of (numbered_lines n (λ i. memory_line s.memory (address + 4 * i)))

-- Code: instructions from an address in kseg0 or kseg1 on.

-- the word of RAM at such an address
abbrev pub code_word : List ℕ → ℕ → ℕ
code_word memory at = option_map_or (word_at memory) (unmapped at) 0

-- an address with its place behind it
abbrev pub address_text : Style → ℕ → List ℕ
address_text style at = word_text at ++ place_behind style.symbols at

abbrev pub listing_text : Style → ℕ → ℕ → List ℕ
listing_text style at word = address_text style at ␣ word_text word ␣ canon_with style word at

abbrev pub code_line : Style → List ℕ → ℕ → List ℕ
code_line style memory at = listing_text style at (code_word memory at)

unfoldable pub show_code_text : Style → ℕ → ℕ → State → List ℕ
show_code_text style address n s =
    text_of (numbered_lines n (λ i. code_line style s.memory (address + 4 * i)))

-- Code as a processor would fetch it now, by its mode and its TLB.

-- an instruction's line; or that no word can be fetched at the address
abbrev pub fetched_text : Style → ℕ → Option ℕ → List ℕ
fetched_text style at None = address_text style at ␣ codes "-"
fetched_text style at (Some word) = listing_text style at word

abbrev pub fetched_line : Style → ℕ → State → ℕ → List ℕ
fetched_line style p s at =
    fetched_text style at (fetched_word s.memory at (processor_at p s.processors))

-- n instructions from a virtual address on
unfoldable pub show_fetched_text : Style → ℕ → ℕ → ℕ → State → List ℕ
show_fetched_text style p address n s =
    text_of (numbered_lines n (λ i. fetched_line style p s (address + 4 * i)))

-- The places of the processors: a line for each that was started.

-- its number, what it is doing, and the instruction at its address as it would fetch it
abbrev pub where_line : Style → State → ℕ → List ℕ
where_line style s p =
    decimal p ␣ state_text (processor_at p s.processors).state
    ␣ fetched_line style p s (processor_at p s.processors).pc

-- its bit of CPUE is set
abbrev pub is_started : State → ℕ → Bool
is_started s p = has_bit s.board.started p

abbrev pub where_text : Style → State → ℕ → List ℕ
where_text style s p = if is_started s p then with_line_end (where_line style s p) else []

unfoldable pub show_where_text : Style → State → List ℕ
show_where_text style s = flat_map (where_text style s) (range_with_len 0 (length s.processors))
