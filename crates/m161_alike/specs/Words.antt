use Rattle.std.specs.Prelude.{◌≡◌, ℕ, ◌+◌, ◌*◌, ◌/◌, ◌%◌, ◌^◌, ◌<◌, Bool, ◌==◌, if◌then◌else◌, All, List, [], ◌∷◌, ◌++◌, length, map, get_or, slice_index, slice_index_or, flat_map, Option, None, Some}
use Rattle.std.specs.List.{range_with_len}
use Rattle.m161_ram.specs.Word.{word_at}
use Rattle.m161_tlb.specs.declared.row.Row.{Row as TlbRow}
use Rattle.m161_tlb.specs.Rows.{blank_row}
use Rattle.m161_cop0.specs.Control.{Control}
use Rattle.m161_cpu.specs.declared.processor.ProcessorState.{ProcessorState}
use Rattle.m161_cpu.specs.declared.processor.ProcessorState.TheVariants.{Stopped, Running, Waiting}
use Rattle.m161_cpu.specs.Processor.{Processor}
use Rattle.m161_bus.specs.Console.{irq_word, read_irq}
use Rattle.m161_bus.specs.Board.{BoardState, PlaceState, place_of}
use Rattle.m161_machine.specs.declared.event.Conflict.{Conflict}
use Rattle.m161_machine.specs.State.{State}
use Rattle.m161_alike.specs.declared.reads.Reads.{Reads}
use Rattle.m161_alike.specs.View.{processor_view}

-- The words of a view.

abbrev pub flag : Bool → ℕ
flag test = if test then 1 else 0

-- general registers 0 to 31
abbrev pub register_words : Processor → List ℕ
register_words p = map (slice_index p.registers) (range_with_len 0 32)

abbrev pub number_of_state : ProcessorState → ℕ
number_of_state Stopped = 0
number_of_state Running = 1
number_of_state Waiting = 2

-- HI, LO, where it is, and what it is doing
abbrev pub place_words : Processor → List ℕ
place_words p =
    p.hi ∷ p.lo ∷ p.pc ∷ p.following ∷ flag p.slot ∷ number_of_state p.state ∷ []

-- coprocessor 0, without its age
abbrev pub control_words : Control → List ℕ
control_words c =
    c.index ∷ c.random ∷ c.entry_lo ∷ c.context ∷ c.bad_vaddr ∷ c.count ∷ c.entry_hi ∷ c.compare
    ∷ c.status ∷ c.epc ∷ flag c.branch_delay ∷ c.unit ∷ c.code ∷ flag c.timer ∷ c.software ∷ []

-- a row of the TLB: its flags are below its identifier
abbrev pub row_words : TlbRow → List ℕ
row_words r =
    r.page ∷ r.frame ∷ (r.id * 16 + (flag r.n * 8 + flag r.d * 4 + flag r.v * 2 + flag r.g)) ∷ []

-- rows 0 to 63
abbrev pub rows_words : Processor → List ℕ
rows_words p = flat_map (λ i. row_words (get_or p.rows i blank_row)) (range_with_len 0 64)

-- a processor, without the count of its Steps
abbrev pub processor_words : Processor → List ℕ
processor_words p =
    register_words p ++ (place_words p ++ (control_words p.control ++ rows_words p))

-- a processor has 32 registers and 64 rows
abbrev pub HasSizes : Processor → Type 0
HasSizes p = (length p.registers ≡ 32) × (length p.rows ≡ 64)

-- the law: views of processors have the same words only if they are the same
abbrev pub ProcessorLaw : Type 0
ProcessorLaw =
    (known other : Reads) (p q : Processor) → HasSizes p → HasSizes q
    → processor_words (processor_view known p) ≡ processor_words (processor_view other q)
    → processor_view known p ≡ processor_view other q

-- a part that may be missing
abbrev pub optional : Option ℕ → List ℕ
optional None = 0 ∷ 0 ∷ []
optional (Some n) = 1 ∷ n ∷ []

abbrev pub conflict_words : Option Conflict → List ℕ
conflict_words None = 0 ∷ 0 ∷ 0 ∷ 0 ∷ []
conflict_words (Some c) = 1 ∷ c.processor ∷ c.row ∷ c.other ∷ []

-- the registers of the board that are no processor's: IRQE, CPUE, power, and the console's two of
-- interrupts
abbrev pub register_board_words : BoardState → List ℕ
register_board_words b =
    b.irqe ∷ b.started ∷ flag b.off ∷ irq_word b.console.write_irq
    ∷ irq_word (read_irq b.console) ∷ []

-- words 0 to 63 of a processor's CRAM
abbrev pub cram_words : PlaceState → List ℕ
cram_words place = map (slice_index place.cram) (range_with_len 0 64)

-- what the controller keeps for a processor, and the processor's link
abbrev pub part_words : State → ℕ → List ℕ
part_words s p =
    (place_of p s.board).cirqe ∷ flag (place_of p s.board).cipi
    ∷ (optional (slice_index_or s.links.live p None) ++ cram_words (place_of p s.board))

-- all else: the board, the links, and what switched a strict machine off
abbrev pub board_words : State → List ℕ
board_words s =
    register_board_words s.board
    ++ (optional s.board.console.latch
    ++ (conflict_words s.conflict
    ++ (flat_map (part_words s) (range_with_len 0 s.board.processors)
    ++ s.board.console.waiting)))

-- a word of memory behind its address, if it differs from boot's
abbrev pub word_change : List ℕ → List ℕ → ℕ → List ℕ
word_change boot memory at =
    if word_at memory at == word_at boot at then [] else at ∷ word_at memory at ∷ []

-- memory: the words that differ from boot's, in the order of their addresses
abbrev pub memory_words : List ℕ → List ℕ → List ℕ
memory_words boot memory =
    flat_map (λ i. word_change boot memory (4 * i)) (range_with_len 0 (length memory / 4))

-- bytes, in whole words
abbrev pub AreBytes : List ℕ → Type 0
AreBytes memory = All (λ byte. byte < 2 ^ 8) memory × (length memory % 4 ≡ 0)

-- the law: memories of one size have the same words only if they are the same
abbrev pub MemoryLaw : Type 0
MemoryLaw =
    (boot a b : List ℕ) → AreBytes a → AreBytes b → length a ≡ length b
    → memory_words boot a ≡ memory_words boot b → a ≡ b
