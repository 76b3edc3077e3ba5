use Rattle.std.specs.Prelude.{ℕ, Bool, true, false, not, ◌==◌, ◌&&◌, if◌then◌else◌, List, [], ◌∷◌, ◌++◌, flat_map, length, slice_index, slice_index_or, Option, None, Some}
use Rattle.std.specs.List.{range_with_len}
use Rattle.m161_isa.specs.Bits.{has_bit}
use Rattle.m161_tlb.specs.declared.row.Row.{Row}
use Rattle.m161_tlb.specs.Row.{hi_word, lo_word}
use Rattle.m161_tlb.specs.Rows.{blank_row}
use Rattle.m161_cop0.specs.declared.exception.Exception.{Exception}
use Rattle.m161_cop0.specs.declared.register.Register.{Register}
use Rattle.m161_cop0.specs.declared.register.Register.TheVariants as registers
use Rattle.m161_cop0.specs.Registers.{number_of_register}
use Rattle.m161_cop0.specs.Control.{read_of}
use Rattle.m161_bus.specs.declared.register.BoardWord.{BoardWord}
use Rattle.m161_bus.specs.declared.register.BoardWord.TheVariants as words
use Rattle.m161_bus.specs.Board.{BoardState, interrupt_lines, shown_word}
use Rattle.m161_bus.specs.Console.{ConsoleState}
use Rattle.m161_cpu.specs.declared.processor.Outcome.{Outcome}
use Rattle.m161_cpu.specs.declared.processor.Outcome.TheVariants as outcomes
use Rattle.m161_cpu.specs.declared.processor.ProcessorState.{ProcessorState}
use Rattle.m161_cpu.specs.declared.processor.ProcessorState.TheVariants as states
use Rattle.m161_cpu.specs.Processor.{Processor}
use Rattle.m161_machine.specs.State.{State, processor_at, word_in}
use Rattle.m161_machine.specs.Uses.{uses_in}

-- What a Step did: a list of items, by the state before it, its outcome and the state after it.

pub data Item : Type 0 where
  -- of the processor that made the Step: what it is doing now, and its registers
  doing : (state : ProcessorState) → Item
  register : (r word : ℕ) → Item
  hi : (word : ℕ) → Item
  lo : (word : ℕ) → Item
  control : (r : Register) (word : ℕ) → Item
  -- a row of its TLB, as its words in EntryHi and EntryLo
  row : (i high low : ℕ) → Item
  -- the word of RAM that the Step stored to
  stored : (at word : ℕ) → Item
  -- the first byte of the unit that its link is to
  linked : (at : ℕ) → Item
  -- a processor whose link ended
  unlinked : (q : ℕ) → Item
  -- the console: the byte in the latch, and how many bytes wait
  latched : (byte : ℕ) → Item
  waiting : (n : ℕ) → Item
  -- a word of the board's slots
  board : (place : BoardWord) (word : ℕ) → Item
  -- the outcome
  trapped : (code : Exception) (vector : ℕ) → Item
  idle : Item
  off : Item
  conflict : (row other : ℕ) → Item
  -- a processor that the Step started
  starts : (q : ℕ) → Item

-- the item of a part with these values before and after, if they differ
abbrev pub changed : ℕ → ℕ → Item → List Item
changed before after item = if before == after then [] else item ∷ []

-- the items of each number from a on, n of them
abbrev pub each : ℕ → ℕ → (ℕ → List Item) → List Item
each a n items_of = flat_map items_of (range_with_len a n)

-- What a processor is doing.

abbrev pub same_state : ProcessorState → ProcessorState → Bool
same_state states.Stopped states.Stopped = true
same_state states.Running states.Running = true
same_state states.Waiting states.Waiting = true
same_state _ _ = false

abbrev pub state_items : ProcessorState → ProcessorState → List Item
state_items before after = if same_state before after then [] else doing after ∷ []

-- The general registers, HI and LO: of a processor before and after.

abbrev pub register_item : Processor → Processor → ℕ → List Item
register_item a b r =
    changed (slice_index a.registers r) (slice_index b.registers r) (register r (slice_index b.registers r))

unfoldable pub register_items : Processor → Processor → List Item
register_items a b = each 1 31 (register_item a b)

abbrev pub hi_lo_items : Processor → Processor → List Item
hi_lo_items a b = changed a.hi b.hi (hi b.hi) ++ changed a.lo b.lo (lo b.lo)

-- Coprocessor 0.

-- the registers that items show: not Random and Count, which change in each Step, nor PRId, which
-- never does
abbrev pub shown_registers : List Register
shown_registers =
    registers.Index ∷ registers.EntryLo ∷ registers.Context ∷ registers.BadVaddr ∷ registers.EntryHi
    ∷ registers.Compare ∷ registers.Status ∷ registers.Cause ∷ registers.Epc ∷ []

-- a register as `mfc0` reads it
abbrev pub control_word : ℕ → State → Register → ℕ
control_word p s r =
    read_of (number_of_register r) (interrupt_lines p s.board) (processor_at p s.processors).control

abbrev pub control_item : ℕ → State → State → Register → List Item
control_item p s t r = changed (control_word p s r) (control_word p t r) (control r (control_word p t r))

unfoldable pub control_items : ℕ → State → State → List Item
control_items p s t = flat_map (control_item p s t) shown_registers

-- The TLB.

abbrev pub row_item_of : ℕ → Row → Row → List Item
row_item_of i a b =
    if (hi_word a == hi_word b) && (lo_word a == lo_word b) then []
    else row i (hi_word b) (lo_word b) ∷ []

abbrev pub row_item : List Row → List Row → ℕ → List Item
row_item a b i = row_item_of i (slice_index_or a i blank_row) (slice_index_or b i blank_row)

unfoldable pub row_items : List Row → List Row → List Item
row_items a b = each 0 64 (row_item a b)

-- RAM: the word that the Step stored to, also if it has the value that it had.

abbrev pub stored_as : ℕ → Option ℕ → List Item
stored_as at None = []
stored_as at (Some word) = stored at word ∷ []

abbrev pub stored_items : Option ℕ → List ℕ → List Item
stored_items None memory = []
stored_items (Some at) memory = stored_as at (word_in memory at)

-- Links.

abbrev pub linked_as : Option ℕ → ℕ → List Item
linked_as None word = linked word ∷ []
linked_as (Some old) word = changed old word (linked word)

abbrev pub linked_items : Option ℕ → Option ℕ → List Item
linked_items before None = []
linked_items before (Some word) = linked_as before word

-- a link that was live, by what is left of it
abbrev pub ended_by : ℕ → Option ℕ → List Item
ended_by q None = unlinked q ∷ []
ended_by q (Some word) = []

abbrev pub unlinked_by : ℕ → Option ℕ → Option ℕ → List Item
unlinked_by q None after = []
unlinked_by q (Some word) after = ended_by q after

abbrev pub unlinked_item : List (Option ℕ) → List (Option ℕ) → ℕ → List Item
unlinked_item a b q = unlinked_by q (slice_index_or a q None) (slice_index_or b q None)

unfoldable pub link_items : ℕ → ℕ → List (Option ℕ) → List (Option ℕ) → List Item
link_items p n a b =
    linked_items (slice_index_or a p None) (slice_index_or b p None) ++ each 0 n (unlinked_item a b)

-- The console and the board.

abbrev pub latched_as : Option ℕ → ℕ → List Item
latched_as None byte = latched byte ∷ []
latched_as (Some old) byte = changed old byte (latched byte)

abbrev pub latch_items : Option ℕ → Option ℕ → List Item
latch_items before None = []
latch_items before (Some byte) = latched_as before byte

abbrev pub waiting_items : ConsoleState → ConsoleState → List Item
waiting_items a b = changed (length a.waiting) (length b.waiting) (waiting (length b.waiting))

abbrev pub board_item : BoardState → BoardState → BoardWord → List Item
board_item a b place = changed (shown_word place a) (shown_word place b) (board place (shown_word place b))

-- of the words that there is one of
abbrev pub common_items : BoardState → BoardState → List Item
common_items a b =
    board_item a b words.WriteIrq ++ board_item a b words.ReadIrq ++ board_item a b words.Irqe
    ++ board_item a b words.Cpue

-- of the words of each processor: CIRQE of each, CIPI of each, and the 64 words of each one's CRAM
unfoldable pub places_items : ℕ → BoardState → BoardState → List Item
places_items n a b =
    each 0 n (λ c. board_item a b (words.Cirqe c)) ++ each 0 n (λ c. board_item a b (words.Cipi c))
    ++ each 0 n (λ c. each 0 64 (λ k. board_item a b (words.Cram c k)))

-- The outcome.

abbrev pub outcome_items : Outcome → List Item
outcome_items outcomes.Ran = []
outcome_items (outcomes.Trapped code vector) = trapped code vector ∷ []
outcome_items outcomes.Idle = idle ∷ []
outcome_items outcomes.PoweredOff = off ∷ []
outcome_items (outcomes.Conflict i j) = conflict i j ∷ []
outcome_items outcomes.Taken = []

-- The processors that were started.

abbrev pub start_item : ℕ → ℕ → ℕ → List Item
start_item before after q = if has_bit after q && not (has_bit before q) then starts q ∷ [] else []

unfoldable pub start_items : ℕ → ℕ → ℕ → List Item
start_items n before after = each 0 n (start_item before after)

-- All of them, of a Step of processor p.

-- those of the processor
abbrev pub processor_items : ℕ → State → State → List Item
processor_items p s t =
    let a = processor_at p s.processors in
    let b = processor_at p t.processors in
    state_items a.state b.state ++ register_items a b ++ hi_lo_items a b ++ control_items p s t
    ++ row_items a.rows b.rows

-- those of RAM, the links and the board
abbrev pub shared_items : ℕ → State → State → List Item
shared_items p s t =
    stored_items (uses_in p s).stored t.memory ++ link_items p (length s.processors) s.links.live t.links.live
    ++ latch_items s.board.console.latch t.board.console.latch
    ++ waiting_items s.board.console t.board.console ++ common_items s.board t.board
    ++ places_items (length s.processors) s.board t.board

unfoldable pub items : ℕ → State → Outcome → State → List Item
items p s o t =
    processor_items p s t ++ shared_items p s t ++ outcome_items o
    ++ start_items (length s.processors) s.board.started t.board.started
