use Rattle.std.specs.Prelude.{◌≡◌, ◌≢◌, ◌⊎◌, ℕ, ◌-◌, ◌*◌, ◌/◌, ◌<◌, ◌≤◌, false, true, List, [], ◌∷◌, length, drop, slice_index, slice_index_or, Option, None, Some, Ok}
use Rattle.m161_tlb.specs.Row.{hi_word, lo_word}
use Rattle.m161_tlb.specs.Rows.{blank_row}
use Rattle.m161_cop0.specs.declared.register.Register.{Register}
use Rattle.m161_bus.specs.declared.register.BoardWord.{BoardWord}
use Rattle.m161_bus.specs.Board.{IsShown, shown_word, start_words}
use Rattle.m161_cpu.specs.declared.processor.Outcome.{Outcome}
use Rattle.m161_cpu.specs.declared.processor.Outcome.TheVariants as outcomes
use Rattle.m161_cpu.specs.Processor.{Processor, started_processor}
use Rattle.m161_cpu.specs.Translation.{is_store}
use Rattle.m161_cpu.specs.Uses.{Reference, reference_in}
use Rattle.m161_cpu.specs.UsesLaw.{address_of}
use Rattle.m161_isa.specs.Instr.{rt_of}
use Rattle.m161_machine.specs.Fetched.{fetched}
use Rattle.m161_machine.specs.declared.event.Event.TheVariants.{Step}
use Rattle.m161_machine.specs.State.{State, next, processor_at, word_in}
use Rattle.m161_trace.specs.declared.loads.Load.{Load}
use Rattle.m161_trace.specs.Loads.{load_of}
use Rattle.m161_trace.specs.Items.{Item, doing, register, hi, lo, control, row, stored, linked, unlinked, latched, waiting, board, trapped, idle, off, conflict, starts, control_word, items, shown_registers}

-- The law of the items: they tell all that a Step changed.

-- it is one of a list
abbrev pub Has : {X : Type 0} → X → List X → Type 0
Has x [] = ⊥
Has x (y ∷ ys) = (x ≡ y) ⊎ Has x ys

-- no item of a part is there, whatever its value
abbrev pub Without : {V : Type 0} → (V → Item) → List Item → Type 0
Without {V = V} item is = (v : V) → Has (item v) is → ⊥

abbrev pub link_of : ℕ → State → Option ℕ
link_of q s = slice_index_or s.links.live q None

-- the words of row i of processor p
abbrev pub high_at : ℕ → ℕ → State → ℕ
high_at p i s = hi_word (slice_index_or (processor_at p s.processors).rows i blank_row)

abbrev pub low_at : ℕ → ℕ → State → ℕ
low_at p i s = lo_word (slice_index_or (processor_at p s.processors).rows i blank_row)

-- a processor that CPUE started: with the words of its CRAM; the count of its Steps stays
abbrev pub as_started : ℕ → State → ℕ → Processor
as_started q t count =
    let words = start_words q t.board in started_processor words.pc words.r4 words.r29 count

-- bytes that wait are those that waited before, but for the oldest ones, which went
abbrev pub AreLatest : List ℕ → List ℕ → Type 0
AreLatest after before = after ≡ drop (length before - length after) before

-- a conflict in processor p, of row i with row j, switched the machine off, and p's rows stay
pub record StopsAt (p i j : ℕ) (s t : State) : Type 0 where
  pub conflict_is : t.conflict ≡ Some (record { processor = p; row = i; other = j })
  pub off : t.board.off ≡ true
  pub rows : (processor_at p t.processors).rows ≡ (processor_at p s.processors).rows

-- an item of a Step of processor p, with this outcome from one state to the other, is true: it shows
-- the value that its part has after the Step
abbrev pub IsTrueOf : ℕ → State → Outcome → State → Item → Type 0
IsTrueOf p s o t (doing state) = (processor_at p t.processors).state ≡ state
IsTrueOf p s o t (register r word) = slice_index (processor_at p t.processors).registers r ≡ word
IsTrueOf p s o t (hi word) = (processor_at p t.processors).hi ≡ word
IsTrueOf p s o t (lo word) = (processor_at p t.processors).lo ≡ word
IsTrueOf p s o t (control r word) = control_word p t r ≡ word
IsTrueOf p s o t (row i high low) = (high_at p i t ≡ high) × (low_at p i t ≡ low)
IsTrueOf p s o t (stored at word) = word_in t.memory at ≡ Some word
IsTrueOf p s o t (linked word) = link_of p t ≡ Some word
IsTrueOf p s o t (unlinked q) = link_of q t ≡ None
IsTrueOf p s o t (latched byte) = t.board.console.latch ≡ Some byte
IsTrueOf p s o t (waiting n) =
    (length t.board.console.waiting ≡ n)
    × AreLatest t.board.console.waiting s.board.console.waiting
IsTrueOf p s o t (board place word) = shown_word place t.board ≡ word
IsTrueOf p s o t (trapped code vector) = o ≡ outcomes.Trapped code vector
IsTrueOf p s o t idle = o ≡ outcomes.Idle
IsTrueOf p s o t off = t.board.off ≡ true
IsTrueOf p s o t (conflict i j) = (o ≡ outcomes.Conflict i j) × StopsAt p i j s t
IsTrueOf p s o t (starts q) =
    q ≢ p → processor_at q t.processors ≡ as_started q t (processor_at q s.processors).count

-- What the items of an accepted Step of processor p tell. Aside are: of processor p its count of
-- Steps, Random, Count, the addresses of the current and the next instruction and whether that is in
-- a delay slot; and how many events the machine accepted. (Cause of another processor shows the
-- board's lines, which are told by the words of the board. RAM is told by its words, of which a
-- machine's RAM is made.)
pub record Tells (p : ℕ) (s : State) (o : Outcome) (t : State) (is : List Item) : Type 0 where
  -- each item shows its part's value after the Step
  pub true_of : (i : Item) → Has i is → IsTrueOf p s o t i
  -- a part without an item has the value that it had
  pub state_stays :
      Without doing is → (processor_at p t.processors).state ≡ (processor_at p s.processors).state
  pub register_stays : (r : ℕ) → 1 ≤ r → r < 32 → Without (register r) is
      → slice_index (processor_at p t.processors).registers r
      ≡ slice_index (processor_at p s.processors).registers r
  pub hi_stays : Without hi is → (processor_at p t.processors).hi ≡ (processor_at p s.processors).hi
  pub lo_stays : Without lo is → (processor_at p t.processors).lo ≡ (processor_at p s.processors).lo
  pub control_stays : (r : Register) → Has r shown_registers → Without (control r) is
      → control_word p t r ≡ control_word p s r
  pub row_stays : (i : ℕ) → i < 64 → Without (λ (words : ℕ × ℕ). row i words.0 words.1) is
      → (high_at p i t ≡ high_at p i s) × (low_at p i t ≡ low_at p i s)
  pub ram_stays : (at : ℕ) → Without (stored at) is → word_in t.memory at ≡ word_in s.memory at
  pub link_stays : (q : ℕ) → q < length s.processors → (q ≡ p → Without linked is)
      → (Has (unlinked q) is → ⊥) → link_of q t ≡ link_of q s
  pub latch_stays : Without latched is → t.board.console.latch ≡ s.board.console.latch
  pub waiting_stays :
      Without waiting is → t.board.console.waiting ≡ s.board.console.waiting
  pub word_stays : (place : BoardWord) → IsShown (length s.processors) place
      → Without (board place) is → shown_word place t.board ≡ shown_word place s.board
  pub off_stays : (Has off is → ⊥) → Without (λ (rows : ℕ × ℕ). conflict rows.0 rows.1) is
      → t.board.off ≡ s.board.off
  pub conflict_stays : Without (λ (rows : ℕ × ℕ). conflict rows.0 rows.1) is
      → t.conflict ≡ s.conflict
  pub other_stays : (q : ℕ) → q ≢ p → (Has (starts q) is → ⊥)
      → processor_at q t.processors ≡ processor_at q s.processors
  -- parts that have no items, since no Step changes them
  pub output_stays : t.board.console.output ≡ s.board.console.output
  pub as_large : length t.memory ≡ length s.memory
  pub unit_stays : t.links.unit ≡ s.links.unit
  pub conf_stays : t.conf ≡ s.conf
  pub as_many : length t.processors ≡ length s.processors

-- the law
abbrev pub ItemsTell : Type 0
ItemsTell =
    (p : ℕ) (s : State) (o : Outcome) (t : State) → next s (Step p) ≡ Ok (o, t)
    → Tells p s o t (items p s o t)

-- What the load on the line of a Step of processor p tells, which ran and fetched this word, whose
-- instruction loads by this reference. The reference has a physical address; if that is in a word of
-- RAM, the line has this word, as it was before the Step; if it is in none, it is that of a slot, and
-- the line has what a register got, if that isn't register 0.
pub record TellsLoad (p : ℕ) (s t : State) (word : ℕ) (r : Reference) : Type 0 where
  pub at : ℕ
  pub address_is : address_of (processor_at p s.processors) r ≡ Ok at
  pub of_ram : (loaded : ℕ) → word_in s.memory (at / 4 * 4) ≡ Some loaded
      → load_of p s outcomes.Ran t ≡ Some (record { at = at / 4 * 4; word = loaded; in_ram = true })
  pub of_slot : word_in s.memory (at / 4 * 4) ≡ None → 1 ≤ rt_of word
      → load_of p s outcomes.Ran t ≡ Some (record {
        at = at / 4 * 4;
        word = slice_index (processor_at p t.processors).registers (rt_of word);
        in_ram = false;
      })

-- the law of the loads: each is told, and nothing else is
pub record LoadsTell : Type 0 where
  pub told : (p : ℕ) (s t : State) (word : ℕ) (r : Reference)
      → next s (Step p) ≡ Ok (outcomes.Ran, t) → fetched p s outcomes.Ran ≡ Some word
      → reference_in (processor_at p s.processors) word ≡ Some r → is_store r.access ≡ false
      → TellsLoad p s t word r
  -- a Step that doesn't run tells none, nor one whose instruction doesn't load
  pub only_ran : (p : ℕ) (s t : State) (o : Outcome) (load : Load) → load_of p s o t ≡ Some load
      → o ≡ outcomes.Ran
  pub only_loads : (p : ℕ) (s t : State) (load : Load) → load_of p s outcomes.Ran t ≡ Some load
      → (word : ℕ) × (r : Reference) × (fetched p s outcomes.Ran ≡ Some word)
      × (reference_in (processor_at p s.processors) word ≡ Some r) × (is_store r.access ≡ false)
