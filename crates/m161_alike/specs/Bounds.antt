use Rattle.std.specs.Prelude.{◌≡◌, ℕ, ◌+◌, ◌*◌, ◌^◌, ◌<◌, ◌≤◌, All, List, drop, length, slice_index}
use Rattle.m161_cpu.specs.Processor.{Processor}
use Rattle.m161_machine.specs.State.{State}
use Rattle.m161_alike.specs.declared.reads.Reads.{Reads}
use Rattle.m161_alike.specs.View.{processor_view}
use Rattle.m161_alike.specs.Words.{HasSizes, board_words, processor_words}
use Rattle.m161_alike.specs.Restored.{AreWordsOf}
use Rattle.m161_alike.specs.RestoredBoard.{HasBytes, part_at}

-- Words within the bounds of what they hold. A definition of a Step has no bounds, and words of a view
-- may be those of a processor, or of a board, that no machine can hold.

-- the words of a row of the TLB
abbrev pub IsRowBounded : List ℕ → ℕ → Type 0
IsRowBounded words i =
    (slice_index words (53 + 3 * i) < 2 ^ 20) × (slice_index words (54 + 3 * i) < 2 ^ 20)
    × (slice_index words (55 + 3 * i) < 2 ^ 10)

-- register 0, and the registers of coprocessor 0
pub record IsControlBounded (words : List ℕ) : Type 0 where
  pub zero : slice_index words 0 ≡ 0
  pub lowest : 8 ≤ slice_index words 39
  pub highest : slice_index words 39 ≤ 63
  pub unit : slice_index words 49 < 4
  pub code : slice_index words 50 < 2 ^ 8
  pub software : slice_index words 52 < 4

-- the words of a processor
pub record IsBounded (words : List ℕ) : Type 0 where
  pub control : IsControlBounded words
  pub rows : (i : ℕ) → i < 64 → IsRowBounded words i

-- the words of a board of so many processors
pub record IsBoardBounded (words : List ℕ) (processors : ℕ) : Type 0 where
  pub latch : slice_index words 6 < 2 ^ 8
  pub row : slice_index words 9 < 2 ^ 8
  pub other : slice_index words 10 < 2 ^ 8
  pub few : length words ≤ part_at processors + 256
  pub waiting : All (λ word. word < 2 ^ 8) (drop (part_at processors) words)

-- the law: such words are those of the view of a processor that can be held
abbrev pub BoundsLaw : Type 0
BoundsLaw =
    (known : Reads) (p : Processor) (words : List ℕ) → HasSizes p
    → words ≡ processor_words (processor_view known p) → IsBounded words
    → AreWordsOf words known (processor_view known p)

-- and those of a board whose bytes are bytes
abbrev pub BoardBoundsLaw : Type 0
BoardBoundsLaw =
    (s : State) (words : List ℕ) → words ≡ board_words s → IsBoardBounded words s.board.processors
    → HasBytes s
