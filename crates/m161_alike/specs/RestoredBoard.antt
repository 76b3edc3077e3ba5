use Rattle.std.specs.Prelude.{◌≡◌, ℕ, zero, suc, ◌+◌, ◌*◌, ◌%◌, ◌^◌, ◌<◌, ◌≤◌, ◌==◌, if◌then◌else◌, All, List, drop, length, map, slice_index, slice_index_or, take, Option, None, Some, IfSome}
use Rattle.m161_bus.specs.Console.{has_flag, irq_bits}
use Rattle.m161_bus.specs.Board.{place_at_boot, place_of}
use Rattle.m161_bus.specs.declared.board.restore.BoardParts.{BoardParts}
use Rattle.m161_bus.specs.declared.board.restore.PlaceParts.{PlaceParts}
use Rattle.m161_machine.specs.declared.event.Conflict.{Conflict}
use Rattle.m161_machine.specs.State.{State}
use Rattle.m161_machine.specs.Restore.{with_board_parts, with_place_and_link}
use Rattle.m161_alike.specs.View.{board_view}
use Rattle.m161_alike.specs.Words.{board_words}

-- The board and the links, made anew from the words of a view.

-- the lists of a state's board and of its links have their sizes; what belongs to processors that
-- don't exist is as at boot
pub record HasParts (s : State) : Type 0 where
  pub size_is : length s.processors ≡ s.board.processors
  pub places : length s.board.places ≡ 32
  pub crams : (p : ℕ) → p < 32 → length (place_of p s.board).cram ≡ 64
  pub other_places : (p : ℕ) → s.board.processors ≤ p → place_of p s.board ≡ place_at_boot 0
  pub links : length s.links.live ≡ 32
  pub other_links : (p : ℕ) → s.board.processors ≤ p → slice_index_or s.links.live p None ≡ None

-- what is a byte in a state's board, or a row's number, is below 2 ^ 8; and at most 256 bytes wait
pub record HasBytes (s : State) : Type 0 where
  pub latch : IfSome s.board.console.latch (λ byte. byte < 2 ^ 8)
  pub few : length s.board.console.waiting ≤ 256
  pub waiting : All (λ byte. byte < 2 ^ 8) s.board.console.waiting
  pub conflict : IfSome s.conflict (λ c. (c.row < 2 ^ 8) × (c.other < 2 ^ 8))

-- the words are those of such a board, of a machine of the other state's size
pub record AreWordsOfBoard (words : List ℕ) (s t : State) : Type 0 where
  pub parts : HasParts s
  pub other_parts : HasParts t
  pub bytes : HasBytes s
  pub ram : s.board.ram ≡ t.board.ram
  pub processors : s.board.processors ≡ t.board.processors
  pub unit : s.links.unit ≡ t.links.unit
  pub words_are : words ≡ board_words s

-- a state with another one's board and links, and what switched that off; its console has sent
-- nothing
abbrev pub with_board_of : State → State → State
with_board_of s t = record t { board = board_view s.board; links = s.links; conflict = s.conflict }

-- what words hold by their places, brought within the bounds of what it is

abbrev pub board_in : List ℕ → BoardParts
board_in words = record {
  irqe = slice_index words 0;
  started = slice_index words 1;
  off = slice_index words 2 == 1;
  console = record {
    latch =
        if slice_index words 5 == 1 then Some (slice_index words 6 % 2 ^ 8) else None;
    write_irq = irq_bits (slice_index words 3);
    read_enable = has_flag (slice_index words 4) 1;
    read_force = has_flag (slice_index words 4) 4;
  };
}

abbrev pub conflict_in : List ℕ → Option Conflict
conflict_in words =
    if slice_index words 7 == 1
    then Some (record {
      processor = slice_index words 8;
      row = slice_index words 9 % 2 ^ 8;
      other = slice_index words 10 % 2 ^ 8;
    })
    else None

-- where a processor's part begins, or for the number of processors the waiting bytes
abbrev pub part_at : ℕ → ℕ
part_at p = 11 + 68 * p

abbrev pub place_in : List ℕ → ℕ → PlaceParts
place_in words p = record {
  cirqe = slice_index words (part_at p);
  cipi = slice_index words (part_at p + 1) == 1;
  cram = take 64 (drop (part_at p + 4) words);
}

abbrev pub link_in : List ℕ → ℕ → Option ℕ
link_in words p =
    if slice_index words (part_at p + 2) == 1
    then Some (slice_index words (part_at p + 3))
    else None

-- the low bytes of words
abbrev pub waiting_in : List ℕ → List ℕ
waiting_in words = map (λ word. word % 2 ^ 8) words

-- a state with the parts of the first processors
abbrev pub with_places : ℕ → List ℕ → State → State
with_places zero words s = s
with_places (suc p) words s =
    with_place_and_link p (place_in words p) (link_in words p) (with_places p words s)

-- a state with all of this: at most 256 bytes wait
abbrev pub restored_board : List ℕ → State → State
restored_board words s =
    let n = length s.processors in
    with_places n words
    (with_board_parts (board_in words) (waiting_in (take 256 (drop (part_at n) words)))
    (conflict_in words) s)
