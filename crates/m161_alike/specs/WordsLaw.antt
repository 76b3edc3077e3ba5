use Rattle.std.specs.Prelude.{◌≡◌, ℕ, ◌<◌, ◌≤◌, All, List, length, slice_index_or, None}
use Rattle.m161_bus.specs.Board.{place_at_boot, place_of}
use Rattle.m161_machine.specs.State.{State, processor_at}
use Rattle.m161_alike.specs.declared.known.Known.{Known}
use Rattle.m161_alike.specs.View.{AreAlike, known_of, processor_view}
use Rattle.m161_alike.specs.Words.{AreBytes, HasSizes, board_words, memory_words, processor_words}

-- The law of the words of a view.

-- the sizes of a state's lists; what belongs to processors that don't exist is as at boot
pub record HasShape (s : State) : Type 0 where
  pub processors : All HasSizes s.processors
  pub size_is : length s.processors ≡ s.board.processors
  pub places : length s.board.places ≡ 32
  pub crams : (p : ℕ) → p < 32 → length (place_of p s.board).cram ≡ 64
  pub other_places : (p : ℕ) → s.board.processors ≤ p → place_of p s.board ≡ place_at_boot 0
  pub links : length s.links.live ≡ 32
  pub other_links : (p : ℕ) → s.board.processors ≤ p → slice_index_or s.links.live p None ≡ None
  pub memory : AreBytes s.memory

-- states of machines of one configuration
pub record AreOfOneConf (s t : State) : Type 0 where
  pub conf : s.conf ≡ t.conf
  pub ram : s.board.ram ≡ t.board.ram
  pub processors : s.board.processors ≡ t.board.processors
  pub unit : s.links.unit ≡ t.links.unit
  pub memory : length s.memory ≡ length t.memory

-- the words of a processor's view
abbrev pub words_at : Known → State → ℕ → List ℕ
words_at known s p =
    processor_words (processor_view (known_of known p) (processor_at p s.processors))

-- two states have the same words, where boot's memory is this
pub record HaveSameWords (known : Known) (boot : List ℕ) (s t : State) : Type 0 where
  pub processors : (p : ℕ) → p < s.board.processors → words_at known s p ≡ words_at known t p
  pub board : board_words s ≡ board_words t
  pub memory : memory_words boot s.memory ≡ memory_words boot t.memory

-- states with the same words are alike
abbrev pub ViewLaw : Type 0
ViewLaw =
    (known : Known) (boot : List ℕ) (s t : State) → HasShape s → HasShape t → AreOfOneConf s t
    → HaveSameWords known boot s t → AreAlike known s t

-- and states that are alike have the same words
abbrev pub WordsLaw : Type 0
WordsLaw =
    (known : Known) (boot : List ℕ) (s t : State) → AreAlike known s t → HaveSameWords known boot s t
