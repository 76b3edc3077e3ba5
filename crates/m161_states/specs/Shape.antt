use Rattle.std.specs.Prelude.{◌≡◌, ℕ, ◌%◌, ◌^◌, ◌<◌, ◌≤◌, All, List, length, slice_index, slice_index_or, None}
use Rattle.m161_bus.specs.Board.{place_at_boot, place_of}
use Rattle.m161_machine.specs.State.{State}
use Rattle.m161_alike.specs.Words.{HasSizes}

-- The shape of a machine's states.

-- bytes, but for the first of each word: the definition of a Step doesn't say that a register has 32
-- bits, and that byte has what is left of a word that is stored. A word is told by its four bytes
-- whatever the first one is
abbrev pub HaveBytes : List ℕ → Type 0
HaveBytes memory = (i : ℕ) → 0 < i % 4 → slice_index memory i < 2 ^ 8

-- the lists of a state have their sizes; what belongs to processors that don't exist is as at boot
pub record IsShaped (s : State) : Type 0 where
  pub processors : All HasSizes s.processors
  pub size_is : length s.processors ≡ s.board.processors
  pub places : length s.board.places ≡ 32
  pub crams : (p : ℕ) → p < 32 → length (place_of p s.board).cram ≡ 64
  pub other_places : (p : ℕ) → s.board.processors ≤ p → place_of p s.board ≡ place_at_boot 0
  pub links : length s.links.live ≡ 32
  pub other_links : (p : ℕ) → s.board.processors ≤ p → slice_index_or s.links.live p None ≡ None
  pub whole : length s.memory % 4 ≡ 0
  pub bytes : HaveBytes s.memory
