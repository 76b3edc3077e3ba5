use Rattle.std.specs.Prelude.{◌≡◌, ◌≤◌, ◌<◌, ◌++◌, ◌∷◌, ℕ, List, length}
use Rattle.m161_dis.specs.declared.naming.Style.{Style}
use Rattle.m161_bus.specs.Board.{BoardState}
use Rattle.m161_bus.specs.declared.register.BoardWord.TheVariants as words
use Rattle.m161_machine.specs.State.{State}
use Rattle.m161_trace.specs.Items.{Item, board_item, each}
use Rattle.m161_trace.specs.Line.{item_text, spaced}

-- What is appended to a text.

-- the text has these items more, a space before each, in this style
abbrev pub AddsIn : Style → List ℕ → List Item → List ℕ → Type 0
AddsIn style old is new = new ≡ old ++ spaced style is

-- the same in every style: of items that are no general registers and no words of RAM
abbrev pub Adds : List ℕ → List Item → List ℕ → Type 0
Adds old is new = (style : Style) → AddsIn style old is new

-- a space and a part
abbrev pub AddsPart : List ℕ → List ℕ → List ℕ → Type 0
AddsPart old part new = new ≡ old ++ 32 ∷ part

-- a space and an item, in every style
abbrev pub AddsItem : List ℕ → Item → List ℕ → Type 0
AddsItem old i new = (style : Style) → AddsPart old (item_text style i) new

-- both states have processor p
pub record Have (p : ℕ) (s t : State) : Type 0 where
  pub before : p < length s.processors
  pub after : p < length t.processors

-- the boards of both states have at least n processors
pub record Same (n : ℕ) (s t : State) : Type 0 where
  pub before : n ≤ s.board.processors
  pub after : n ≤ t.board.processors

-- the changed words of the CRAM of processor c
abbrev pub crams_of : BoardState → BoardState → ℕ → List Item
crams_of a b c = each 0 64 (λ k. board_item a b (words.Cram c k))

-- both states have as many processors, and processor p
pub record AreAlike (p : ℕ) (s t : State) : Type 0 where
  pub place : p < length s.processors
  pub as_many : length t.processors ≡ length s.processors
