use Rattle.std.specs.Prelude.{◌≡◌, ℕ, ◌<◌, List, length}
use Rattle.m161_alike.specs.Addresses.{Cover}
use Rattle.m161_states.specs.Question.{Question, booted}
use Rattle.m161_states.specs.System.{Explored}
use Rattle.m161_states.specs.Views.{view}
use Rattle.m161_reach.specs.Reach.{IsMet}

-- A state in hand.

pub record InHand : Type 0 where
  -- the state
  pub place : Explored
  -- the words of its view, or none
  pub words : List ℕ
  -- the addresses of the words of RAM that may differ from boot's
  pub changed : List ℕ

-- the state is one that is met, and what is kept beside it is true of it
pub record IsReady (q : Question) (h : InHand) : Type 0 where
  pub met : IsMet q h.place
  pub words : 0 < length h.words → h.words ≡ view q h.place
  pub changed : Cover (booted q).bytes h.place.state.memory h.changed
