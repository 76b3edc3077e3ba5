use Rattle.std.specs.Prelude.{◌≡◌, ℕ}
use Rattle.m161_machine.specs.State.{State, processor_at}

-- what a Step of processor p from one state to the other keeps, if it is no far one
pub record IsNear (p : ℕ) (s t : State) : Type 0 where
  pub rows : (processor_at p t.processors).rows ≡ (processor_at p s.processors).rows
  pub places : t.board.places ≡ s.board.places
