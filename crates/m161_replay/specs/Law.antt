use Rattle.std.specs.Prelude.{◌≡◌, ℕ, Some, Ok}
use Rattle.m161_cpu.specs.declared.processor.Outcome.{Outcome}
use Rattle.m161_cpu.specs.declared.processor.Outcome.TheVariants as outcomes
use Rattle.m161_machine.specs.declared.event.Event.TheVariants.{Step}
use Rattle.m161_machine.specs.Fetched.{fetched}
use Rattle.m161_machine.specs.State.{State, next}
use Rattle.m161_machine.specs.Uses.{uses_in}
use Rattle.m161_trace.specs.Loads.{loaded_by}
use Rattle.m161_replay.specs.Seen.{fetched_next, loaded_next}

-- The law of what moves see of a Step before it is made: it is what a trace tells once it was made.

-- a Step of processor p that is accepted fetches what its outcome says, and so it loads; and one that
-- stores in RAM runs
pub record SeenIsMade : Type 0 where
  pub fetch : (p : ℕ) (s t : State) (o : Outcome) → next s (Step p) ≡ Ok (o, t)
      → fetched_next p s ≡ fetched p s o
  pub load : (p : ℕ) (s t : State) (o : Outcome) → next s (Step p) ≡ Ok (o, t)
      → loaded_next p s ≡ loaded_by p s o
  pub store : (p word : ℕ) (s t : State) (o : Outcome) → next s (Step p) ≡ Ok (o, t)
      → (uses_in p s).stored ≡ Some word → o ≡ outcomes.Ran
