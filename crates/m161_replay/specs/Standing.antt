use Rattle.std.specs.Prelude.{◌≡◌, ◌≤◌, ℕ, ◌+◌, List, drop, length}
use Rattle.m161_machine.specs.declared.event.Event.{Event}
use Rattle.m161_machine.specs.State.{State}
use Rattle.m161_moves.specs.Threads.{last_processor}
use Rattle.m161_replay.specs.Replays.{course_of, number_made, state_at}

-- How the code stands at a place.

-- this is the state at a place of a run, and the processor of the last Step before it
pub record IsAt (start : State) (list : List Event) (place last : ℕ) (s : State) : Type 0 where
  pub state_is : s ≡ state_at start list place
  pub end_is : number_made start list ≡ place + number_made s (drop place list)
  pub last_is : last ≡ last_processor (course_of start list) place
  pub within : place ≤ length list
