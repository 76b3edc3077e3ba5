use Rattle.std.specs.Prelude.{◌≡◌, ℕ, ◌≤◌, List, [], ◌++◌, Option, MatchOption, flat_map, replicate}
use Rattle.m161_machine.specs.declared.event.Event.{Event}

-- A list of events that is kept as runs: an event, and how many times it stands there.

-- the events of runs, one run after the other
abbrev pub unfolded : List (Event × ℕ) → List Event
unfolded runs = flat_map (λ (run : Event × ℕ). replicate run.1 run.0) runs

-- the first of the remaining events are these, the same one each time, and these remain after them;
-- or no event remains
abbrev pub TakesRun : List Event → Option (Event × ℕ) → List Event → Type 0
TakesRun left result after =
    MatchOption result ((left ≡ []) × (after ≡ []))
    (λ run. (left ≡ replicate run.1 run.0 ++ after) × (1 ≤ run.1))
