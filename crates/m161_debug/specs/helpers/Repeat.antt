use Rattle.std.specs.Prelude.{ℕ, ◌+◌, List, take, drop}
use Rattle.m161_machine.specs.declared.event.Entry.{Entry}
use Rattle.m161_machine.specs.State.{State}
use Rattle.m161_machine.specs.History.{Continues, History, Leads, events_of}

-- of a log that leads to t, the n events from a place on are made again: they are accepted, and the
-- rest of the log leads to t from there
pub record Repeats
    (log : List Entry) (t : State) (first n : ℕ) (old new : History) : Type 0 where
  pub again : Continues old (take n (drop first (events_of log))) new
  pub rest : Leads new.state (drop (first + n) log) t
