use Rattle.std.proofs.Common.{◌≡◌}
use Rattle.std.specs.Prelude.{drop}
use Rattle.m161_stores.specs.Runs.{state_at_store, stores_in}
use Rattle.m161_stores.proofs.run.stores_to.Given as goal

-- none of the events so far stores to the word
abbrev pub invariant-loop-event : goal.invariant-loop-event
invariant-loop-event g l =
    (stores_in l.word l.fn.core.state l.events ≡ stores_in l.word l.core.state (drop l.event-index l.events))
    × (state_at_store l.word l.fn.core.state l.events ≡ state_at_store l.word l.core.state (drop l.event-index l.events))
