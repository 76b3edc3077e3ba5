use Rattle.std.specs.Prelude.{ℕ, ◌+◌, ◌==◌, if◌then◌else◌, List, [], ◌∷◌, flat_map, replicate}
use Rattle.m161_machine.specs.declared.event.Event.{Event}
use Rattle.m161_machine.specs.declared.event.Event.TheVariants as events

-- The blocks of a list of events.

-- Steps of one processor side by side, as many as there are; or one other event
pub data Block : Type 0 where
  Steps : (p n : ℕ) → Block
  Other : (event : Event) → Block

-- a Step of p before blocks: it joins the first one, if that has Steps of p
abbrev pub step_before : ℕ → List Block → List Block
step_before p [] = Steps p 1 ∷ []
step_before p (Steps q n ∷ bs) =
    if p == q then Steps q (n + 1) ∷ bs else Steps p 1 ∷ Steps q n ∷ bs
step_before p (Other e ∷ bs) = Steps p 1 ∷ Other e ∷ bs

abbrev pub event_before : Event → List Block → List Block
event_before (events.Step p) bs = step_before p bs
event_before (events.Key byte) bs = Other (events.Key byte) ∷ bs
event_before events.Done bs = Other events.Done ∷ bs

abbrev pub blocks : List Event → List Block
blocks [] = []
blocks (e ∷ es) = event_before e (blocks es)

-- n Steps of p
abbrev pub steps : ℕ → ℕ → List Event
steps p n = replicate n (events.Step p)

abbrev pub block_events : Block → List Event
block_events (Steps p n) = steps p n
block_events (Other e) = e ∷ []

-- the events of blocks, one block after the other
abbrev pub events_in : List Block → List Event
events_in bs = flat_map block_events bs
