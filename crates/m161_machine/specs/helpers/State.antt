use Rattle.std.specs.Prelude.{ℕ, ◌+◌, List, slice_index_or, slice_set}
use Rattle.m161_machine.specs.declared.event.Event.{Event}
use Rattle.m161_machine.specs.declared.event.Event.TheVariants as event
use Rattle.m161_machine.specs.State.{counts}

-- the counts after an event: a Step counts once, of its processor
abbrev pub counts_after : Event → List ℕ → List ℕ
counts_after (event.Step p) counts = slice_set counts p (slice_index_or counts p 0 + 1)
counts_after (event.Key byte) counts = counts
counts_after event.Done counts = counts
