use Rattle.std.specs.Prelude.{ℕ, Bool, false, ◌==◌, ◌||◌, Option, None, Some}
use Rattle.m161_cpu.specs.declared.processor.Outcome.{Outcome}
use Rattle.m161_machine.specs.declared.event.Event.{Event}
use Rattle.m161_machine.specs.declared.event.Event.TheVariants as events
use Rattle.m161_machine.specs.State.{State}
use Rattle.m161_machine.specs.Uses.{uses_in}
use Rattle.m161_trace.specs.declared.touched.Touched.{Touched}
use Rattle.m161_trace.specs.Loads.{loaded_by}

-- The words of RAM that a Step touches: those that it loads from and stores to.

-- an event that touches none
abbrev pub untouched : Touched
untouched = record { loaded = None; stored = None }

-- of an event in a state, which has this outcome
unfoldable pub touched : Event → State → Outcome → Touched
touched (events.Step p) s o = record { loaded = loaded_by p s o; stored = (uses_in p s).stored }
touched (events.Key byte) s o = untouched
touched events.Done s o = untouched

-- it touches this word

abbrev pub is_word : ℕ → Option ℕ → Bool
is_word word None = false
is_word word (Some at) = word == at

abbrev pub has_word : ℕ → Touched → Bool
has_word word t = is_word word t.loaded || is_word word t.stored
