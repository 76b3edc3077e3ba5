use Rattle.std.specs.Prelude.{ℕ, Bool, false, ◌==◌, ◌||◌, if◌then◌else◌, List, [], ◌∷◌, Option, None, Some, Result, Ok, Err}
use Rattle.m161_cpu.specs.declared.processor.Outcome.{Outcome}
use Rattle.m161_machine.specs.declared.event.Event.{Event}
use Rattle.m161_machine.specs.declared.event.Refusal.{Refusal}
use Rattle.m161_machine.specs.State.{State, next}
use Rattle.m161_states.specs.System.{stored_by}

-- Whether a Step of a list of events stores to a word of RAM. An event that is refused changes nothing, and
-- stores nothing.

-- the state behind an event
abbrev pub state_behind : State → Result (Outcome × State) Refusal → State
state_behind s (Ok given) = given.1
state_behind s (Err why) = s

-- a store is one to this word
abbrev pub is_word : ℕ → Option ℕ → Bool
is_word word None = false
is_word word (Some other) = other == word

-- an event is accepted, and is a Step that stores to this word
abbrev pub stores_at : ℕ → State → Event → Result (Outcome × State) Refusal → Bool
stores_at word s e (Ok given) = is_word word (stored_by e s)
stores_at word s e (Err why) = false

-- some event of a list is, from a state on
abbrev pub stores_in : ℕ → State → List Event → Bool
stores_in word s [] = false
stores_in word s (e ∷ es) =
    stores_at word s e (next s e) || stores_in word (state_behind s (next s e)) es

-- the state behind the first of them, or behind all of them where none is
abbrev pub state_at_store : ℕ → State → List Event → State
state_at_store word s [] = s
state_at_store word s (e ∷ es) =
    if stores_at word s e (next s e) then state_behind s (next s e)
    else state_at_store word (state_behind s (next s e)) es
