use Rattle.std.specs.Prelude.{◌≡◌, ℕ, ◌+◌, false, nat_lt, ◌==◌, if◌then◌else◌, List, [], ◌∷◌, length, slice_get, Option, None, Some, option_map}
use Rattle.m161_machine.specs.declared.event.Event.{Event}
use Rattle.m161_machine.specs.declared.event.Event.TheVariants.{Step, Key, Done}
use Rattle.m161_machine.specs.History.{boot_state}
use Rattle.m161_machine.specs.State.{State, is_worn}
use Rattle.m161_judge.specs.Verdict.{after}
use Rattle.m161_states.specs.Question.{Question, booted, processors_of}
use Rattle.m161_states.specs.System.{Explored, event_named, fresh, start, typed_after}
use Rattle.m161_explore.specs.Lists.{Leads}
use Rattle.m161_reach.specs.Reach.{rules_of}

-- The events of a list of their numbers, as they are printed.

abbrev pub with_event : Option Event → (Event → List Event) → List Event
with_event None rest = []
with_event (Some e) rest = e ∷ rest e

-- where so many keys are typed before; up to the first number without an event
abbrev pub events_named : ℕ → List ℕ → ℕ → List ℕ → List Event
events_named processors keys typed [] = []
events_named processors keys typed (n ∷ ns) =
    with_event (event_named processors keys typed n)
    (λ e. events_named processors keys (typed_after e typed) ns)

-- the events of a list in an exploration
abbrev pub events_of : Question → List ℕ → List Event
events_of q numbers = events_named (processors_of q) q.goal.keys 0 numbers

-- the law: where a list leads an exploration from its start to a state, the machine accepts all of its
-- events, one after the other from boot on, and they lead to that state, but for how many they are;
-- unless they are more than a machine counts
abbrev pub NamedAreMade : Type 0
NamedAreMade =
    (q : Question) (numbers : List ℕ) (x : Explored) → is_worn (length numbers) ≡ false
    → Leads (rules_of q) (start q) numbers x
    → (s : State) × (after (boot_state (booted q)) (events_of q numbers) ≡ Some s)
    × (fresh s ≡ fresh x.state)

-- and back: the number of an event, where so many keys are typed. A Step of none of the processors, and a
-- key that isn't the next, have none
abbrev pub number_of_key : ℕ → Option ℕ → ℕ → Option ℕ
number_of_key processors None byte = None
number_of_key processors (Some key) byte = if key == byte then Some (processors + 1) else None

abbrev pub number_of : ℕ → List ℕ → ℕ → Event → Option ℕ
number_of processors keys typed (Step p) = if nat_lt p processors then Some p else None
number_of processors keys typed (Key byte) = number_of_key processors (slice_get keys typed) byte
number_of processors keys typed Done = Some processors

abbrev pub with_number : Option ℕ → Option (List ℕ) → Option (List ℕ)
with_number None numbers = None
with_number (Some n) numbers = option_map (λ ns. n ∷ ns) numbers

-- the numbers of events, if all have one
abbrev pub numbers_named : ℕ → List ℕ → ℕ → List Event → Option (List ℕ)
numbers_named processors keys typed [] = Some []
numbers_named processors keys typed (e ∷ es) =
    with_number (number_of processors keys typed e)
    (numbers_named processors keys (typed_after e typed) es)

-- those of the events of a list in an exploration, which are no more than a machine counts
abbrev pub numbers_of : Question → List Event → Option (List ℕ)
numbers_of q events =
    if is_worn (length events) then None
    else numbers_named (processors_of q) q.goal.keys 0 events

-- the law: events that have numbers are the events of these
abbrev pub NumbersName : Type 0
NumbersName =
    (q : Question) (events : List Event) (numbers : List ℕ) → numbers_of q events ≡ Some numbers
    → events_of q numbers ≡ events
