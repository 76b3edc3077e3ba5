use Rattle.std.specs.Prelude.{◌≡◌, ℕ, ◌+◌, ◌%◌, nat_le, nat_lt, ◌==◌, ◌&&◌, if◌then◌else◌, List, Option, None, Some}
use Rattle.m161_machine.specs.Uses.{uses_in}
use Rattle.m161_alike.specs.Addresses.{with_address}
use Rattle.m161_explore.specs.declared.system.Advanced.{Advanced}
use Rattle.m161_explore.specs.declared.system.Advanced.TheVariants.{Refused}
use Rattle.m161_states.specs.declared.verdict.Unknown.{Unknown}
use Rattle.m161_states.specs.Question.{Question, processors_of}
use Rattle.m161_states.specs.System.{Explored, event_of}
use Rattle.m161_reach.specs.helpers.Advance.{IsBehind}

-- What an event does to a state in hand.

-- t is x, or behind event n of x; where the event is refused, it is x
abbrev pub IsHandled : {V : Type 0} → Question → Explored → ℕ → Explored → Advanced V Unknown → Type 0
IsHandled q x n t came = IsBehind q.goal x (event_of q x n) t × (came ≡ Refused → t ≡ x)

-- the word that event n of x stores to, if it is a Step
abbrev pub stored_at : Question → Explored → ℕ → Option ℕ
stored_at q x n = if nat_lt n (processors_of q) then (uses_in n x.state).stored else None

-- addresses with that of a word of RAM of this size
abbrev pub addresses_after : Option ℕ → ℕ → List ℕ → List ℕ
addresses_after None size places = places
addresses_after (Some at) size places =
    if (at % 4 == 0) && nat_le (at + 4) size then with_address at places else places
