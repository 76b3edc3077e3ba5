use Rattle.std.specs.Prelude.{◌≡◌, ℕ, ◌<◌, ◌+◌, Bool, true, false, MatchBool, List, length, Option, None, Some}
use Rattle.m161_explore.specs.Lists.{Leads}
use Rattle.m161_states.specs.Question.{Question, processors_of}
use Rattle.m161_states.specs.System.{Explored, next, start}
use Rattle.m161_reach.specs.declared.walk.Walk.{Walk}
use Rattle.m161_reach.specs.declared.walk.Walk.TheVariants.{Refused, Over, Went}
use Rattle.m161_reach.specs.Hangs.{EndsEarly, GoesAlong, IsFreeAt, IsHungAt, IsOverAt}
use Rattle.m161_reach.specs.Reach.{rules_of}
use Rattle.m161_reach.specs.helpers.Advance.{unmade}

-- Walks along lists of events.

-- an event was accepted, and t is the state behind it, as before any event; or it wasn't
abbrev pub Goes : Question → Explored → ℕ → Explored → Bool → Type 0
Goes q x n t true = (u : Explored) × (n < processors_of q + 2) × (next q x n ≡ Some u) × (t ≡ unmade u)
Goes q x n t false = n < processors_of q + 2 → next q x n ≡ None

-- a list leads from boot to a state, which is shown as before any event
abbrev pub LeadsTo : Question → List ℕ → Explored → Type 0
LeadsTo q events t = (x : Explored) × Leads (rules_of q) (start q) events x × (t ≡ unmade x)

-- the machine is over behind no n events, for n below this
abbrev pub GoesOnBelow : Question → List ℕ → ℕ → Type 0
GoesOnBelow q events k = (n : ℕ) → n < k → IsOverAt q events n → ⊥

-- what a walk along a list from boot came to; t is the state to which all events led
abbrev pub Walks : Question → List ℕ → Explored → Walk → Type 0
Walks q events t Refused = (x : Explored) → Leads (rules_of q) (start q) events x → ⊥
Walks q events t Over = (n : ℕ) × IsOverAt q events n
Walks q events t Went = LeadsTo q events t × GoesOnBelow q events (length events + 1)

-- a list ends early; or it doesn't, and hangs or not
abbrev pub HangsAlong : Question → ℕ → List ℕ → Option Bool → Type 0
HangsAlong q limit events None = EndsEarly q events
HangsAlong q limit events (Some hangs) =
    GoesAlong q events × MatchBool hangs (IsHungAt q limit events) (IsFreeAt q limit events)
