use Rattle.std.specs.Prelude.{ℕ, Bool, List, [], Option, None, Some, Result}
use Rattle.m161_delays.specs.declared.search.Class.{Class}
use Rattle.m161_judge.specs.Memory.{IsKeptOf, StepsMemory}
use Rattle.m161_machine.specs.State.{State}
use Rattle.m161_order.specs.declared.order.OrderError.{OrderError}
use Rattle.m161_states.specs.Question.{Question}
use Rattle.m161_c.specs.declared.answer.SoughtSlice.{SoughtSlice}
use Rattle.m161_c.specs.declared.seeds.WrongRun.{WrongRun}
use Rattle.m161_c.specs.Delays.{HasRightRun, HasWrongRun, IsListedBy}
use Rattle.m161_c.specs.Seeds.{Asked, SeeksBy}
use Rattle.m161_c.specs.Slices.{IsSlicedBy}
use Rattle.m161_c.specs.helpers.Seeking.{Begins}

-- A search over lists of delays, made from what may be the state at boot.

-- where it is, and this is kept of no Steps

abbrev pub IsRightFrom : Asked → State → Question → StepsMemory → ℕ → List ℕ → Bool → Type 0
IsRightFrom a s q kept steps numbers is_cut =
    Begins a s q → IsKeptOf a.goal s [] kept → HasRightRun a steps numbers is_cut

abbrev pub IsWrongFrom : Asked → State → Question → StepsMemory → ℕ → List ℕ → WrongRun → Type 0
IsWrongFrom a s q kept steps numbers wrong =
    Begins a s q → IsKeptOf a.goal s [] kept → HasWrongRun a steps numbers wrong

-- the whole search, or a slice of so many runs from a list on
abbrev pub IsLookedBy : Asked → ℕ → Class → List ℕ → Option ℕ → SoughtSlice → List ℕ → Type 0
IsLookedBy a steps class from None told events = IsListedBy a steps class told.found events
IsLookedBy a steps class from (Some most) told events = IsSlicedBy a steps class from most told events

-- what comes of it
abbrev pub LooksBy :
    Option OrderError → ℕ → Class → List ℕ → Option ℕ → Asked → Result (SoughtSlice × List ℕ) ℕ → Type 0
LooksBy fault steps class from limit a result = SeeksBy fault (IsLookedBy a steps class from limit) a result
