use Rattle.std.specs.Prelude.{ℕ, Bool, List}
use Rattle.m161_machine.specs.State.{State}
use Rattle.s161_command.specs.declared.task.SearchTask.{SearchTask}
use Rattle.s161_search.specs.declared.start.Start.{Start}
use Rattle.s161_search.specs.Given.{Given}
use Rattle.s161_search.specs.Unstored.{ListStores, SeedStores}
use Rattle.s161_search.specs.helpers.Begun.{BeginsAt, IsStarted}

-- The stores of the runs from what may be the start of a search.

-- if it is, whether the run of a seed stores to a word
abbrev pub SeedStoresFrom : State → Start → SearchTask → Given → ℕ → ℕ → Bool → Type 0
SeedStoresFrom s start task given word k is =
    BeginsAt given s → IsStarted given s start → SeedStores task given word k is

-- or that of a list of delays
abbrev pub ListStoresFrom : State → Start → SearchTask → Given → ℕ → ℕ → List ℕ → Bool → Type 0
ListStoresFrom s start task given steps word numbers is =
    BeginsAt given s → IsStarted given s start → ListStores task given steps word numbers is
