use Rattle.std.specs.Prelude.{◌≡◌, ℕ, ◌<◌, Bool, true, false, List}
use Rattle.m161_delays.specs.declared.search.Class.{Class}
use Rattle.m161_delays.specs.Runs.{IsUsefulOf}
use Rattle.m161_judge.specs.declared.run.JudgedRun.{JudgedRun}
use Rattle.m161_machine.specs.History.{IsBootState}
use Rattle.m161_machine.specs.State.{State}
use Rattle.m161_order.specs.declared.delays.Delays.{Delays}
use Rattle.m161_order.specs.declared.order.Order.TheVariants.{Delayed}
use Rattle.m161_order.specs.Delays.{delays_of}
use Rattle.m161_stores.specs.Runs.{stores_in}
use Rattle.s161_command.specs.declared.task.SearchTask.{SearchTask}
use Rattle.s161_search.specs.Delays.{offered_by}
use Rattle.s161_search.specs.Given.{Given}
use Rattle.s161_search.specs.Runs.{IsBehindFirst, IsRunOf}
use Rattle.s161_search.specs.Seeds.{IsRunAt}

-- Whether no Step of the runs of a search stores to a word of RAM.

-- whether one of a run does, from the state at boot on
abbrev pub RunStores : Given → ℕ → JudgedRun → Bool → Type 0
RunStores given word run is =
    (booted : State) × IsBootState given.file given.conf booted
    × (is ≡ stores_in word booted run.events.items)

-- run k of the seeds
abbrev pub SeedStores : SearchTask → Given → ℕ → ℕ → Bool → Type 0
SeedStores task given word k is =
    (run : JudgedRun) × IsRunAt task given k run × RunStores given word run is

-- none of the seeds has a run that does; or some seed has
abbrev pub SeedsUnstored : SearchTask → Given → ℕ → Bool → Type 0
SeedsUnstored task given word true = (k : ℕ) → k < task.seeds → SeedStores task given word k false
SeedsUnstored task given word false =
    (k : ℕ) × (k < task.seeds) × SeedStores task given word k true

-- the run of a list of delays
abbrev pub ListStores : SearchTask → Given → ℕ → ℕ → List ℕ → Bool → Type 0
ListStores task given steps word numbers is =
    (delays : Delays) × (run : JudgedRun) × (delays_of delays ≡ numbers)
    × IsRunOf task given (Delayed steps delays) run × RunStores given word run is

-- none of the useful lists of a class has a run that does; or some useful list has
abbrev pub ListsUnstored : SearchTask → Given → ℕ → Class → ℕ → Bool → Type 0
ListsUnstored task given steps class word true =
    (start : State) × IsBehindFirst given start
    × ((numbers : List ℕ) → IsUsefulOf class (offered_by task given steps start) numbers
    → ListStores task given steps word numbers false)
ListsUnstored task given steps class word false =
    (start : State) × IsBehindFirst given start
    × ((numbers : List ℕ) × IsUsefulOf class (offered_by task given steps start) numbers
    × ListStores task given steps word numbers true)
