use Rattle.std.specs.Prelude.{◌≡◌, ℕ, Bool, List, None, Some}
use Rattle.m161_jobs.specs.declared.trials.Tested.{Tested}
use Rattle.m161_jobs.specs.declared.trials.Tested.TheVariants.{Right, Wrong}
use Rattle.m161_judge.specs.declared.run.JudgedRun.{JudgedRun}
use Rattle.m161_machine.specs.State.{State}
use Rattle.m161_order.specs.declared.delays.Delays.{Delays}
use Rattle.m161_order.specs.declared.order.Order.{Order}
use Rattle.m161_order.specs.declared.order.Order.TheVariants.{Delayed}
use Rattle.m161_order.specs.Delays.{delays_of}
use Rattle.s161_base.specs.declared.fault.Fault.{Fault}
use Rattle.s161_base.specs.declared.fault.Fault.TheVariants.{Memory}
use Rattle.s161_command.specs.declared.task.SearchTask.{SearchTask}
use Rattle.s161_search.specs.declared.orders.WrongRun.{WrongRun}
use Rattle.s161_search.specs.declared.start.Start.{Start}
use Rattle.s161_search.specs.Given.{Given}
use Rattle.s161_search.specs.Runs.{IsRunOf}
use Rattle.s161_search.specs.Seeds.{IsRightAt, IsRunAt}
use Rattle.m161_reach.specs.Told.{TellsRun}
use Rattle.m161_states.specs.Question.{Question}
use Rattle.s161_search.specs.Told.{IsRunToldAt}
use Rattle.s161_search.specs.helpers.Begun.{BeginsAt, IsStarted}
use Rattle.s161_search.specs.helpers.Telling.{Begins}

-- What is known of runs from what may be the start of a search.

-- a start of the search of what was read
abbrev pub IsStartOf : Given → Start → Type 0
IsStartOf given start = (s : State) × BeginsAt given s × IsStarted given s start

-- of which this is asked of the states behind its runs
abbrev pub BeginsBehind : Given → Start → Question → Type 0
BeginsBehind given start q = (s : State) × Begins given s q × IsStarted given s start

-- a run, whose order begins at the start
abbrev pub IsRunFrom : Start → SearchTask → Given → Order → JudgedRun → Type 0
IsRunFrom start task given order run =
    IsStartOf given start
    → (is : IsRunOf task given order run) × (is.goes.between ≡ start.core.value.state)

-- the run of a list has no verdict, and its order begins at this state
abbrev pub HasRightRunAt : State → SearchTask → Given → ℕ → List ℕ → Bool → Type 0
HasRightRunAt u task given steps numbers is_cut =
    (delays : Delays) × (run : JudgedRun) × (delays_of delays ≡ numbers)
    × (is : IsRunOf task given (Delayed steps delays) run)
    × IsRunToldAt run.is_cut task given run.events.items None × (run.is_cut ≡ is_cut)
    × (is.goes.between ≡ u)

abbrev pub IsRightFrom : Start → Question → SearchTask → Given → ℕ → List ℕ → Bool → Type 0
IsRightFrom start q task given steps numbers is_cut =
    BeginsBehind given start q
    → HasRightRunAt start.core.value.state task given steps numbers is_cut

abbrev pub IsWrongFrom : Start → Question → SearchTask → Given → ℕ → List ℕ → WrongRun → Type 0
IsWrongFrom start q task given steps numbers wrong =
    BeginsBehind given start q → (delays : Delays) × (delays_of delays ≡ numbers)
    × IsRunOf task given (Delayed steps delays) wrong.run
    × IsRunToldAt wrong.run.is_cut task given wrong.run.events.items (Some wrong.told)

-- the same of the seeds

abbrev pub IsSeedRightFrom : Start → Question → SearchTask → Given → ℕ → Bool → Type 0
IsSeedRightFrom start q task given k is_cut =
    BeginsBehind given start q → IsRightAt task given k is_cut

abbrev pub IsSeedWrongFrom : Start → Question → SearchTask → Given → ℕ → WrongRun → Type 0
IsSeedWrongFrom start q task given k wrong =
    BeginsBehind given start q
    → IsRunAt task given k wrong.run
    × IsRunToldAt wrong.run.is_cut task given wrong.run.events.items (Some wrong.told)

-- behind a start only memory can be refused
abbrev pub IsNoMemory : Fault → Type 0
IsNoMemory fault = fault ≡ Memory

-- what became of a run, where so many states behind it may be looked at, of which this is asked
abbrev pub IsTested : ℕ → Question → JudgedRun → Tested WrongRun → Type 0
IsTested few q run (Right is_cut) =
    TellsRun few q run None × (run.is_cut ≡ is_cut)
IsTested few q run (Wrong wrong) =
    (wrong.run ≡ run) × TellsRun few q run (Some wrong.told)
