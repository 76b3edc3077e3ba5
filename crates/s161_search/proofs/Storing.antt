use Rattle.std.proofs.Common.{◌≡◌, refl, ℕ, Bool, true, false, arith}
use Rattle.m161_delays.specs.declared.search.Class.{Class}
use Rattle.m161_delays.specs.declared.search.Searched.TheVariants as searched
use Rattle.m161_delays.specs.Search.{Finds}
use Rattle.m161_delays.proofs.Counting.{right_among}
use Rattle.m161_jobs.specs.declared.trials.Tried.TheVariants as tried
use Rattle.m161_jobs.specs.Answers.{IsAnswer}
use Rattle.m161_jobs.proofs.Rights.{right_at}
use Rattle.m161_judge.specs.declared.run.JudgedRun.{JudgedRun}
use Rattle.m161_machine.specs.State.{State}
use Rattle.m161_order.specs.declared.delays.Delays.{Delays}
use Rattle.m161_order.specs.declared.order.Order.TheVariants.{Delayed}
use Rattle.m161_order.specs.Delays.{delays_of}
use Rattle.m161_stores.specs.Runs.{stores_in}
use Rattle.s161_command.specs.declared.task.SearchTask.{SearchTask}
use Rattle.s161_search.specs.declared.start.Start.{Start}
use Rattle.s161_search.specs.Delays.{offered_by}
use Rattle.s161_search.specs.Given.{Given}
use Rattle.s161_search.specs.Seeds.{seed_at, with_seed}
use Rattle.s161_search.specs.Unstored.{ListsUnstored, SeedsUnstored}
use Rattle.s161_search.specs.helpers.Begun.{BeginsAt, IsStarted}
use Rattle.s161_search.specs.helpers.Delayed.{IsRunFrom}
use Rattle.s161_search.specs.helpers.Storing.{ListStoresFrom, SeedStoresFrom}
use Rattle.s161_search.proofs.Booting.{begins}
use Rattle.s161_search.proofs.Starting.{behind_first}

-- The stores of the runs of a search.

pub seed_stores : (s : State) (start : Start) (task : SearchTask) (given : Given) (word k : ℕ) (run : JudgedRun) (is : Bool) →
    IsRunFrom start task given (with_seed (seed_at task.drive.order k) task.drive.order) run → is ≡ stores_in word s run.events.items →
    SeedStoresFrom s start task given word k is
seed_stores s start task given word k run is made stores = λ boots started.
    (run, (made (s, boots, started)).0, (s, begins given s boots, stores))

pub list_stores : (s : State) (start : Start) (task : SearchTask) (given : Given) (steps word : ℕ) (delays : Delays) (run : JudgedRun) (is : Bool) →
    IsRunFrom start task given (Delayed steps delays) run → is ≡ stores_in word s run.events.items →
    ListStoresFrom s start task given steps word (delays_of delays) is
list_stores s start task given steps word delays run is made stores = λ boots started.
    (delays, run, refl, (made (s, boots, started)).0, (s, begins given s boots, stores))

-- what came of all runs

pub no_seed_stores : (s : State) (start : Start) (task : SearchTask) (given : Given) (word cut : ℕ) → BeginsAt given s → IsStarted given s start →
    IsAnswer (λ k is_cut. SeedStoresFrom s start task given word k false) (λ k (found : Unit {0}). SeedStoresFrom s start task given word k true) task.seeds (tried.Clean cut) →
    SeedsUnstored task given word true
no_seed_stores s start task given word cut boots started h = λ k below.
    let here = right_at (λ k is_cut. SeedStoresFrom s start task given word k false) 0 task.seeds cut k h (omega arith) (omega (arith, below)) in
    here.1 boots started

pub some_seed_stores : (s : State) (start : Start) (task : SearchTask) (given : Given) (word place : ℕ) (found : Unit {0}) → BeginsAt given s → IsStarted given s start →
    IsAnswer (λ k is_cut. SeedStoresFrom s start task given word k false) (λ k (found : Unit {0}). SeedStoresFrom s start task given word k true) task.seeds (tried.Wrong place found) →
    SeedsUnstored task given word false
some_seed_stores s start task given word place found boots started h = (place, h.0, h.1 boots started)

pub no_list_stores : (s : State) (start : Start) (task : SearchTask) (given : Given) (steps word : ℕ) (class : Class) (runs cut : ℕ) → BeginsAt given s → IsStarted given s start →
    Finds class (offered_by task given steps start.core.value.state) (λ numbers is_cut. ListStoresFrom s start task given steps word numbers false)
    (λ numbers (found : Unit {0}). ListStoresFrom s start task given steps word numbers true) (searched.Clean runs cut) →
    ListsUnstored task given steps class word true
no_list_stores s start task given steps word class runs cut boots started h = (
  start.core.value.state,
  behind_first given s start boots started,
  λ numbers useful.
      (let here = right_among (λ numbers is_cut. ListStoresFrom s start task given steps word numbers false) h.lists h.all_cut numbers h.are_right (h.are_useful.all numbers useful) in
      here.1 boots started),
)

pub some_list_stores : (s : State) (start : Start) (task : SearchTask) (given : Given) (steps word : ℕ) (class : Class) (delays : Delays) (found : Unit {0}) →
    BeginsAt given s → IsStarted given s start →
    Finds class (offered_by task given steps start.core.value.state) (λ numbers is_cut. ListStoresFrom s start task given steps word numbers false)
    (λ numbers (found : Unit {0}). ListStoresFrom s start task given steps word numbers true) (searched.Wrong delays found) →
    ListsUnstored task given steps class word false
some_list_stores s start task given steps word class delays found boots started h = (
  start.core.value.state,
  behind_first given s start boots started,
  (delays_of delays, h.is_useful, h.is_wrong boots started),
)
