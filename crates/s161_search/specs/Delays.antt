use Rattle.std.specs.Prelude.{◌≡◌, ℕ, ◌%◌, ◌^◌, Bool, List, length, slice_get, None, Some}
use Rattle.m161_delays.specs.declared.search.Class.{Class}
use Rattle.m161_delays.specs.Lists.{ComesBefore, IsOf}
use Rattle.m161_delays.specs.Runs.{AreThose, IsUsefulOf}
use Rattle.m161_jobs.specs.Trials.{AreRight}
use Rattle.m161_drive.specs.Choice.{cursor_at}
use Rattle.m161_judge.specs.declared.run.JudgedRun.{JudgedRun}
use Rattle.m161_machine.specs.State.{State}
use Rattle.m161_order.specs.declared.delays.Delays.{Delays}
use Rattle.m161_order.specs.declared.order.Order.TheVariants.{Delayed}
use Rattle.m161_order.specs.Delays.{delays_of}
use Rattle.m161_places.specs.Laws.{offered}
use Rattle.s161_command.specs.declared.class.DelayClass.{DelayClass}
use Rattle.s161_command.specs.declared.task.SearchTask.{SearchTask}
use Rattle.s161_run.specs.Driven.{rules_of}
use Rattle.m161_reach.specs.declared.told.Told.{Told}
use Rattle.s161_search.specs.Given.{Given}
use Rattle.s161_search.specs.Runs.{IsBehindFirst, IsRunOf, most_of}
use Rattle.s161_search.specs.Told.{IsRunToldAt}

-- The runs that a search by delays makes.

-- the class of lists
abbrev pub class_of : DelayClass → Class
class_of class = record { most = class.most; from = class.from; within = class.within }

-- how many processors are ready at each place of the run of a list, by turns of so many Steps, from the
-- state behind the events that come first
abbrev pub offered_by : SearchTask → Given → ℕ → State → List ℕ → List ℕ
offered_by task given steps u =
    offered (most_of task given) (rules_of task.drive given.keys) (slice_get given.keys)
    (record { steps = steps; made = 0 }) (cursor_at (rules_of task.drive given.keys) u) u

-- the run of a list has no verdict, and is cut or isn't
abbrev pub HasRightRun : SearchTask → Given → ℕ → List ℕ → Bool → Type 0
HasRightRun task given steps numbers is_cut =
    (delays : Delays) × (run : JudgedRun) × (delays_of delays ≡ numbers)
    × IsRunOf task given (Delayed steps delays) run × IsRunToldAt run.is_cut task given run.events.items None
    × (run.is_cut ≡ is_cut)

-- the run of these delays has no verdict
abbrev pub IsRightBy : SearchTask → Given → ℕ → Delays → Type 0
IsRightBy task given steps delays =
    (run : JudgedRun) × IsRunOf task given (Delayed steps delays) run
    × IsRunToldAt run.is_cut task given run.events.items None

-- no list of a class has a run that goes wrong; its useful lists have different runs, so many of which
-- so many are cut, as far as 64 bits can say it
pub record AreCleanBy
    (task : SearchTask) (given : Given) (steps : ℕ) (class : Class) (runs cut : ℕ) : Type 0 where
  pub each : (delays : Delays) → IsOf class (delays_of delays) → IsRightBy task given steps delays
  pub start : State
  pub is_start : IsBehindFirst given start
  pub lists : List (List ℕ)
  pub are_useful : AreThose (IsUsefulOf class (offered_by task given steps start)) lists
  pub all_cut : ℕ
  pub are_right : AreRight (HasRightRun task given steps) lists all_cut
  pub runs_is : runs ≡ length lists % 2 ^ 64
  pub cut_is : cut ≡ all_cut % 2 ^ 64

-- the first list of a class whose run goes wrong, and its verdict; it is useful
pub record IsFirstBy
    (task : SearchTask) (given : Given) (steps : ℕ) (class : Class) (numbers : List ℕ) (run : JudgedRun)
    (told : Told) : Type 0 where
  pub start : State
  pub is_start : IsBehindFirst given start
  pub is_useful : IsUsefulOf class (offered_by task given steps start) numbers
  pub delays : Delays
  pub delays_are : delays_of delays ≡ numbers
  pub is_run : IsRunOf task given (Delayed steps delays) run
  pub wrong : IsRunToldAt run.is_cut task given run.events.items (Some told)
  pub before : (others : Delays) → IsOf class (delays_of others) →
      ComesBefore (delays_of others) numbers → IsRightBy task given steps others
