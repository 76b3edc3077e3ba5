use Rattle.std.specs.Prelude.{◌≡◌, ◌⊎◌, ℕ, ◌%◌, ◌^◌, Bool, nat_le, ◌&&◌, if◌then◌else◌, ◌==◌, List, [], length, map, slice_get, take, Option, None, Some, Result, Err}
use Rattle.m161_delays.specs.declared.search.Class.{Class}
use Rattle.m161_delays.specs.Lists.{ComesBefore, IsOf}
use Rattle.m161_delays.specs.Runs.{AreThose, IsUsefulOf}
use Rattle.m161_drive.specs.Choice.{cursor_at}
use Rattle.m161_jobs.specs.Trials.{AreRight as AreRightIn}
use Rattle.m161_judge.specs.declared.run.JudgedRun.{JudgedRun}
use Rattle.m161_machine.specs.History.{History, IsBootState}
use Rattle.m161_machine.specs.declared.conf.Conf.{Conf}
use Rattle.m161_machine.specs.State.{State}
use Rattle.m161_order.specs.declared.delays.Delays.{Delays}
use Rattle.m161_order.specs.declared.order.Order.TheVariants.{Turns, Delayed}
use Rattle.m161_order.specs.declared.order.OrderError.{OrderError}
use Rattle.m161_order.specs.Delays.{delays_of}
use Rattle.m161_order.specs.Order.{order_fault}
use Rattle.m161_places.specs.Laws.{offered}
use Rattle.m161_reach.specs.declared.told.Told.{Told}
use Rattle.m161_c.specs.declared.answer.ClassNumbers.{ClassNumbers}
use Rattle.m161_c.specs.declared.answer.OrderNumbers.{OrderNumbers}
use Rattle.m161_c.specs.declared.answer.SoughtList.{SoughtList}
use Rattle.m161_c.specs.declared.seeds.WrongRun.{WrongRun}
use Rattle.m161_c.specs.declared.session.Session.{Session}
use Rattle.m161_c.specs.Driven.{rules_in}
use Rattle.m161_c.specs.Seeds.{Asked, IsRightBy, IsToldRun, KeepsSought, SeeksBy, number_of_event}
use Rattle.m161_c.specs.Verdicts.{no_verdict, search_verdict}

-- A search by delays: every run from boot by turns with the delays of a class, up to the first that goes wrong.

abbrev pub class_in : ClassNumbers → Class
class_in numbers = record { most = numbers.most; from = numbers.from; within = numbers.within }

-- how many processors are ready at each place of the run of a list, by turns of so many Steps, from the state at boot on
abbrev pub offered_by : Asked → ℕ → State → List ℕ → List ℕ
offered_by a steps booted =
    offered a.events (rules_in a.numbers (Turns steps) a.goal.keys) (slice_get a.goal.keys)
    (record { steps = steps; made = 0 }) (cursor_at (rules_in a.numbers (Turns steps) a.goal.keys) booted) booted

-- the run of a list has no verdict, and is cut or isn't
abbrev pub HasRightRun : Asked → ℕ → List ℕ → Bool → Type 0
HasRightRun a steps numbers is_cut =
    (delays : Delays) × (delays_of delays ≡ numbers) × IsRightBy a (Delayed steps delays) is_cut

-- the run of a list has this verdict
abbrev pub HasWrongRun : Asked → ℕ → List ℕ → WrongRun → Type 0
HasWrongRun a steps numbers wrong =
    (delays : Delays) × (delays_of delays ≡ numbers) × IsToldRun a (Delayed steps delays) wrong.run (Some wrong.told)

-- no list of a class has a run that goes wrong; its useful lists have different runs, so many of which so many are cut,
-- as far as 64 bits can say it
pub record AreCleanBy (a : Asked) (steps : ℕ) (class : Class) (found : SoughtList) (events : List ℕ) : Type 0 where
  pub each : (delays : Delays) → IsOf class (delays_of delays) → (is_cut : Bool) × IsRightBy a (Delayed steps delays) is_cut
  pub booted : State
  pub is_booted : IsBootState a.file a.conf booted
  pub lists : List (List ℕ)
  pub are_useful : AreThose (IsUsefulOf class (offered_by a steps booted)) lists
  pub cut : ℕ
  pub are_right : AreRightIn (HasRightRun a steps) lists cut
  pub verdict_is : found.verdict ≡ no_verdict
  pub runs_is : found.right ≡ length lists % 2 ^ 64
  pub cut_is : found.cut ≡ cut % 2 ^ 64
  pub none : (found.events ≡ 0) × (found.count ≡ 0) × (events ≡ [])

-- the first list of a class whose run goes wrong, its verdict, and the events that this needs; the list is useful
pub record IsFirstBy (a : Asked) (steps : ℕ) (class : Class) (found : SoughtList) (events : List ℕ) : Type 0 where
  pub booted : State
  pub is_booted : IsBootState a.file a.conf booted
  pub delays : Delays
  pub is_useful : IsUsefulOf class (offered_by a steps booted) (delays_of delays)
  pub run : JudgedRun
  pub told : Told
  pub wrong : IsToldRun a (Delayed steps delays) run (Some told)
  pub before : (others : Delays) → IsOf class (delays_of others) → ComesBefore (delays_of others) (delays_of delays) →
      (is_cut : Bool) × IsRightBy a (Delayed steps others) is_cut
  pub verdict_is : found.verdict ≡ search_verdict told.verdict
  pub counts_are : (found.right ≡ 0) × (found.cut ≡ 0)
  pub events_is : found.events ≡ told.events
  pub delays_are : take found.count found.delays ≡ delays_of delays
  pub events_are : events ≡ map (number_of_event a.conf.processors) (take told.events run.events.items)

abbrev pub IsListedBy : Asked → ℕ → Class → SoughtList → List ℕ → Type 0
IsListedBy a steps class found events = AreCleanBy a steps class found events ⊎ IsFirstBy a steps class found events

-- the Steps of a turn, where the order is by turns and a list of the class has at most 64 numbers
abbrev pub steps_in : OrderNumbers → ClassNumbers → Option ℕ
steps_in numbers class = if (numbers.kind == 0) && nat_le class.most 64 then Some numbers.turns else None

-- what comes of it, as of a search by seeds

abbrev pub SeeksListsOf : Option OrderError → Asked → ℕ → Class → Result (SoughtList × List ℕ) ℕ → Type 0
SeeksListsOf fault a steps class result = SeeksBy fault (IsListedBy a steps class) a result

abbrev pub SeeksListsIn : Option ℕ → Asked → Class → Result (SoughtList × List ℕ) ℕ → Type 0
SeeksListsIn None a class result = result ≡ Err 253
SeeksListsIn (Some steps) a class result = SeeksListsOf (order_fault (Turns steps)) a steps class result

abbrev pub SeeksListsOn :
    Option History → (Conf → Asked) → ClassNumbers → Result (SoughtList × List ℕ) ℕ → Type 0
SeeksListsOn None a class result = result ≡ Err 255
SeeksListsOn (Some m) a class result =
    SeeksListsIn (steps_in (a m.start.conf).numbers class) (a m.start.conf) (class_in class) result

abbrev pub SeeksListsAs : (Conf → Asked) → ClassNumbers → ℕ → SoughtList → SoughtList → Session → Session → Type 0
SeeksListsAs a class answer before after s t =
    (result : Result (SoughtList × List ℕ) ℕ) × SeeksListsOn s.machine a class result
    × KeepsSought result answer before after s t
