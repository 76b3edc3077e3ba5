use Rattle.std.specs.Prelude.{◌≡◌, ◌⊎◌, ℕ, zero, suc, ◌+◌, ◌<◌, ◌%◌, ◌^◌, Bool, if◌then◌else◌, List, [], map, take, Option, None, Some, Result, Ok, Err}
use Rattle.m161_judge.specs.declared.run.JudgedRun.{JudgedRun}
use Rattle.m161_judge.specs.Run.{IsRun}
use Rattle.m161_judge.specs.Verdict.{Criteria}
use Rattle.m161_machine.specs.declared.conf.BootError.{BootError}
use Rattle.m161_machine.specs.declared.conf.Conf.{Conf}
use Rattle.m161_machine.specs.declared.event.Event.{Event}
use Rattle.m161_machine.specs.declared.event.Event.TheVariants.{Step, Key, Done}
use Rattle.m161_machine.specs.History.{History, IsBootState, boot_fault}
use Rattle.m161_machine.specs.State.{State}
use Rattle.m161_order.specs.declared.order.Order.{Order}
use Rattle.m161_order.specs.declared.order.Order.TheVariants.{Turns, Delayed, Random, Priorities}
use Rattle.m161_order.specs.declared.order.OrderError.{OrderError}
use Rattle.m161_order.specs.Order.{order_fault}
use Rattle.m161_reach.specs.declared.told.Told.{Told}
use Rattle.m161_reach.specs.Reach.{CanBeAsked}
use Rattle.m161_reach.specs.Told.{IsRunTold}
use Rattle.m161_c.specs.declared.answer.OrderNumbers.{OrderNumbers}
use Rattle.m161_c.specs.declared.answer.Sought.{Sought}
use Rattle.m161_c.specs.declared.session.Session.{Session}
use Rattle.m161_c.specs.Driven.{number_of_order, order_in, rules_in}
use Rattle.m161_c.specs.Explored.{AreAllGood, IsRefused}
use Rattle.m161_c.specs.Files.{number_of_boot}
use Rattle.m161_c.specs.Verdicts.{no_verdict, search_verdict}

-- A search by seeds: the first run from boot that goes wrong.

-- what its runs are made of: a file that is booted on a machine of this size, the numbers of an order, so many events
-- at most, by what they are judged, and behind them so many views at most, by which they are known to hang
pub record Asked : Type 0 where
  pub file : List ℕ
  pub conf : Conf
  pub numbers : OrderNumbers
  pub events : ℕ
  pub goal : Criteria
  pub few : ℕ

-- the run by an order, and its verdict
pub record IsToldRun (a : Asked) (order : Order) (run : JudgedRun) (told : Option Told) : Type 0 where
  pub is_run : IsRun a.file a.conf (rules_in a.numbers order a.goal.keys) a.events a.goal run
  pub is_told : IsRunTold run.is_cut a.few a.goal is_run.booted run.events.items told

-- the run has no verdict, and is cut or isn't
abbrev pub IsRightBy : Asked → Order → Bool → Type 0
IsRightBy a order is_cut = (run : JudgedRun) × IsToldRun a order run None × (run.is_cut ≡ is_cut)

-- the same order with the seed k places on, modulo 2^64; one by turns has none
abbrev pub seeded : ℕ → Order → Order
seeded k (Turns steps) = Turns steps
seeded k (Delayed turns delays) = Delayed turns delays
seeded k (Random seed) = Random ((seed + k) % 2 ^ 64)
seeded k (Priorities seed changes within) = Priorities ((seed + k) % 2 ^ 64) changes within

-- of so many first things each is right, and so many of them are cut
abbrev pub AreRightTo : (ℕ → Bool → Type 0) → ℕ → ℕ → Type 0
AreRightTo right zero cut = cut ≡ 0
AreRightTo right (suc k) cut =
    (is_cut : Bool) × (rest : ℕ) × AreRightTo right k rest × right k is_cut
    × (cut ≡ (if is_cut then rest + 1 else rest))

-- so many first runs have no verdict
abbrev pub AreRight : Asked → Order → ℕ → ℕ → Type 0
AreRight a order n cut = AreRightTo (λ k is_cut. IsRightBy a (seeded k order) is_cut) n cut

-- the number of an event: of a Step its processor, of the end of a transfer the next one, of a key the one behind it
abbrev pub number_of_event : ℕ → Event → ℕ
number_of_event processors (Step p) = p
number_of_event processors Done = processors
number_of_event processors (Key byte) = processors + 1

-- none of so many runs goes wrong
pub record IsClean (a : Asked) (order : Order) (count : ℕ) (found : Sought) (events : List ℕ) : Type 0 where
  pub cut : ℕ
  pub right : AreRight a order count cut
  pub found_is : found ≡ record { verdict = no_verdict; right = count; cut = cut; events = 0 }
  pub events_are : events ≡ []

-- the first one that does, its verdict, and the events that this needs
pub record IsWrong (a : Asked) (order : Order) (count : ℕ) (found : Sought) (events : List ℕ) : Type 0 where
  pub right : ℕ
  pub within : right < count
  pub cut : ℕ
  pub before : AreRight a order right cut
  pub run : JudgedRun
  pub told : Told
  pub wrong : IsToldRun a (seeded right order) run (Some told)
  pub found_is :
      found
      ≡ record { verdict = search_verdict told.verdict; right = right; cut = cut; events = told.events }
  pub events_are :
      events ≡ map (number_of_event a.conf.processors) (take told.events run.events.items)

abbrev pub IsSought : Asked → Order → ℕ → Sought → List ℕ → Type 0
IsSought a order count found events = IsClean a order count found events ⊎ IsWrong a order count found events

-- What comes of a search: what was found, with the numbers of events, which is so; or why no run is made, as a number.
-- What is asked is looked at in this order, and the first that isn't right is answered: the order; the file and the size;
-- the watches; whether it fits its words. Behind the order, memory may be refused instead.

abbrev pub SeeksFrom : {F : Type 0} → (F → List ℕ → Type 0) → Criteria → State → Result (F × List ℕ) ℕ → Type 0
SeeksFrom IsSo goal booted (Ok told) =
    AreAllGood booted goal × CanBeAsked booted goal × IsSo told.0 told.1
SeeksFrom IsSo goal booted (Err answer) = IsRefused booted goal answer

abbrev pub SeeksBooted :
    {F : Type 0} → Option BootError → (F → List ℕ → Type 0) → Asked → Result (F × List ℕ) ℕ → Type 0
SeeksBooted (Some first) IsSo a result = result ≡ Err (number_of_boot (Err first))
SeeksBooted None IsSo a result =
    (booted : State) × IsBootState a.file a.conf booted × SeeksFrom IsSo a.goal booted result

abbrev pub SeeksBy :
    {F : Type 0} → Option OrderError → (F → List ℕ → Type 0) → Asked → Result (F × List ℕ) ℕ → Type 0
SeeksBy (Some fault) IsSo a result = result ≡ Err (number_of_order fault)
SeeksBy None IsSo a result =
    (result ≡ Err 254) ⊎ SeeksBooted (boot_fault a.file a.conf) IsSo a result

-- a search by seeds

abbrev pub SeeksOf : Option OrderError → Asked → Order → ℕ → Result (Sought × List ℕ) ℕ → Type 0
SeeksOf fault a order count result = SeeksBy fault (IsSought a order count) a result

abbrev pub SeeksIn : Option Order → Asked → ℕ → Result (Sought × List ℕ) ℕ → Type 0
SeeksIn None a count result = result ≡ Err 253
SeeksIn (Some order) a count result = SeeksOf (order_fault order) a order count result

-- of the machine of a session: its size
abbrev pub SeeksOn :
    Option History → (Conf → Asked) → ℕ → Result (Sought × List ℕ) ℕ → Type 0
SeeksOn None a count result = result ≡ Err 255
SeeksOn (Some m) a count result =
    SeeksIn (order_in (a m.start.conf).numbers) (a m.start.conf) count result

-- it is told, and the events become the session's bytes; or nothing is changed or told
abbrev pub KeepsSought :
    {F : Type 0} → Result (F × List ℕ) ℕ → ℕ → F → F → Session → Session → Type 0
KeepsSought (Ok told) answer before after s t =
    (answer ≡ 0) × (after ≡ told.0) × (t.machine ≡ s.machine) × (t.bytes.items ≡ told.1)
KeepsSought (Err why) answer before after s t = (answer ≡ why) × (after ≡ before) × (t ≡ s)

-- what is asked, but for the size
abbrev pub asked_with : List ℕ → OrderNumbers → ℕ → Criteria → ℕ → Conf → Asked
asked_with file numbers events goal few conf =
    record { file = file; conf = conf; numbers = numbers; events = events; goal = goal; few = few }

abbrev pub SeeksAs : (Conf → Asked) → ℕ → ℕ → Sought → Sought → Session → Session → Type 0
SeeksAs a count answer before after s t =
    (result : Result (Sought × List ℕ) ℕ) × SeeksOn s.machine a count result
    × KeepsSought result answer before after s t
