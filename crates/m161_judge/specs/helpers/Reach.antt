use Rattle.std.specs.Prelude.{◌≡◌, ℕ, ◌<◌, ◌==◌, true, if◌then◌else◌, List, length, is_some, Option, None, Some, Result, Ok, Err}
use Rattle.std.specs.List.{list_any}
use Rattle.m161_cpu.specs.declared.processor.Outcome.{Outcome}
use Rattle.m161_cpu.specs.Fetch.{fetched_word}
use Rattle.m161_machine.specs.declared.conf.BootError.TheVariants.{NoMemory}
use Rattle.m161_machine.specs.declared.event.Event.{Event}
use Rattle.m161_machine.specs.declared.event.Event.TheVariants.{Step}
use Rattle.m161_machine.specs.Fetched.{fetches_none}
use Rattle.m161_machine.specs.State.{State, processor_at}
use Rattle.m161_audit.specs.declared.finding.AuditError.{AuditError}
use Rattle.m161_audit.specs.declared.finding.AuditError.TheVariants.{Boot}
use Rattle.m161_judge.specs.declared.reach.Reach.{Reach}
use Rattle.m161_judge.specs.declared.reach.Sought.{Sought}
use Rattle.m161_judge.specs.declared.reach.Sought.TheVariants.{Open, Over}
use Rattle.m161_judge.specs.Memory.{IsFirstReach, IsSought}

-- How the code finds the first Step that reaches an address.

-- the first reach that the search came to
abbrev pub reach_in : Sought → Option Reach
reach_in Open = None
reach_in (Over reach) = reach

-- how far the search came along these events, or memory was refused
abbrev pub Seeks : List ℕ → State → List Event → Result Sought AuditError → State → Type 0
Seeks never s events (Ok sought) t = IsSought never s events sought t
Seeks never s events (Err error) t = error ≡ Boot NoMemory

-- the place of a reach is below n
abbrev pub IsSoughtBelow : ℕ → Sought → Type 0
IsSoughtBelow n Open = Unit {0}
IsSoughtBelow n (Over None) = Unit {0}
IsSoughtBelow n (Over (Some reach)) = reach.place < n

-- the first reach, or memory was refused
abbrev pub FindsReach : List ℕ → State → List Event → Result (Option Reach) AuditError → Type 0
FindsReach never s events (Ok reach) = IsFirstReach never s events reach
FindsReach never s events (Err error) = error ≡ Boot NoMemory

-- an event is a Step of processor p, which could fetch a word at its address, one of these
pub record WouldReach (never : List ℕ) (s : State) (e : Event) (p address : ℕ) : Type 0 where
  pub event_is : e ≡ Step p
  pub place : p < length s.processors
  pub address_is : address ≡ (processor_at p s.processors).pc
  pub has_word : is_some (fetched_word s.memory address (processor_at p s.processors)) ≡ true
  pub is_among : list_any (λ a. a == address) never ≡ true

abbrev pub reach_at : ℕ → ℕ → ℕ → Reach
reach_at place p address = record { place = place; processor = p; address = address }

-- what would be reached is, unless the Step fetched nothing
abbrev pub IsReachBy : ℕ → Option (ℕ × ℕ) → Outcome → Option Reach → Type 0
IsReachBy place None outcome reach = reach ≡ None
IsReachBy place (Some would) outcome reach =
    reach ≡ (if fetches_none outcome then None else Some (reach_at place would.0 would.1))
