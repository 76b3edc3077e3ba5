use Rattle.std.specs.Prelude.{◌≡◌, ◌≢◌, ℕ, ◌+◌, ◌<◌, ◌≤◌, Bool, true, false, nat_le, nat_lt, ◌==◌, ◌&&◌, if◌then◌else◌, List, length, slice_index_or, sum, Option, None, Some}
use Rattle.std.specs.List.{list_all}
use Rattle.m161_machine.specs.declared.event.Event.{Event}
use Rattle.m161_machine.specs.declared.event.Event.TheVariants as event
use Rattle.m161_machine.specs.State.{counts}
use Rattle.m161_machine.specs.History.{History, Continues, IsReplay, steps_of}
use Rattle.m161_cause.specs.declared.cause.Cause.{Cause}
use Rattle.m161_cause.specs.declared.cause.Cause.TheVariants.{BadQuotas, BadBurst, Swapped}

-- The result of a run in threads: one interleaving of Steps.

-- an event is a Step of one of the first n processors
abbrev pub is_step_below : ℕ → Event → Bool
is_step_below n (event.Step q) = nat_lt q n
is_step_below n (event.Key byte) = false
is_step_below n event.Done = false

-- `made` Steps of each processor, in some order, and nothing else
pub record IsInterleaving (made : List ℕ) (events : List Event) : Type 0 where
  pub steps : list_all (is_step_below (length made)) events ≡ true
  pub each : (p : ℕ) → p < length made → steps_of p events ≡ slice_index_or made p 0

-- some interleaving of `made` Steps of each processor leads from one machine to another
pub record ShowsInterleaving (before : History) (made : List ℕ) (after : History) : Type 0 where
  pub events : List Event
  pub interleaving : IsInterleaving made events
  pub continues : Continues before events after

-- a run from a machine, with a quota of Steps for each processor: `made` Steps of each were made,
-- and nothing else. Each processor made its quota, or the machine is off and no processor made more
pub record Interleaves
    (before : History) (quotas made : List ℕ) (off : Bool) (after : History) : Type 0 where
  pub start_is : after.start ≡ before.start
  pub number : length made ≡ length quotas
  pub within : (p : ℕ) → p < length quotas → slice_index_or made p 0 ≤ slice_index_or quotas p 0
  pub whole : off ≡ false → made ≡ quotas
  pub off_is : off ≡ after.state.board.off
  -- each Step counts once
  pub counted : (p : ℕ) → p < length quotas →
      slice_index_or (counts after.state) p 0
      ≡ slice_index_or (counts before.state) p 0 + slice_index_or made p 0
  -- and is one of the events that were accepted, so that no other event was
  pub events_made : after.state.made ≡ before.state.made + sum made
  -- as long as no entry was dropped since boot, the log says in which order they were made
  pub shown : after.base.made ≡ 0 → ShowsInterleaving before made after

-- how many Steps a worker may make under one holding of the lock
abbrev pub is_burst : ℕ → Bool
is_burst burst = nat_le 1 burst && nat_le burst 1024

-- why a run doesn't begin, by the numbers of quotas and of processors, and the longest burst
abbrev pub bad_call : ℕ → ℕ → ℕ → Option Cause
bad_call quotas processors burst =
    if quotas == processors then (if is_burst burst then None else Some BadBurst)
    else Some BadQuotas

-- a cause that comes after a run began
abbrev pub IsOfRun : Cause → Type 0
IsOfRun cause = (cause ≢ BadQuotas) × (cause ≢ BadBurst)

-- Steps of the processors that there are lead from one machine to another
pub record ShowsSteps (before after : History) : Type 0 where
  pub events : List Event
  pub steps : list_all (is_step_below (length before.state.processors)) events ≡ true
  pub continues : Continues before events after

-- so many Steps were made of a machine, and nothing else, and leave this one
pub record MakesSteps (before : History) (made : ℕ) (after : History) : Type 0 where
  pub start_is : after.start ≡ before.start
  pub counted : sum (counts after.state) ≡ sum (counts before.state) + made
  pub events_made : after.state.made ≡ before.state.made + made
  pub shown : after.base.made ≡ 0 → ShowsSteps before after

-- how a run fails: if it doesn't begin, with the machine unchanged; else with the Steps that were
-- made of it, unless the machine was swapped
abbrev pub FailsRun : Option Cause → History → Cause → History → Type 0
FailsRun (Some first) before cause after = (cause ≡ first) × (after ≡ before)
FailsRun None before cause after =
    IsOfRun cause × IsReplay after
    × (cause ≢ Swapped → (made : ℕ) × MakesSteps before made after)
