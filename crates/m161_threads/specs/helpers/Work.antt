use Rattle.std.specs.Prelude.{◌≡◌, ℕ, ◌+◌, ◌<◌, ◌≤◌, Bool, true, false, List, length, slice_index, slice_index_or, Option, None, Some, if◌then◌else◌}
use Rattle.m161_machine.specs.declared.event.Refusal.{Refusal}
use Rattle.m161_machine.specs.declared.event.Refusal.TheVariants.{BadProcessor, Off, Worn, KeyFull, NothingSent, NoMemory}
use Rattle.m161_threads.specs.declared.book.Burst.{Burst}
use Rattle.m161_threads.specs.declared.worker.WorkerStop.{WorkerStop}
use Rattle.m161_threads.specs.declared.worker.Task.{Task}
use Rattle.m161_threads.specs.Shares.{SeatState}

-- The work of a worker with its seat.

-- a worker with a processor's seat, which has this many Steps, and a quota: the seat that it
-- returns, how many Steps it made, and why it stopped early, if it did
pub record Works
    (processor before quota : ℕ) (new : SeatState) (made : ℕ) (stop : Option WorkerStop) : Type 0 where
  pub processor_is : new.processor ≡ processor
  pub counted : new.count ≡ before + made
  pub within : made ≤ quota
  -- it stops early for a reason that it gives, or because the machine is off
  pub whole : stop ≡ None → new.noted ≡ false → made ≡ quota

abbrev pub task_of : SeatState → ℕ → Task
task_of seat quota = record { processor = seat.processor; before = seat.count; quota = quota }

-- the result of a worker with a task
abbrev pub KeepsTask : Task → SeatState → ℕ → Option WorkerStop → Type 0
KeepsTask t new made stop = Works t.processor t.before t.quota new made stop

-- whether a burst ended because the machine is off
abbrev pub found_off : Option Refusal → Bool
found_off None = false
found_off (Some BadProcessor) = false
found_off (Some Off) = true
found_off (Some Worn) = false
found_off (Some KeyFull) = false
found_off (Some NothingSent) = false
found_off (Some NoMemory) = false

-- a seat after the lock was taken for a burst
abbrev pub after_turn : Burst → SeatState → SeatState
after_turn burst seat = record seat {
  count = seat.count + burst.made;
  noted = if found_off burst.refusal then true else seat.noted;
}

-- workers with these seats and quotas, none with a reason to stop: the seats that they return, and
-- how many Steps each made
pub record HasWorked
    (seats : List SeatState) (quotas : List ℕ) (after : List SeatState) (made : List ℕ)
    : Type 0 where
  pub seats_number : length after ≡ length quotas
  pub made_number : length made ≡ length quotas
  pub each : (k : ℕ) (d e : SeatState) → k < length quotas →
      Works (slice_index_or seats k e).processor (slice_index_or seats k e).count
      (slice_index quotas k) (slice_index_or after k d) (slice_index made k) None
