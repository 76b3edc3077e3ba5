use Rattle.std.specs.Prelude.{◌≡◌, ℕ, ◌+◌, ◌<◌, if◌then◌else◌, List, Option, None, Some, slice_index_or}
use Rattle.std.specs.List.{All}
use Rattle.m161_cpu.specs.declared.processor.Outcome.{Outcome}
use Rattle.m161_cpu.specs.declared.processor.Outcome.TheVariants.{Ran, Trapped, Idle, PoweredOff, Conflict, Taken}
use Rattle.m161_machine.specs.declared.event.Entry.{Entry}
use Rattle.m161_machine.specs.History.{is_step_of}
use Rattle.m161_traps.specs.declared.trapping.Trapping.{Trapping}
use Rattle.m161_traps.specs.declared.watch.Vectors.{Vectors}
use Rattle.m161_traps.specs.Trapping.{last_trapping}
use Rattle.m161_traps.specs.Watching.{IsSeen}

-- How a watch goes on, entry by entry.

abbrev pub count_of : Option Trapping → ℕ
count_of None = 0
count_of (Some last) = last.count

-- what a processor's last Steps are after one with this outcome
abbrev pub after : Option Trapping → Outcome → Option Trapping
after before Ran = None
after before (Trapped code vector) = Some (record { code = code; count = count_of before + 1 })
after before Idle = None
after before PoweredOff = None
after before (Conflict row other) = None
after before Taken = None

-- the same after an entry, which may be no Step of it
abbrev pub after_entry : ℕ → Entry → Option Trapping → Option Trapping
after_entry p e before = if is_step_of p e.event then after before e.outcome else before

-- the last Steps of each processor, and the vectors of the entries so far
pub record IsKept
    (tails : List (Option Trapping)) (vectors : Vectors) (so_far : List Entry) : Type 0 where
  pub last : (p : ℕ) → p < 32 → slice_index_or tails p None ≡ last_trapping p so_far
  pub seen : All (λ (e : Entry). IsSeen vectors e.outcome) so_far
