use Rattle.std.specs.Prelude.{◌≡◌, ℕ, ◌<◌, Bool, true, ◌==◌, if◌then◌else◌, List, None, slice_index_or}
use Rattle.std.specs.List.{All}
use Rattle.m161_cpu.specs.declared.processor.Outcome.{Outcome}
use Rattle.m161_cpu.specs.declared.processor.Outcome.TheVariants.{Ran, Trapped, Idle, PoweredOff, Conflict, Taken}
use Rattle.m161_elf.specs.declared.span.Span.{Span}
use Rattle.m161_machine.specs.declared.event.Entry.{Entry}
use Rattle.m161_traps.specs.declared.watch.Vectors.{Vectors}
use Rattle.m161_traps.specs.declared.watch.Watch.{Watch}
use Rattle.m161_traps.specs.Trapping.{last_trapping}
use Rattle.m161_traps.specs.Unhandled.{is_in_file}

-- What a watch has of the entries of a run, without their states.

-- there was a trap to a vector, or there may have been one
abbrev pub has_vector : Vectors → ℕ → Bool
has_vector vectors to =
    if to == 0x80000000 then vectors.miss
    else if to == 0x80000080 then vectors.general else vectors.beyond

-- a trap is to a vector that is among these
abbrev pub IsSeen : Vectors → Outcome → Type 0
IsSeen vectors Ran = Unit {0}
IsSeen vectors (Trapped code to) = has_vector vectors to ≡ true
IsSeen vectors Idle = Unit {0}
IsSeen vectors PoweredOff = Unit {0}
IsSeen vectors (Conflict row other) = Unit {0}
IsSeen vectors Taken = Unit {0}

-- a trap is to a vector at which the file has a byte
abbrev pub IsToFile : List Span → Outcome → Type 0
IsToFile spans Ran = Unit {0}
IsToFile spans (Trapped code to) = is_in_file spans to ≡ true
IsToFile spans Idle = Unit {0}
IsToFile spans PoweredOff = Unit {0}
IsToFile spans (Conflict row other) = Unit {0}
IsToFile spans Taken = Unit {0}

-- what a watch has of the entries so far: each processor's last Steps, if they trapped; all vectors to
-- which there were traps; and that no processor's last Step trapped, where it says so
pub record IsWatched (watch : Watch) (so_far : List Entry) : Type 0 where
  pub last :
      (p : ℕ) → p < 32 → slice_index_or watch.tails p None ≡ last_trapping p so_far
  pub seen : All (λ (e : Entry). IsSeen watch.vectors e.outcome) so_far
  pub quiet : watch.quiet ≡ true → (p : ℕ) → p < 32 → last_trapping p so_far ≡ None
