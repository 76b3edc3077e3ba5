use Rattle.std.specs.Prelude.{◌≡◌, ℕ, ◌+◌, ◌%◌, ◌^◌, ◌<◌, Bool, None, Some}
use Rattle.std.specs.List.{range_with_len}
use Rattle.m161_jobs.specs.Answers.{AreRightBelow}
use Rattle.m161_jobs.specs.Trials.{AreRight}
use Rattle.m161_judge.specs.declared.run.JudgedRun.{JudgedRun}
use Rattle.m161_order.specs.declared.order.Order.{Order}
use Rattle.m161_order.specs.declared.order.Order.TheVariants.{Turns, Delayed, Random, Priorities}
use Rattle.s161_command.specs.declared.task.SearchTask.{SearchTask}
use Rattle.m161_reach.specs.declared.told.Told.{Told}
use Rattle.s161_search.specs.Given.{Given}
use Rattle.s161_search.specs.Runs.{IsRunOf}
use Rattle.s161_search.specs.Told.{IsRunToldAt}

-- The seeds that a search tries.

-- the seed of an order; one by turns has none
abbrev pub seed_of : Order → ℕ
seed_of (Turns steps) = 0
seed_of (Delayed turns delays) = 0
seed_of (Random seed) = seed
seed_of (Priorities seed changes within) = seed

-- the same order with another seed
abbrev pub with_seed : ℕ → Order → Order
with_seed seed (Turns steps) = Turns steps
with_seed seed (Delayed turns delays) = Delayed turns delays
with_seed seed (Random first) = Random seed
with_seed seed (Priorities first changes within) = Priorities seed changes within

-- the seed k places behind that of the order, modulo 2^64
abbrev pub seed_at : Order → ℕ → ℕ
seed_at order k = (seed_of order + k) % 2 ^ 64

-- run k, from 0, and its verdict
abbrev pub IsRunAt : SearchTask → Given → ℕ → JudgedRun → Type 0
IsRunAt task given k = IsRunOf task given (with_seed (seed_at task.drive.order k) task.drive.order)

-- run k has no verdict, and is cut or isn't
abbrev pub IsRightAt : SearchTask → Given → ℕ → Bool → Type 0
IsRightAt task given k is_cut =
    (run : JudgedRun) × IsRunAt task given k run × IsRunToldAt run.is_cut task given run.events.items None
    × (run.is_cut ≡ is_cut)

-- none of the first n runs goes wrong, and so many of them are cut
abbrev pub AreClean : SearchTask → Given → ℕ → ℕ → Type 0
AreClean task given n cut = AreRight (IsRightAt task given) (range_with_len 0 n) cut

-- the first run that goes wrong, and its verdict
pub record IsFirstWrong
    (task : SearchTask) (given : Given) (place : ℕ) (run : JudgedRun) (told : Told) : Type 0 where
  pub within : place < task.seeds
  pub before : AreRightBelow (IsRightAt task given) place
  pub is_run : IsRunAt task given place run
  pub wrong : IsRunToldAt run.is_cut task given run.events.items (Some told)
