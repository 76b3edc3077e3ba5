use Rattle.std.specs.Prelude.{ℕ, ◌+◌, ◌-◌, zero, suc, nat_lt, ◌==◌, if◌then◌else◌, List, [], length, replicate, filter, swap, count_by, slice_index, Option, None, Some}
use Rattle.std.specs.List.{insert, last_or, range_with_len, remove}
use Rattle.rand_pcg.specs.Lcg.{Lcg}
use Rattle.m161_machine.specs.State.{State}
use Rattle.m161_drive.specs.Ready.{is_ready}
use Rattle.m161_drive.specs.Words.{after_word, after_words, below, draws, seeded}

-- The order by priorities, after Burckhardt and others, A Randomized Scheduler with Probabilistic
-- Guarantees of Finding Bugs, 2010. The ready processor of the highest priority makes the Step.

-- the priorities, as a run goes on
pub record PriorityState : Type 0 where
  pub generator : Lcg
  -- how many Steps a stretch has, and how many of them were chosen
  pub within : ℕ
  pub made : ℕ
  -- the Steps of the stretch after which the processor that made it falls
  pub points : List ℕ
  -- 32 processors, the one of the lowest priority first; those that the machine doesn't have are
  -- never ready
  pub processors : List ℕ
  -- the first of them fell in this stretch, as many as there are numbers here: those of the points
  -- after which they did, in ascending order
  pub fallen : List ℕ

-- places i down to 1 are each swapped with one that isn't above it
abbrev pub shuffled : ℕ → List ℕ → Lcg → List ℕ
shuffled zero order g = order
shuffled (suc i) order g = shuffled i (swap order (suc i) (below (suc i + 1) g)) (after_word g)

-- a new stretch, with so many points; the processors keep their order
abbrev pub with_stretch : ℕ → PriorityState → PriorityState
with_stretch changes r = record r {
  generator = after_words changes r.generator;
  made = 0;
  points = draws changes r.within r.generator;
  fallen = [];
}

-- the first stretch of a machine with n processors
abbrev pub priorities_at_start : ℕ → ℕ → ℕ → ℕ → PriorityState
priorities_at_start seed changes within n = with_stretch changes (record {
  generator = after_words (n - 1) (seeded seed);
  within = within;
  made = 0;
  points = replicate changes 0;
  processors = shuffled (n - 1) (range_with_len 0 32) (seeded seed);
  fallen = [];
})

-- the place of the ready processor of the highest priority
abbrev pub highest : PriorityState → State → Option ℕ
highest r s = last_or None (filter (λ k. is_ready s (slice_index r.processors k)) (range_with_len 0 32))

-- the number of the last point that is this Step of the stretch
abbrev pub last_point : ℕ → List ℕ → Option ℕ
last_point step points =
    last_or None (filter (λ j. slice_index points j == step) (range_with_len 0 (length points)))

-- the number at a place is taken out, and put in again at another
abbrev pub moved : ℕ → ℕ → List ℕ → List ℕ
moved from to numbers = insert (remove numbers from) to (slice_index numbers from)

-- after the point of number j the processor at place k falls: below all that haven't fallen in this
-- stretch, and above those that fell after points of lower numbers. Its own number of an earlier fall
-- is taken out before; `remove` leaves the numbers as they are if it had none.
abbrev pub after_fall : ℕ → Option ℕ → PriorityState → PriorityState
after_fall k None r = r
after_fall k (Some j) r =
    let others = remove r.fallen k in
    let place = count_by (λ i. nat_lt i j) others in
    record r {
      processors = moved k place r.processors;
      fallen = insert others place j;
    }

-- after a Step of the processor at place k
abbrev pub after_step_at : ℕ → PriorityState → PriorityState
after_step_at k r =
    let fallen = after_fall k (last_point r.made r.points) r in
    let after = record fallen { made = r.made + 1 } in
    if r.made + 1 == r.within then with_stretch (length r.points) after else after
