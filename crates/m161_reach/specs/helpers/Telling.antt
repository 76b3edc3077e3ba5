use Rattle.std.specs.Prelude.{◌≡◌, ◌⊎◌, ℕ, ◌<◌, Bool, true, false, nat_lt, List, Option, None, Some, option_map}
use Rattle.m161_judge.specs.declared.verdict.Judged.{Judged}
use Rattle.m161_judge.specs.declared.verdict.Verdict.TheVariants.{End}
use Rattle.m161_judge.specs.Verdict.{rank}
use Rattle.m161_machine.specs.declared.event.Event.{Event}
use Rattle.m161_states.specs.Question.{Question}
use Rattle.m161_reach.specs.declared.told.SearchVerdict.TheVariants.{Hung}
use Rattle.m161_reach.specs.declared.told.Told.{Told}
use Rattle.m161_reach.specs.From.{no_time, with_known}
use Rattle.m161_reach.specs.Hangs.{HangFirst, NeverHang}
use Rattle.m161_reach.specs.Told.{told_of}

-- How the verdict of a search is found.

-- a verdict comes before `hung`
abbrev pub comes_first : Option Judged → Bool
comes_first None = false
comes_first (Some judged) = nat_lt (rank judged.verdict) (rank End)

-- that of the events as it is, where it comes first, or they don't hang
pub record IsAsJudged (few : ℕ) (q : Question) (events : List Event) (judged : Option Judged) (told : Option Told) : Type 0 where
  pub same : told ≡ option_map told_of judged
  pub why : (comes_first judged ≡ true) ⊎ ((few ≡ 0) ⊎ NeverHang (with_known no_time q) few events)

-- or that they hang
pub record IsHang (few : ℕ) (q : Question) (events : List Event) (judged : Option Judged) (told : Option Told) : Type 0 where
  pub n : ℕ
  pub is : told ≡ Some (record { verdict = Hung; events = n })
  pub late : comes_first judged ≡ false
  pub some : 0 < few
  pub hangs : HangFirst (with_known no_time q) few events n

abbrev pub IsFinding : ℕ → Question → List Event → Option Judged → Option Told → Type 0
IsFinding few q events judged told = IsAsJudged few q events judged told ⊎ IsHang few q events judged told
