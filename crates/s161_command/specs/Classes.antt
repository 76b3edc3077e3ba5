use Rattle.std.specs.Prelude.{◌≡◌, ◌≤◌, ◌<◌, ◌⊎◌, ℕ, true, false, List, Option, None, Some, codes}
use Rattle.std.specs.Str.Parse.{digits_value, without_leading_plus}
use Rattle.clap.specs.Words.{Row, Text, first_of, one_of}
use Rattle.m161_order.specs.declared.order.Order.{Order}
use Rattle.m161_order.specs.declared.order.Order.TheVariants.{Turns, Delayed, Random, Priorities}
use Rattle.s161_command.specs.declared.class.DelayClass.{DelayClass}
use Rattle.s161_command.specs.Numbers.{IsNumber, IsNumberOf, is_given}

-- The option `--delays`: which runs by turns `search` makes, by their delays.

-- the number of a choice, 0 where none is given
abbrev pub IsChoice : Option Text → ℕ → Type 0
IsChoice None n = n ≡ 0
IsChoice (Some text) n = IsNumber text × (n ≡ digits_value 10 (without_leading_plus text))

-- a text that isn't the number of a choice
abbrev pub IsBadChoice : Option Text → Type 0
IsBadChoice None = ⊥
IsBadChoice (Some text) = ¬ IsNumber text

-- the options ask for this class of runs
pub record IsClass (rows : List Row) (class : DelayClass) : Type 0 where
  pub most : IsNumberOf 0 (one_of (codes "delays") rows) class.most
  pub few : class.most ≤ 64
  pub from : IsChoice (first_of (codes "from") rows) class.from
  pub within : IsNumberOf 16_777_216 (one_of (codes "within") rows) class.within

-- a class of runs if `--delays` is given
abbrev pub IsClassIf : List Row → Option DelayClass → Type 0
IsClassIf rows None = is_given (codes "delays") rows ≡ false
IsClassIf rows (Some class) = (is_given (codes "delays") rows ≡ true) × IsClass rows class

-- more than 64 delays are asked for
abbrev pub AsksManyDelays : List Row → Type 0
AsksManyDelays rows = (n : ℕ) × IsNumberOf 0 (one_of (codes "delays") rows) n × (64 < n)

-- `--delays` is given, and the options ask for no class
abbrev pub IsBadClass : List Row → Type 0
IsBadClass rows =
    (is_given (codes "delays") rows ≡ true)
    × (AsksManyDelays rows ⊎ IsBadChoice (first_of (codes "from") rows))

-- how many seeds are tried: none where the runs are those of a class
abbrev pub IsSeeds : Option DelayClass → List Row → ℕ → Type 0
IsSeeds None rows n = IsNumberOf 1 (one_of (codes "seeds") rows) n
IsSeeds (Some class) rows n = n ≡ 0

-- the runs of a class are by turns, and have at most 64 delays
abbrev pub HasClassLimits : Order → Option DelayClass → Type 0
HasClassLimits order None = Unit {0}
HasClassLimits (Turns steps) (Some class) = class.most ≤ 64
HasClassLimits (Delayed turns delays) (Some class) = ⊥
HasClassLimits (Random seed) (Some class) = ⊥
HasClassLimits (Priorities seed changes within) (Some class) = ⊥
