use Rattle.std.specs.Prelude.{ℕ, List, Option, None, Some, codes, decimal}
use Rattle.m161_text.specs.Parts.{◌␣◌}
use Rattle.s161_progress.specs.declared.amount.Unit.{Unit}
use Rattle.s161_progress.specs.declared.amount.Unit.TheVariants.{Runs, States, Events}

-- What is shown of long work.

-- what is counted
abbrev pub unit_text : Unit → List ℕ
unit_text Runs = codes "runs"
unit_text States = codes "states"
unit_text Events = codes "events"

-- how much is done, and of how much, where that is known
abbrev pub amount_text : ℕ → Option ℕ → Unit → List ℕ
amount_text done None unit = codes "s161:" ␣ decimal done ␣ unit_text unit
amount_text done (Some most) unit =
    codes "s161:" ␣ decimal done ␣ codes "of" ␣ decimal most ␣ unit_text unit
