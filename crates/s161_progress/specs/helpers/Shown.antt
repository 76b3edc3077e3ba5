use Rattle.std.specs.Prelude.{ℕ, List, ◌∷◌, ◌++◌, codes}
use Rattle.m161_text.specs.Lines.{with_line_end}
use Rattle.s161_progress.specs.declared.amount.Amount.{Amount}
use Rattle.s161_progress.specs.declared.meter.Way.{Way}
use Rattle.s161_progress.specs.declared.meter.Way.TheVariants.{InPlace, ByLines}
use Rattle.s161_progress.specs.Amounts.{amount_text}

-- How an amount is shown.

-- what is written: in a terminal's line, from its start, and nothing behind it; or a line
abbrev pub shown_text : Way → Amount → List ℕ
shown_text InPlace amount =
    13 ∷ (amount_text amount.done amount.most amount.unit ++ (27 ∷ codes "[K"))
shown_text ByLines amount = with_line_end (amount_text amount.done amount.most amount.unit)
