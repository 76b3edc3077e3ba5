use Rattle.std.specs.Prelude.{ℕ, ◌<◌, List, decimal}
use Rattle.m161_cop0.specs.declared.exception.Exception.{Exception}
use Rattle.m161_cpu.specs.Step.{AreTwoRows}
use Rattle.m161_text.specs.Parts.{◌␣◌}

-- every exception has a code
abbrev pub IsCode : Exception → Type 0
IsCode code = Unit {0}

abbrev pub IsRow : ℕ → Type 0
IsRow row = row < 64

-- the rows of a conflict
abbrev pub rows_text : ℕ × ℕ → List ℕ
rows_text rows = decimal rows.0 ␣ decimal rows.1

abbrev pub AreRows : ℕ × ℕ → Type 0
AreRows rows = AreTwoRows rows.0 rows.1
