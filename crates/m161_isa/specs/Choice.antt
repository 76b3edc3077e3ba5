use Rattle.std.specs.Prelude.{Bool, if◌then◌else◌, List, [], ◌∷◌, Option, None, Some}

-- Answers that are tested in order.

-- the answer of the first test that holds
abbrev pub first_answer : {E : Type 0} → List (Bool × E) → Option E
first_answer [] = None
first_answer ((test, answer) ∷ rest) = if test then Some answer else first_answer rest
