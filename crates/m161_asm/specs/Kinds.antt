use Rattle.std.specs.Prelude.{ℕ, List, codes}
use Rattle.m161_asm.specs.declared.error.ErrorKind.{ErrorKind}
use Rattle.m161_asm.specs.declared.error.ErrorKind.TheVariants.{BadToken, UnknownWord, BadOperand, OutOfRange, UnknownLabel, DoubleLabel, BranchTooFar, Overlap, NoMemory}

-- The number and the name of a kind of fault.

abbrev pub number_of_kind : ErrorKind → ℕ
number_of_kind BadToken = 1
number_of_kind UnknownWord = 2
number_of_kind BadOperand = 3
number_of_kind OutOfRange = 4
number_of_kind UnknownLabel = 5
number_of_kind DoubleLabel = 6
number_of_kind BranchTooFar = 7
number_of_kind Overlap = 8
number_of_kind NoMemory = 9

abbrev pub name_of_kind : ErrorKind → List ℕ
name_of_kind BadToken = codes "BadToken"
name_of_kind UnknownWord = codes "UnknownWord"
name_of_kind BadOperand = codes "BadOperand"
name_of_kind OutOfRange = codes "OutOfRange"
name_of_kind UnknownLabel = codes "UnknownLabel"
name_of_kind DoubleLabel = codes "DoubleLabel"
name_of_kind BranchTooFar = codes "BranchTooFar"
name_of_kind Overlap = codes "Overlap"
name_of_kind NoMemory = codes "NoMemory"
