use Rattle.std.specs.Prelude.{ℕ, List, codes}
use Rattle.m161_machine.specs.declared.event.Refusal.{Refusal}
use Rattle.m161_machine.specs.declared.event.Refusal.TheVariants.{BadProcessor, Off, Worn, KeyFull, NothingSent, NoMemory}

-- The numbers and the names that refusals are printed by.

abbrev pub number_of_refusal : Refusal → ℕ
number_of_refusal BadProcessor = 1
number_of_refusal Off = 2
number_of_refusal Worn = 8
number_of_refusal KeyFull = 4
number_of_refusal NothingSent = 5
number_of_refusal NoMemory = 6

abbrev pub name_of_refusal : Refusal → List ℕ
name_of_refusal BadProcessor = codes "BadProcessor"
name_of_refusal Off = codes "Off"
name_of_refusal Worn = codes "Worn"
name_of_refusal KeyFull = codes "KeyFull"
name_of_refusal NothingSent = codes "NothingSent"
name_of_refusal NoMemory = codes "NoMemory"
