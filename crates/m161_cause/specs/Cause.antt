use Rattle.std.specs.Prelude.{ℕ, List, codes}
use Rattle.m161_cause.specs.declared.cause.Cause.{Cause}
use Rattle.m161_cause.specs.declared.cause.Cause.TheVariants.{BadQuotas, BadBurst, NoMemory, NoThread, Held, Worn, Miscount, Swapped}

-- The names that causes are printed by.

abbrev pub name_of_cause : Cause → List ℕ
name_of_cause BadQuotas = codes "BadQuotas"
name_of_cause BadBurst = codes "BadBurst"
name_of_cause NoMemory = codes "NoMemory"
name_of_cause NoThread = codes "NoThread"
name_of_cause (Held p k) = codes "Held"
name_of_cause Worn = codes "Worn"
name_of_cause Miscount = codes "Miscount"
name_of_cause Swapped = codes "Swapped"
