use Rattle.std.specs.Prelude.{◌≡◌, List, Vec, Result, MatchResult}
use Rattle.std.specs.Global.{Global}
use Rattle.m161_steplog.specs.declared.fault.TextFault.{TextFault}
use Rattle.m161_steplog.specs.declared.fault.TextFault.TheVariants as faults

-- What was read of a text.

-- a text was read as these items, or memory was refused
abbrev pub IsRead : {A : Type 0} → List A → Result (Vec A Global) TextFault → Type 0
IsRead items result = MatchResult result (λ v. v.items ≡ items) (λ f. f ≡ faults.NoMemory)

-- the same, where what was read is seen as its value
abbrev pub IsReadAs : {V : Type 0} → V → Result V TextFault → Type 0
IsReadAs value result = MatchResult result (λ v. v ≡ value) (λ f. f ≡ faults.NoMemory)
