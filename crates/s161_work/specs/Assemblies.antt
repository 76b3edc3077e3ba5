use Rattle.std.specs.Prelude.{ℕ, List, Option}
use Rattle.s161_base.specs.declared.fault.Fault.{Fault}
use Rattle.s161_base.specs.declared.fault.Fault.TheVariants.{Input, Memory, Source}
use Rattle.s161_base.specs.Known.{OfText}
use Rattle.s161_base.specs.Reading.{IsOfText}
use Rattle.s161_texts.specs.Assemblies.{HasError}

-- an assembly is ended by this fault: of standard input, or of its text; or memory was refused
abbrev pub IsAssemblyFault : Option (List ℕ) → Fault → Type 0
IsAssemblyFault input (Input why) = IsOfText input why
IsAssemblyFault input (Source e) = OfText input (λ source. HasError source e)
IsAssemblyFault input Memory = Unit {0}
IsAssemblyFault input _ = ⊥
