use Rattle.std.proofs.Common.{◌≡◌, ℕ, List, Option, IfSome}
use Rattle.s161_base.specs.Known.{IsText}
use Rattle.s161_base.specs.declared.fault.Fault.{Fault}
use Rattle.s161_base.specs.declared.fault.Fault.TheVariants.{After, Conf, File, Image, Input, Log, LogImage, LogMachine, Memory, Never, Output, Schedule, Source, Threads, Touches, Watch, Watches, Word}
use Rattle.s161_texts.specs.Assemblies.{IsUnassembled}
use Rattle.s161_work.specs.Assemblies.{IsAssemblyFault}

-- Why an assembly ends early, by what its text has.

pub assembly_failed : (input : Option (List ℕ)) (source : List ℕ) (fault : Fault) → IfSome input (λ known. source ≡ known)
    → IsText source → IsUnassembled source fault → IsAssemblyFault input fault
assembly_failed input source (Source e) whole utf8 h = (source, whole, (utf8, h))
assembly_failed input source Memory whole utf8 h = tt
assembly_failed input source (File name why) whole utf8 h = absurd h
assembly_failed input source (Schedule n) whole utf8 h = absurd h
assembly_failed input source (After k why) whole utf8 h = absurd h
assembly_failed input source (Log n) whole utf8 h = absurd h
assembly_failed input source LogMachine whole utf8 h = absurd h
assembly_failed input source LogImage whole utf8 h = absurd h
assembly_failed input source (Watches n) whole utf8 h = absurd h
assembly_failed input source (Watch k) whole utf8 h = absurd h
assembly_failed input source (Never word) whole utf8 h = absurd h
assembly_failed input source (Touches word) whole utf8 h = absurd h
assembly_failed input source Conf whole utf8 h = absurd h
assembly_failed input source (Image e) whole utf8 h = absurd h
assembly_failed input source (Threads cause) whole utf8 h = absurd h
assembly_failed input source (Input why) whole utf8 h = absurd h
assembly_failed input source Word whole utf8 h = absurd h
assembly_failed input source Output whole utf8 h = absurd h
