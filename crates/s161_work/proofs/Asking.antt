use Rattle.std.proofs.Common.{◌≡◌, ℕ, List, [], Option, Result, Ok, Err, inl, inr, subst, sym}
use Rattle.std.specs.Prelude.{IfErr}
use Rattle.std.proofs.lemmas.Result.{IfErr-weaker}
use Rattle.clap.specs.Words.{Text}
use Rattle.s161_base.proofs.Asking.{IsNoFile, asks_none, before_input, memory_is_none, none_before, result_asks}
use Rattle.s161_base.specs.Asked.{AsksFor, IsBeforeInput}
use Rattle.s161_base.specs.Streams.{Streams}
use Rattle.s161_base.specs.declared.fault.Fault.{Fault}
use Rattle.s161_base.specs.declared.fault.Fault.TheVariants.{After, Conf, File, Image, Input, Log, LogImage, LogMachine, Memory, Never, Output, Schedule, Source, Threads, Touches, Watch, Watches, Word}
use Rattle.s161_command.specs.declared.task.ConsoleTask.{ConsoleTask}
use Rattle.s161_command.specs.declared.task.DebugTask.{DebugTask}
use Rattle.s161_command.specs.declared.task.GdbTask.{GdbTask}
use Rattle.s161_debug.proofs.Asking.{behind_is_none, told_is_none}
use Rattle.s161_debug.specs.Debugs.{IsDebugFault}
use Rattle.s161_debug.specs.Gdb.{IsGdbFault}
use Rattle.s161_run.proofs.Asking.{serve_is_none}
use Rattle.s161_run.specs.Consoles.{IsConsoleFault}
use Rattle.s161_texts.specs.Listings.{IsUnlisted}
use Rattle.s161_work.specs.Assemblies.{IsAssemblyFault}

-- Files and standard input: what tasks ask for, and what they read first.

-- the input is as it was
pub result_before : {A : Type 0} (r : Result A Fault) (a : Option (List ℕ)) → IfErr r (λ fault. IsBeforeInput fault a a)
result_before (Ok answer) a = tt
result_before (Err fault) a = before_input fault a

untouched : (fault : Fault) (a b : Option (List ℕ)) → b ≡ a → IsBeforeInput fault a b
untouched fault a b same = subst (λ x. IsBeforeInput fault a x) (sym same) (before_input fault a)

-- a kernel at the terminal
pub console_before : (task : ConsoleTask) (known : Option (List ℕ)) (x : Streams) (fault : Fault) → IsConsoleFault task known x fault →
    IsBeforeInput fault x.input x.left
console_before task known x fault (inl h) = untouched fault x.input x.left h.1.0
console_before task known x fault (inr h) = none_before fault x.input x.left (serve_is_none task.drive h.0 x fault h.2)

-- a debugger's session
pub debug_before : (task : DebugTask) (files : Text → Option (List ℕ)) (image : Option (List ℕ)) (x : Streams) (errors told : Option (List ℕ)) (fault : Fault) →
    IsDebugFault task files image x errors told fault → IsBeforeInput fault x.input x.left
debug_before task files image x errors told fault (inl h) = untouched fault x.input x.left h.1.0
debug_before task files image x errors told fault (inr h) = none_before fault x.input x.left (behind_is_none fault h.4.part h.4.is_behind)

-- a session of GDB
pub gdb_before : (task : GdbTask) (files : Text → Option (List ℕ)) (image : Option (List ℕ)) (x : Streams) (fault : Fault) →
    IsGdbFault task files image x fault → IsBeforeInput fault x.input x.left
gdb_before task files image x fault (inl h) = untouched fault x.input x.left h.1.0
gdb_before task files image x fault (inr h) = none_before fault x.input x.left (subst IsNoFile (sym h.fault_is) (told_is_none h.why))

-- the demo, which has no file
pub demo_asks : {A : Type 0} (r : Result A Fault) (a : Option (List Text)) → IfErr r (λ fault. fault ≡ Memory) → AsksFor [] r a a
demo_asks r a fails = result_asks [] a a r (asks_none a) (IfErr-weaker r (λ fault. fault ≡ Memory) IsNoFile memory_is_none fails)

-- so of an assembly
assembly_is_none : (input : Option (List ℕ)) (fault : Fault) → IsAssemblyFault input fault → IsNoFile fault
assembly_is_none input (File name why) h = absurd h
assembly_is_none input Memory h = tt
assembly_is_none input (Schedule n) h = tt
assembly_is_none input (After k why) h = tt
assembly_is_none input (Log n) h = tt
assembly_is_none input LogMachine h = tt
assembly_is_none input LogImage h = tt
assembly_is_none input (Watches n) h = tt
assembly_is_none input (Watch k) h = tt
assembly_is_none input (Never word) h = tt
assembly_is_none input (Touches word) h = tt
assembly_is_none input Conf h = tt
assembly_is_none input (Image e) h = tt
assembly_is_none input (Source e) h = tt
assembly_is_none input (Threads cause) h = tt
assembly_is_none input (Input why) h = tt
assembly_is_none input Word h = tt
assembly_is_none input Output h = tt

pub assembly_asks : {A : Type 0} (input : Option (List ℕ)) (r : Result A Fault) (a : Option (List Text)) → IfErr r (IsAssemblyFault input) → AsksFor [] r a a
assembly_asks input r a fails = result_asks [] a a r (asks_none a) (IfErr-weaker r (IsAssemblyFault input) IsNoFile (assembly_is_none input) fails)

pub assembly_before : {A : Type 0} (input : Option (List ℕ)) (r : Result A Fault) (x y : Option (List ℕ)) → IfErr r (IsAssemblyFault input) →
    IfErr r (λ fault. IsBeforeInput fault x y)
assembly_before input r x y fails =
    IfErr-weaker r (IsAssemblyFault input) (λ fault. IsBeforeInput fault x y) (λ fault h. none_before fault x y (assembly_is_none input fault h)) fails

-- an image that has no listing
pub listing_is_none : (file : List ℕ) (fault : Fault) → IsUnlisted file fault → IsNoFile fault
listing_is_none file (File name why) h = absurd h
listing_is_none file Memory h = tt
listing_is_none file (Schedule n) h = tt
listing_is_none file (After k why) h = tt
listing_is_none file (Log n) h = tt
listing_is_none file LogMachine h = tt
listing_is_none file LogImage h = tt
listing_is_none file (Watches n) h = tt
listing_is_none file (Watch k) h = tt
listing_is_none file (Never word) h = tt
listing_is_none file (Touches word) h = tt
listing_is_none file Conf h = tt
listing_is_none file (Image e) h = tt
listing_is_none file (Source e) h = tt
listing_is_none file (Threads cause) h = tt
listing_is_none file (Input why) h = tt
listing_is_none file Word h = tt
listing_is_none file Output h = tt
