use Rattle.std.proofs.Common.{ℕ, List, Option, Result, inl, inr}
use Rattle.std.specs.declared.alloc.AllocError.{AllocError}
use Rattle.std.specs.Prelude.{IfErr}
use Rattle.std.proofs.lemmas.Result.{IfErr-weaker}
use Rattle.m161_debug.specs.Breakpoints.{SessionState}
use Rattle.m161_machine.specs.declared.event.Event.{Event}
use Rattle.m161_server.specs.declared.fault.ServerFault.{ServerFault}
use Rattle.m161_server.specs.declared.fault.ServerFault.TheVariants as server
use Rattle.s161_base.proofs.Asking.{IsNoFile, boot_is_none, none_by, result_asks}
use Rattle.s161_base.specs.Asked.{Asks, AsksFor}
use Rattle.s161_base.specs.Streams.{Streams}
use Rattle.s161_base.specs.declared.fault.Fault.{Fault}
use Rattle.s161_command.specs.declared.task.AskedSize.{AskedSize}
use Rattle.s161_run.proofs.Keeping.{first_is_none}
use Rattle.s161_debug.specs.Debugs.{IsUnbooted}
use Rattle.s161_debug.specs.Gdb.{told_as}
use Rattle.s161_debug.specs.Sessions.{Breaks, IsBehind}

-- The faults that are none of a file: behind it all files were asked for.

-- of the boot
pub unbooted_is_none : (size : AskedSize) (file : List ℕ) (text : Option (List ℕ)) (fault : Fault) → IsUnbooted size file text fault → IsNoFile fault
unbooted_is_none size file text fault (inl h) = first_is_none size file text fault h
unbooted_is_none size file text fault (inr h) = boot_is_none file h.1 fault h.3

-- of a session
pub behind_is_none : (fault : Fault) (part : List ℕ) → IsBehind fault part → IsNoFile fault
behind_is_none fault part h = none_by (λ f. IsBehind f part) (λ name why bad. bad) fault h

pub session_asks : {A : Type 0} (s : SessionState) (events : List Event) (x : Streams) (errors told : Option (List ℕ)) (r : Result A Fault) → IfErr r (Breaks s events x errors told) →
    (names : List (List ℕ)) (a b : Option (List (List ℕ))) → Asks names a b → AsksFor names r a b
session_asks s events x errors told r fails names a b asks =
    result_asks names a b r asks (IfErr-weaker r (Breaks s events x errors told) IsNoFile (λ fault h. behind_is_none fault h.part h.is_behind) fails)

-- of a session of GDB
pub told_is_none : (why : ServerFault AllocError) → IsNoFile (told_as why)
told_is_none server.Input = tt
told_is_none server.Output = tt
told_is_none server.Memory = tt
told_is_none (server.Run error) = tt
