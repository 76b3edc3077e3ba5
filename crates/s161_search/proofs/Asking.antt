use Rattle.std.proofs.Common.{ℕ, List, [], ◌∷◌, Option, None, Some}
use Rattle.std.specs.Prelude.{IfErr, Result, Ok, Err, flat_map}
use Rattle.m161_audit.specs.declared.finding.AuditError.{AuditError}
use Rattle.m161_audit.specs.declared.finding.AuditError.TheVariants as audit
use Rattle.s161_base.proofs.Asking.{IsNoFile, asks_both, asks_none, boot_error_is_none}
use Rattle.s161_base.specs.Asked.{Asks, image_files, option_files}
use Rattle.s161_base.specs.declared.fault.Fault.{Fault}
use Rattle.s161_base.specs.declared.fault.Fault.TheVariants.{After, Conf, File, Image, Input, Log, LogImage, LogMachine, Memory, Never, Output, Schedule, Source, Threads, Touches, Watch, Watches, Word}
use Rattle.s161_command.specs.declared.task.SearchTask.{SearchTask}
use Rattle.s161_search.specs.Audits.{fault_of_audit}
use Rattle.s161_search.specs.Given.{Given, search_files}
use Rattle.s161_search.specs.helpers.Never.{IsNeverFault}
use Rattle.s161_search.specs.helpers.Watches.{IsFaultIn}
use Rattle.s161_search.proofs.Unaudited.{watches_failed}

-- The files that are asked for, and the faults that are none of a file.

-- all of a search's
pub asks_all : (task : SearchTask) (a b c d e f : Option (List (List ℕ))) → Asks (image_files task.image.now) a b → Asks (option_files task.drive.after) b c →
    Asks (option_files task.drive.keys) c d → Asks (option_files task.watches) d e → Asks (option_files task.output) e f → Asks (search_files task) a f
asks_all task a b c d e f image after keys watches output =
    let last = asks_both (option_files task.output) [] e f f output (asks_none f) in
    let more = asks_both (option_files task.watches) (flat_map option_files (task.output ∷ [])) d e f watches last in
    let typed = asks_both (option_files task.drive.keys) (flat_map option_files (task.watches ∷ task.output ∷ [])) c d f keys more in
    let options = asks_both (option_files task.drive.after) (flat_map option_files (task.drive.keys ∷ task.watches ∷ task.output ∷ [])) b c f after typed in
    asks_both (image_files task.image.now) (flat_map option_files (task.drive.after ∷ task.drive.keys ∷ task.watches ∷ task.output ∷ [])) a b f image options

-- a line of the watches
pub line_is_none : (text : Option (List ℕ)) (fault : Fault) → IsFaultIn text fault → IsNoFile fault
line_is_none None fault h = absurd h
line_is_none (Some text) fault h = watches_failed IsNoFile text fault (λ n bad. tt) tt h

-- a run that isn't audited
pub audit_is_none : (file : List ℕ) (ram : ℕ) (e : AuditError) → IsNoFile (fault_of_audit file ram e)
audit_is_none file ram (audit.Boot e) = boot_error_is_none file ram e
audit_is_none file ram (audit.BadWatch k) = tt

-- a run that isn't made, or a word that stands for no address
pub never_is_none : (task : SearchTask) (words : List (List ℕ)) (given : Given) (fault : Fault) → IsNeverFault task words given fault → IsNoFile fault
never_is_none task words given (File name why) h = absurd h
never_is_none task words given Memory h = tt
never_is_none task words given (Schedule n) h = tt
never_is_none task words given (Log n) h = tt
never_is_none task words given LogMachine h = tt
never_is_none task words given LogImage h = tt
never_is_none task words given (Watches n) h = tt
never_is_none task words given (Watch k) h = tt
never_is_none task words given (Never word) h = tt
never_is_none task words given (After k why) h = tt
never_is_none task words given (Touches word) h = tt
never_is_none task words given Conf h = tt
never_is_none task words given (Image e) h = tt
never_is_none task words given (Source e) h = tt
never_is_none task words given (Threads cause) h = tt
never_is_none task words given (Input why) h = tt
never_is_none task words given Word h = tt
never_is_none task words given Output h = tt

pub if_never_is_none : {A : Type 0} (task : SearchTask) (words : List (List ℕ)) (given : Given) (result : Result A Fault) →
    IfErr result (IsNeverFault task words given) → IfErr result IsNoFile
if_never_is_none task words given (Ok x) h = tt
if_never_is_none task words given (Err fault) h = never_is_none task words given fault h
