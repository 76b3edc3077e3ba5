use Rattle.std.proofs.Common.{◌≡◌, ℕ, List, Bool, true, false, if◌then◌else◌, Option, None, Some, Result, Ok, Err, inl, inr, refl, subst}
use Rattle.std.specs.Prelude.{IfErr, IfOk}
use Rattle.s161_command.specs.declared.task.AskedSize.{AskedSize}
use Rattle.s161_base.specs.declared.fault.Fault.{Fault}
use Rattle.s161_base.specs.declared.fault.Fault.TheVariants.{LogImage, LogMachine}
use Rattle.s161_base.specs.declared.machines.NamedMachine.{NamedMachine}
use Rattle.s161_base.specs.declared.machines.NamedMachine.TheVariants.{Logged, Sized}
use Rattle.s161_base.specs.Listed.{IsListFault, ListsNone, is_log}
use Rattle.s161_base.specs.Machines.{is_image, is_other_machine, machine_fault}
use Rattle.s161_base.specs.Texts.{IsLogFault, IsScheduleFault}
use Rattle.s161_base.proofs.Asking.{IsNoFile, none_by}
use Rattle.s161_base.proofs.Failing.{log_failed, schedule_failed}

-- What is known of a result.

pub if_ok : {A E : Type 0} {P Q : A → Type 0} (r : Result A E) → ((x : A) → P x → Q x) → IfOk r P → IfOk r Q
if_ok (Ok x) f h = f x h
if_ok (Err e) f h = tt

pub if_err : {A E : Type 0} {P Q : E → Type 0} (r : Result A E) → ((e : E) → P e → Q e) → IfErr r P → IfErr r Q
if_err (Ok x) f h = tt
if_err (Err e) f h = f e h

-- Why a text lists no events.

pub log_unlisted : (text : List ℕ) (fault : Fault) → is_log text ≡ true → IsLogFault text fault → IsListFault text fault
log_unlisted text fault is h = log_failed (IsListFault text) text fault (λ n bad. (is, bad)) tt h

pub schedule_unlisted : (text : List ℕ) (fault : Fault) → is_log text ≡ false → IsScheduleFault text fault → IsListFault text fault
schedule_unlisted text fault is h = schedule_failed (IsListFault text) text fault (λ n bad. (is, bad)) tt h

-- none of these faults is one of a file
pub list_is_none : (text : List ℕ) (fault : Fault) → IsListFault text fault → IsNoFile fault
list_is_none text fault h = none_by (IsListFault text) (λ name why bad. bad) fault h

-- Why the machine that is asked for isn't the one that a list of events names: `P` is what is said of the
-- fault.

abbrev choice : Bool → Bool → Option Fault
choice other same = if other then Some LogMachine else (if same then None else Some LogImage)

chosen : (P : Fault → Type 0) (other same : Bool) (fault : Fault) → (choice other same ≡ Some LogMachine → P LogMachine) → (choice other same ≡ Some LogImage → P LogImage) →
    choice other same ≡ Some fault → P fault
chosen P true same fault machine image is = let found : LogMachine ≡ fault = cc in subst P found (machine refl)
chosen P false true fault machine image is = absurd (cc)
chosen P false false fault machine image is = let found : LogImage ≡ fault = cc in subst P found (image refl)

pub named_fault : (P : Fault → Type 0) (asked : AskedSize) (file : List ℕ) (named : Option NamedMachine) (fault : Fault) →
    (machine_fault asked file named ≡ Some LogMachine → P LogMachine) → (machine_fault asked file named ≡ Some LogImage → P LogImage) →
    machine_fault asked file named ≡ Some fault → P fault
named_fault P asked file None fault machine image is = absurd (cc)
named_fault P asked file (Some (Sized size)) fault machine image is = absurd (cc)
named_fault P asked file (Some (Logged logged)) fault machine image is =
    chosen P (is_other_machine asked logged) (is_image file logged.line) fault machine image is

pub unlisted_is_none : (asked : AskedSize) (file text : List ℕ) (fault : Fault) → ListsNone asked file text fault → IsNoFile fault
unlisted_is_none asked file text fault (inl h) = list_is_none text fault h
unlisted_is_none asked file text fault (inr x) = named_fault IsNoFile asked file x.1 fault (λ e. tt) (λ e. tt) x.3
