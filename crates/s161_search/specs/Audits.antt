use Rattle.std.specs.Prelude.{◌≡◌, ◌⊎◌, ℕ, false, List, [], ◌∷◌, ◌++◌, length, Option, None, Some, Ok, IfSome, codes, decimal}
use Rattle.m161_machine.specs.declared.conf.Conf.{Conf as MachineConf}
use Rattle.m161_machine.specs.declared.event.Event.{Event}
use Rattle.m161_machine.specs.Conf.{is_within_limits}
use Rattle.m161_machine.specs.History.{IsBootState, boot_fault}
use Rattle.m161_machine.specs.Refusal.{name_of_refusal, number_of_refusal}
use Rattle.m161_machine.specs.State.{State}
use Rattle.m161_refusals.specs.declared.refusals.Refusals.{Refusals}
use Rattle.m161_refusals.specs.Refusals.{refusals_in}
use Rattle.m161_audit.specs.declared.finding.AuditError.{AuditError}
use Rattle.m161_audit.specs.declared.finding.AuditError.TheVariants as audit
use Rattle.m161_audit.specs.declared.finding.Finding.{Finding}
use Rattle.m161_audit.specs.declared.finding.Finding.TheVariants.{Clean, Stale}
use Rattle.m161_audit.specs.declared.watch.Watch.{Watch as Watched}
use Rattle.m161_audit.specs.Audit.{Audits}
use Rattle.m161_audit.specs.Watch.{AreGood, IsBad}
use Rattle.m161_audit.specs.WatchText.{AreWatchLines, AreWatches}
use Rattle.m161_text.specs.Lines.{with_line_end, FirstBad, lines_of}
use Rattle.m161_text.specs.Parts.{◌␣◌, word_text}
use Rattle.s161_command.specs.declared.task.FilesTask.{FilesTask}
use Rattle.s161_base.specs.Asked.{image_files}
use Rattle.s161_base.specs.declared.fault.Fault.{Fault}
use Rattle.s161_base.specs.declared.fault.Fault.TheVariants.{Conf, File, Image, Input, Log, LogImage, LogMachine, Memory, Schedule, Watch, Watches}
use Rattle.s161_base.specs.Known.{IsText, OfText}
use Rattle.s161_base.specs.Listed.{IsListFault, ListsFor, OfListed, OfUnlisted}
use Rattle.s161_base.specs.Reading.{IsOfBytes, IsOfText}
use Rattle.s161_base.specs.Faults.{fault_of_boot, IsUnloaded}
use Rattle.s161_base.specs.Samples.{IsFileName}

-- The output and the exit status of `audit`.

-- its files, in the order in which they are read
abbrev pub audit_files : FilesTask → List (List ℕ)
audit_files task = image_files task.image.now ++ task.text.now ∷ []

abbrev pub finding_text : Finding → List ℕ
finding_text Clean = codes "clean"
finding_text (Stale place processor address row) =
    codes "stale" ␣ decimal place ␣ decimal processor ␣ word_text address ␣ decimal row

abbrev pub status_of_finding : Finding → ℕ
status_of_finding Clean = 0
status_of_finding (Stale place processor address row) = 4

-- how many events an audit looked at: those before the stale use, or all
abbrev pub looked_at : Finding → List Event → ℕ
looked_at Clean events = length events
looked_at (Stale place processor address row) events = place

-- the events that the machine refused among them, from the state at boot on
abbrev pub AreRefused : List ℕ → MachineConf → List Event → Finding → Option Refusals → Type 0
AreRefused file conf events finding refused =
    (booted : State) × IsBootState file conf booted
    × (refused ≡ refusals_in booted events (looked_at finding events))

-- the first one's place, and why it was refused
abbrev pub refusal_text : Refusals → List ℕ
refusal_text refused =
    decimal refused.place ␣ decimal (number_of_refusal refused.refusal)
    ␣ name_of_refusal refused.refusal

-- what is said of them on standard error: how many, and the first one
abbrev pub note_line : Refusals → List ℕ
note_line refused =
    codes "s161: note refused" ␣ decimal refused.count ␣ refusal_text refused
    ␣ codes "(so many events were refused; the first, at this place)"

abbrev pub note_text : Option Refusals → List ℕ
note_text None = []
note_text (Some refused) = with_line_end (note_line refused)

-- a finished audit: what it prints, what it says on standard error, and its exit status; the files of
-- the image and of the watches, and standard input have these bytes, as far as they are known
pub record IsAudited
    (task : FilesTask) (image watches input : Option (List ℕ)) (text told : List ℕ) (status : ℕ)
    : Type 0 where
  pub file : List ℕ
  pub is_file : IfSome image (λ bytes. file ≡ bytes)
  pub watches_text : List ℕ
  pub is_file_of_watches : IfSome watches (λ bytes. watches_text ≡ bytes)
  pub is_text_of_watches : IsText watches_text
  pub watched : List Watched
  pub are_watches : AreWatches (lines_of watches_text) watched
  pub schedule : List ℕ
  pub is_input : IfSome input (λ bytes. schedule ≡ bytes)
  pub is_text : IsText schedule
  pub events : List Event
  pub conf : MachineConf
  pub lists : ListsFor task.size file schedule events conf
  pub finding : Finding
  pub audits :
      Audits file conf (boot_fault file conf) events watched (Ok finding)
  pub text_is : text ≡ with_line_end (finding_text finding)
  pub refused : Option Refusals
  pub are_refused : AreRefused file conf events finding refused
  pub told_is : told ≡ note_text refused
  pub status_is : status ≡ status_of_finding finding

-- why the run of this file in `ram` bytes of RAM isn't audited
abbrev pub fault_of_audit : List ℕ → ℕ → AuditError → Fault
fault_of_audit file ram (audit.Boot e) = fault_of_boot file ram e
fault_of_audit file ram (audit.BadWatch k) = Watch k

-- a text isn't one of watches, by its first bad line; or memory was refused
abbrev pub IsWatchesFault : List ℕ → Fault → Type 0
IsWatchesFault text (Watches n) = FirstBad AreWatchLines text n
IsWatchesFault text Memory = Unit {0}
IsWatchesFault text _ = ⊥

-- a file has watches with this property
abbrev pub OfWatches : Option (List ℕ) → (List Watched → Type 0) → Type 0
OfWatches watches IsSo =
    OfText watches (λ text. (watched : List Watched) × AreWatches (lines_of text) watched × IsSo watched)

abbrev pub HasWatches : Option (List ℕ) → Type 0
HasWatches watches = OfWatches watches (λ watched. Unit {0})

-- what a fault that ends an audit says of its inputs: of a file, that it is the image's or the
-- watches'; of the watches, the schedule or the log, its first bad line; then, that the log names another
-- machine or another image; of the configuration, the image or a watch, that the watches and the schedule
-- had no fault. File, Input and Memory hold whatever else is at fault
abbrev pub IsAuditFault :
    FilesTask → Option (List ℕ) → Option (List ℕ) → Option (List ℕ) → Fault → Type 0
IsAuditFault task image watches input (File name why) =
    ((name.now ≡ task.image.now) × IsFileName task.image.now × IsOfBytes why)
    ⊎ ((name.now ≡ task.text.now) × IsOfText watches why)
IsAuditFault task image watches input (Input why) = IsOfText input why
IsAuditFault task image watches input Memory = Unit {0}
IsAuditFault task image watches input (Watches n) =
    OfText watches (λ text. FirstBad AreWatchLines text n)
IsAuditFault task image watches input (Schedule n) =
    HasWatches watches × OfText input (λ text. IsListFault text (Schedule n))
IsAuditFault task image watches input (Log n) =
    HasWatches watches × OfText input (λ text. IsListFault text (Log n))
IsAuditFault task image watches input LogMachine =
    HasWatches watches × OfUnlisted task.size image input LogMachine
IsAuditFault task image watches input LogImage =
    HasWatches watches × OfUnlisted task.size image input LogImage
IsAuditFault task image watches input Conf =
    HasWatches watches
    × OfListed task.size image input (λ file conf. is_within_limits conf ≡ false)
IsAuditFault task image watches input (Image why) =
    HasWatches watches × OfListed task.size image input (λ file conf. IsUnloaded file conf why)
IsAuditFault task image watches input (Watch k) =
    OfWatches watches (λ watched. OfListed task.size image input (λ file conf.
    (boot_fault file conf ≡ None) × IsBad conf.ram watched k × AreGood conf.ram watched k))
IsAuditFault task image watches input _ = ⊥
