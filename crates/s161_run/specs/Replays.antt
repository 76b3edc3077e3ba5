use Rattle.std.specs.Prelude.{◌≡◌, ◌⊎◌, ℕ, false, List, Option, None, Some, Ok, IfSome, codes, decimal, [], ◌∷◌, ◌++◌}
use Rattle.m161_machine.specs.declared.event.Entry.{Entry}
use Rattle.m161_machine.specs.Conf.{is_within_limits}
use Rattle.m161_machine.specs.History.{boot_fault}
use Rattle.m161_steplog.specs.declared.verdict.Comparison.{Comparison}
use Rattle.m161_steplog.specs.declared.verdict.Comparison.TheVariants.{Agrees, Differs}
use Rattle.m161_text.specs.Lines.{with_line_end}
use Rattle.m161_steplog.specs.Comments.{IsFirstBadOfLog}
use Rattle.m161_text.specs.Parts.{◌␣◌}
use Rattle.m161_steplog.specs.Verdict.{Verifies}
use Rattle.s161_command.specs.declared.task.ReplayTask.{ReplayTask}
use Rattle.s161_base.specs.Asked.{image_files}
use Rattle.s161_base.specs.declared.fault.Fault.{Fault}
use Rattle.s161_base.specs.declared.fault.Fault.TheVariants.{Conf, File, Image, Log, LogImage, LogMachine, Memory}
use Rattle.s161_base.specs.Faults.{IsUnloaded}
use Rattle.s161_base.specs.Known.{IsText, OfKnown, OfText}
use Rattle.s161_base.specs.declared.machines.LoggedMachine.{LoggedMachine}
use Rattle.s161_base.specs.declared.machines.NamedMachine.TheVariants.{Logged}
use Rattle.s161_base.specs.Machines.{IsLogOf, asked_conf, machine_fault}
use Rattle.s161_base.specs.Reading.{IsOfBytes, IsOfText}
use Rattle.s161_base.specs.Samples.{IsFileName}

-- The output and the exit status of `replay`.

abbrev pub verdict_text : Comparison → List ℕ
verdict_text Agrees = codes "agrees"
verdict_text (Differs k) = codes "differs" ␣ decimal k

abbrev pub status_of_verdict : Comparison → ℕ
status_of_verdict Agrees = 0
status_of_verdict (Differs k) = 4

-- its files, in the order in which they are read
abbrev pub replay_files : ReplayTask → List (List ℕ)
replay_files task = image_files task.image.now ++ task.text.now ∷ []

-- a finished replay: what it prints and its exit status; the files of the image and the log have
-- these bytes, as far as they are known
pub record IsReplayed
    (task : ReplayTask) (image : Option (List ℕ)) (log : Option (List ℕ))
    (text : List ℕ) (status : ℕ) : Type 0 where
  pub file : List ℕ
  pub is_file : IfSome image (λ bytes. file ≡ bytes)
  pub entries_text : List ℕ
  pub is_file_of_entries : IfSome log (λ bytes. entries_text ≡ bytes)
  pub is_text : IsText entries_text
  pub logged : LoggedMachine
  pub entries : List Entry
  pub is_log : IsLogOf entries_text logged entries
  pub is_that : machine_fault task.size file (Some (Logged logged)) ≡ None
  pub verdict : Comparison
  pub verifies :
      Verifies file (asked_conf task.size (Some (Logged logged)))
      (boot_fault file (asked_conf task.size (Some (Logged logged)))) entries (Ok verdict)
  pub text_is : text ≡ with_line_end (verdict_text verdict)
  pub status_is : status ≡ status_of_verdict verdict

-- this holds of the image's bytes and of what the log says of its machine; as far as the files are
-- known
abbrev pub OfReplay :
    Option (List ℕ) → Option (List ℕ) → (List ℕ → LoggedMachine → Type 0) → Type 0
OfReplay image log IsSo =
    OfKnown image (λ file. OfText log (λ text. (logged : LoggedMachine) × (entries : List Entry)
    × IsLogOf text logged entries × IsSo file logged))

-- what a fault that ends a replay says of its inputs: of a file, that it is the image's or the
-- log's; of the log, its first bad line; then, that the log has none, and that the machine isn't the
-- one that it names; of the configuration or the image, that it is. File and Memory hold whatever
-- else is at fault
abbrev pub IsReplayFault : ReplayTask → Option (List ℕ) → Option (List ℕ) → Fault → Type 0
IsReplayFault task image log (File name why) =
    ((name.now ≡ task.image.now) × IsFileName task.image.now × IsOfBytes why)
    ⊎ ((name.now ≡ task.text.now) × IsOfText log why)
IsReplayFault task image log (Log n) =
    OfText log (λ text. IsFirstBadOfLog text n)
IsReplayFault task image log LogMachine =
    OfReplay image log (λ file logged. machine_fault task.size file (Some (Logged logged)) ≡ Some LogMachine)
IsReplayFault task image log LogImage =
    OfReplay image log (λ file logged. machine_fault task.size file (Some (Logged logged)) ≡ Some LogImage)
IsReplayFault task image log Conf =
    OfReplay image log (λ file logged. (machine_fault task.size file (Some (Logged logged)) ≡ None)
    × (is_within_limits (asked_conf task.size (Some (Logged logged))) ≡ false))
IsReplayFault task image log (Image why) =
    OfReplay image log (λ file logged. (machine_fault task.size file (Some (Logged logged)) ≡ None)
    × IsUnloaded file (asked_conf task.size (Some (Logged logged))) why)
IsReplayFault task image log Memory = Unit {0}
IsReplayFault task image log _ = ⊥
