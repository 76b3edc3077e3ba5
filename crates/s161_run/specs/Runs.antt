use Rattle.std.specs.Prelude.{◌≡◌, ℕ, ◌-◌, ◌==◌, Bool, true, false, if◌then◌else◌, List, [], ◌∷◌, ◌++◌, Option, None, Some, IsSomeAnd, IfSome, codes, decimal, flat_map, length, slice_get, take}
use Rattle.std.specs.List.{range_with_len}
use Rattle.sha2.specs.Sha256.{sha256}
use Rattle.m161_cpu.specs.declared.processor.ProcessorState.{ProcessorState}
use Rattle.m161_cpu.specs.declared.processor.ProcessorState.TheVariants.{Stopped, Running, Waiting}
use Rattle.circular_buffer.specs.Buffer.{keep_last}
use Rattle.m161_machine.specs.declared.conf.Conf.{Conf as MachineConf}
use Rattle.m161_machine.specs.declared.event.Conflict.{Conflict}
use Rattle.m161_machine.specs.declared.event.Entry.{Entry}
use Rattle.m161_machine.specs.declared.event.Event.{Event}
use Rattle.m161_machine.specs.declared.event.Refusal.{Refusal}
use Rattle.m161_machine.specs.Conf.{is_within_limits}
use Rattle.m161_machine.specs.Refusal.{name_of_refusal, number_of_refusal}
use Rattle.m161_machine.specs.State.{State, next, processor_at}
use Rattle.m161_machine.specs.History.{Leads, Refuses, events_of}
use Rattle.m161_display.specs.Shows.{show_regs_text}
use Rattle.m161_text.specs.Lines.{with_line_end}
use Rattle.m161_elf.specs.Span.{spans}
use Rattle.m161_traps.specs.Shown.{traps_text, trapping_text, unhandled_text}
use Rattle.m161_traps.specs.Traps.{trap_lines}
use Rattle.m161_traps.specs.Unhandled.{first_unhandled}
use Rattle.m161_steplog.specs.declared.machine.MachineLine.{MachineLine}
use Rattle.m161_steplog.specs.declared.mode.Mode.{Mode}
use Rattle.m161_steplog.specs.Log.{log_text, tail_text}
use Rattle.m161_steplog.specs.Machine.{machine_text}
use Rattle.m161_text.specs.Parts.{◌␣◌}
use Rattle.s161_command.specs.declared.task.RunTask.{RunTask}
use Rattle.s161_command.specs.declared.task.Shown.{Shown}
use Rattle.s161_command.specs.declared.task.Shown.TheVariants as shown
use Rattle.s161_run.specs.declared.events.RunStop.{RunStop}
use Rattle.s161_run.specs.declared.events.RunStop.TheVariants.{Off, Conflict as ConflictStop, End, Stuck, Refused}
use Rattle.s161_base.specs.declared.fault.Fault.{Fault}
use Rattle.s161_base.specs.declared.fault.Fault.TheVariants.{Conf, File, Image, Input, Log, LogImage, LogMachine, Memory, Schedule}
use Rattle.s161_base.specs.Faults.{BootsIn, IsUnloaded}
use Rattle.s161_base.specs.Known.{IsText, OfText}
use Rattle.s161_base.specs.Listed.{IsListFault, ListsFor, OfListed, OfUnlisted}
use Rattle.s161_base.specs.Reading.{IsOfBytes, IsOfText}
use Rattle.s161_base.specs.Samples.{IsFileName}

-- The events, the output and the exit status of `run`.

-- event k of these is refused in this state
abbrev pub IsRefusedAt : List Event → ℕ → State → Refusal → Type 0
IsRefusedAt events k s refusal = IsSomeAnd (slice_get events k) (λ e. Refuses (next s e) e refusal)

-- a machine is on, and then off
abbrev pub IsSwitchedOff : State → State → Type 0
IsSwitchedOff s t = (s.board.off ≡ false) × (t.board.off ≡ true)

-- a conflict: its processor, the row that was to be written, and the other one
abbrev pub conflict_words : Conflict → List ℕ
conflict_words conflict =
    codes "conflict" ␣ decimal conflict.processor ␣ decimal conflict.row ␣ decimal conflict.other

-- why no more events are made of a machine that is off, by its conflict
abbrev pub stop_off : Option Conflict → RunStop
stop_off None = Off
stop_off (Some conflict) = ConflictStop conflict

-- why this many of these events, which led from s to t, were made and no more: they switched the
-- machine off, by a conflict or not; or they didn't, and there are no more, or the next is refused.
-- Only a policy is stuck
abbrev pub StopsAfter : State → List Event → ℕ → RunStop → State → Type 0
StopsAfter s events made Off t = IsSwitchedOff s t × (t.conflict ≡ None)
StopsAfter s events made (ConflictStop conflict) t = IsSwitchedOff s t × (t.conflict ≡ Some conflict)
StopsAfter s events made End t = (t.board.off ≡ s.board.off) × (made ≡ length events)
StopsAfter s events made Stuck t = ⊥
StopsAfter s events made (Refused k refusal) t =
    (t.board.off ≡ s.board.off) × (made ≡ k) × IsRefusedAt events k t refusal

-- from a state the first of these events are made, with these entries, until one switches the machine
-- off or is refused
pub record MakesEvents
    (s : State) (events : List Event) (stop : RunStop) (entries : List Entry) (t : State) : Type 0 where
  pub leads : Leads s entries t
  pub are_first : events_of entries ≡ take (length entries) events
  pub why : StopsAfter s events (length entries) stop t

-- the line end that a text with this last byte lacks
abbrev pub missing_line_end : Option ℕ → List ℕ
missing_line_end None = []
missing_line_end (Some last) = if last == 10 then [] else 10 ∷ []

-- the bytes that the console has sent, with a line end if they aren't empty and lack one
abbrev pub output_text : List ℕ → List ℕ
output_text output = output ++ missing_line_end (slice_get output (length output - 1))

-- a text of a processor that is started
abbrev pub if_started : ProcessorState → List ℕ → List ℕ
if_started Stopped text = []
if_started Running text = text
if_started Waiting text = text

abbrev pub started_text : State → ℕ → List ℕ
started_text s p = if_started (processor_at p s.processors).state (show_regs_text p s)

-- the started processors among the first n
abbrev pub started_texts : State → ℕ → List ℕ
started_texts s n = flat_map (started_text s) (range_with_len 0 n)

abbrev pub stop_line : RunStop → List ℕ
stop_line Off = codes "stop: off"
stop_line (ConflictStop conflict) = codes "stop:" ␣ conflict_words conflict
stop_line End = codes "stop: end"
stop_line Stuck = codes "stop: stuck"
stop_line (Refused k refusal) =
    codes "stop: refused" ␣ decimal k ␣ decimal (number_of_refusal refusal)
    ␣ name_of_refusal refusal

-- the size of a machine, and the digest of the file that it was booted from
abbrev pub line_of : MachineConf → List ℕ → MachineLine
line_of conf file = record { ram = conf.ram; processors = conf.processors; digest = sha256 file }

-- what the outcomes of its events hang on
abbrev pub mode_of : MachineConf → Mode
mode_of conf = record { link = conf.link; strict = conf.strict }

-- the text of these entries of a log, before which so many were dropped
abbrev pub kept_text : MachineConf → ℕ → List Entry → List ℕ
kept_text conf dropped entries =
    if dropped == 0 then log_text (mode_of conf) entries
    else tail_text (mode_of conf) dropped entries

-- the machine line, and that text
abbrev pub shown_log : MachineConf → List ℕ → ℕ → List Entry → List ℕ
shown_log conf file dropped entries =
    with_line_end (machine_text (line_of conf file)) ++ kept_text conf dropped entries

-- the log of a run with these entries: it keeps the last ones that it has room for
abbrev pub log_of_run : MachineConf → List ℕ → List Entry → List ℕ
log_of_run conf file entries =
    shown_log conf file (length entries - conf.log) (keep_last conf.log entries)

-- the lines of the traps of events, from a state on, where they are counted
abbrev pub told_traps : Bool → State → List Event → List ℕ
told_traps counted s events = if counted then traps_text (trap_lines s events) else []

-- what a machine shows, with the lines of its traps and the text of a log before the last line
abbrev pub summary_with : List ℕ → List ℕ → State → RunStop → List ℕ
summary_with traps log s stop =
    output_text s.board.console.output
    ++ started_texts s (length s.processors)
    ++ traps
    ++ log
    ++ with_line_end (stop_line stop)

-- what `run` prints of a run that ended in a state, with the lines of its traps and the text of its log
abbrev pub summary_text : List ℕ → List ℕ → State → RunStop → Shown → List ℕ
summary_text traps log s stop shown.Summary = summary_with traps [] s stop
summary_text traps log s stop shown.SummaryAndLog = summary_with traps log s stop
summary_text traps log s stop shown.Log = log
summary_text traps log s stop shown.Output = s.board.console.output

-- what it says on standard error: why the run stopped, where what it prints doesn't say it
abbrev pub told_text : RunStop → Shown → List ℕ
told_text stop shown.Summary = []
told_text stop shown.SummaryAndLog = []
told_text stop shown.Log = with_line_end (stop_line stop)
told_text stop shown.Output = with_line_end (stop_line stop)

-- the notes on the traps of a run from a boot of this file, with these entries: on the first for which
-- the image has nothing, and on the processors whose last Steps all trapped
abbrev pub notes_text : List ℕ → State → List Entry → List ℕ
notes_text file booted entries =
    unhandled_text (first_unhandled (spans file) booted (events_of entries))
    ++ trapping_text entries

abbrev pub status_of : RunStop → ℕ
status_of Off = 0
status_of (Refused k refusal) = 1
status_of End = 3
status_of (ConflictStop conflict) = 4
status_of Stuck = 5

-- a finished run: what it prints, its notes, and why it stopped; the image's file and standard input have these
-- bytes, as far as they are known
pub record IsRun
    (task : RunTask) (known : Option (List ℕ)) (input : Option (List ℕ))
    (text notes : List ℕ) (stop : RunStop) : Type 0 where
  pub file : List ℕ
  pub is_file : IfSome known (λ bytes. file ≡ bytes)
  pub schedule : List ℕ
  pub is_input : IfSome input (λ bytes. schedule ≡ bytes)
  pub is_text : IsText schedule
  pub events : List Event
  pub conf : MachineConf
  pub lists : ListsFor task.size file schedule events conf
  pub booted : State
  pub boots : BootsIn file conf booted
  pub entries : List Entry
  pub state : State
  pub makes : MakesEvents booted events stop entries state
  pub text_is :
      text
      ≡ summary_text (told_traps task.traps booted (events_of entries))
      (log_of_run conf file entries) state stop task.shown
  pub notes_are : notes ≡ notes_text file booted entries

-- what a fault that ends a run says of its inputs: of a file, that it is the image's; of the
-- schedule or the log, its first bad line; then, that it has none, and names another machine or another
-- image; of the configuration or the image, that the text had no fault. File, Input and Memory hold
-- whatever else is at fault
abbrev pub IsFaultOf : RunTask → Option (List ℕ) → Option (List ℕ) → Fault → Type 0
IsFaultOf task known input (File name why) =
    (name.now ≡ task.image.now) × IsFileName task.image.now × IsOfBytes why
IsFaultOf task known input (Input why) = IsOfText input why
IsFaultOf task known input (Schedule n) = OfText input (λ text. IsListFault text (Schedule n))
IsFaultOf task known input (Log n) = OfText input (λ text. IsListFault text (Log n))
IsFaultOf task known input LogMachine = OfUnlisted task.size known input LogMachine
IsFaultOf task known input LogImage = OfUnlisted task.size known input LogImage
IsFaultOf task known input Conf =
    OfListed task.size known input (λ file conf. is_within_limits conf ≡ false)
IsFaultOf task known input (Image why) =
    OfListed task.size known input (λ file conf. IsUnloaded file conf why)
IsFaultOf task known input Memory = Unit {0}
IsFaultOf task known input _ = ⊥
