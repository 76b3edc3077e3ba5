use Rattle.std.specs.Prelude.{◌≡◌, ◌⊎◌, ℕ, ◌+◌, ◌-◌, ◌/◌, ◌≤◌, nat_le, nat_lt, ◌==◌, ◌&&◌, Bool, true, false, if◌then◌else◌, List, [], ◌∷◌, ◌++◌, take, length, slice_get, Option, None, Some, IfSome, IsSomeAnd, Result, Ok, Err}
use Rattle.std.proofs.Common.{Bor}
use Rattle.std.specs.Io.KnownBytes.{Appends}
use Rattle.m161_cpu.specs.declared.processor.Outcome.{Outcome}
use Rattle.m161_cpu.specs.declared.processor.Outcome.TheVariants as outcomes
use Rattle.m161_machine.specs.declared.conf.Conf.{Conf}
use Rattle.m161_machine.specs.declared.event.Entry.{Entry}
use Rattle.m161_machine.specs.declared.event.Event.{Event}
use Rattle.m161_machine.specs.declared.event.Event.TheVariants as event
use Rattle.m161_machine.specs.declared.event.Refusal.{Refusal}
use Rattle.m161_machine.specs.State.{State, next}
use Rattle.m161_machine.specs.History.{Leads, events_of}
use Rattle.m161_debug.specs.Commands.{IsPlace}
use Rattle.m161_debug.specs.Conditions.{physical_of}
use Rattle.m161_dis.specs.declared.naming.Style.{Style}
use Rattle.m161_drive.specs.declared.cursor.Cursor.{Cursor}
use Rattle.m161_drive.specs.Choice.{cursor_at}
use Rattle.m161_drive.specs.Drive.{Chooses}
use Rattle.m161_drive.specs.Policy.{Rules}
use Rattle.m161_text.specs.Lines.{text_of, with_line_end}
use Rattle.m161_trace.specs.Line.{event_line_with}
use Rattle.m161_trace.specs.Loads.{word_around}
use Rattle.m161_trace.specs.Touched.{has_word, touched}
use Rattle.s161_base.specs.Asked.{image_files, option_files}
use Rattle.s161_base.specs.declared.fault.Fault.{Fault}
use Rattle.s161_base.specs.declared.fault.Fault.TheVariants.{Memory, Output, Touches}
use Rattle.s161_base.specs.Faults.{BootsIn}
use Rattle.s161_base.specs.Known.{OfText}
use Rattle.s161_base.specs.Listed.{IsTextOf, Lists, ListsFirst, ListsFor}
use Rattle.s161_base.specs.declared.machines.NamedMachine.{NamedMachine}
use Rattle.s161_command.specs.declared.task.AskedSize.{AskedSize}
use Rattle.s161_base.specs.Naming.{image_symbols, style_of}
use Rattle.s161_base.specs.Streams.{AppendsSome, Streams}
use Rattle.s161_command.specs.declared.drive.Drive.{Drive}
use Rattle.s161_command.specs.declared.task.RunTask.{RunTask}
use Rattle.s161_command.specs.declared.task.Shown.TheVariants.{Summary}
use Rattle.s161_command.specs.declared.task.TraceTask.{TraceTask}
use Rattle.s161_run.specs.Behind.{GoesBehind}
use Rattle.s161_run.specs.Driven.{AreKeys, IsOrderFault, rules_of}
use Rattle.s161_run.specs.declared.events.RunStop.{RunStop}
use Rattle.s161_run.specs.declared.events.RunStop.TheVariants.{End}
use Rattle.s161_texts.specs.Shared.{Touch, event_touches, has_one, is_shared}
use Rattle.s161_run.specs.Runs.{IsFaultOf, MakesEvents, stop_line}

-- A line for each event of a run, and last why the run stopped.

-- its files, in the order in which they are read: the image's, and with an order that of the events that
-- come first, and that of the keys, if they are given
abbrev pub drive_files : Option Drive → List (List ℕ)
drive_files None = []
drive_files (Some drive) = option_files drive.after ++ option_files drive.keys

abbrev pub trace_files : TraceTask → List (List ℕ)
trace_files task = image_files task.image.now ++ drive_files task.drive

-- which events have lines

-- events of these numbers: so many, from one on
abbrev pub is_among : ℕ → ℕ → ℕ → Bool
is_among from count number = nat_le from number && nat_lt (number - from) count

-- Steps of the processor that is asked for, if one is
abbrev pub is_step_of : ℕ → Event → Bool
is_step_of p (event.Step q) = p == q
is_step_of p (event.Key byte) = false
is_step_of p event.Done = false

abbrev pub is_only : Option ℕ → Event → Bool
is_only None e = true
is_only (Some p) e = is_step_of p e

-- Steps that load or store the word that is asked for, if one is
abbrev pub is_touching : Option ℕ → State → Event → Outcome → Bool
is_touching None s e o = true
is_touching (Some word) s e o = has_word word (touched e s o)

-- Steps that load or store one of these words, by its number, if words are asked for
abbrev pub is_sharing : Option (ℕ → Bool) → State → Event → Outcome → Bool
is_sharing None s e o = true
is_sharing (Some words) s e o = has_one words (touched e s o)

-- events that do something else than what they are for
abbrev pub has_outcome : Outcome → Bool
has_outcome outcomes.Ran = false
has_outcome (outcomes.Trapped code vector) = true
has_outcome outcomes.Idle = true
has_outcome outcomes.PoweredOff = true
has_outcome (outcomes.Conflict i j) = true
has_outcome outcomes.Taken = false

-- those for which each of these holds that is asked for
abbrev pub is_wanted :
    ℕ → ℕ → Option ℕ → Bool → Option ℕ → Option (ℕ → Bool) → ℕ → State → Event → Outcome → Bool
is_wanted from count only by_outcome touches shared number s e o =
    is_among from count number && is_only only e && (if by_outcome then has_outcome o else true)
    && is_touching touches s e o && is_sharing shared s e o

-- the word of RAM, of so many bytes, that a word of the command line stands for: the one that has the
-- byte at an address, which is said as to the debugger
abbrev pub IsWordOf : List (List ℕ × ℕ) → ℕ → List ℕ → ℕ → Type 0
IsWordOf symbols ram text word =
    (address : ℕ) × IsPlace symbols address text
    × (word_around ram (physical_of address) ≡ Some word)

-- it stands for none: for no address, or for one that isn't of a byte of RAM
abbrev pub IsNoWord : List (List ℕ × ℕ) → ℕ → List ℕ → Type 0
IsNoWord symbols ram text =
    ((address : ℕ) → IsPlace symbols address text → ⊥)
    ⊎ ((address : ℕ) × IsPlace symbols address text
    × (word_around ram (physical_of address) ≡ None))

-- the word of RAM, of so many bytes, that a task asks for over this file of its image, if it asks for one
abbrev pub symbols_of : TraceTask → List ℕ → List (List ℕ × ℕ)
symbols_of task file = image_symbols task.image.now file

abbrev pub IsWordIf : Option (Bor (List ℕ)) → List (List ℕ × ℕ) → ℕ → Option ℕ → Type 0
IsWordIf None symbols ram touches = touches ≡ None
IsWordIf (Some text) symbols ram touches = IsSomeAnd touches (IsWordOf symbols ram text.now)

abbrev pub IsAskedWord : TraceTask → ℕ → List ℕ → Option ℕ → Type 0
IsAskedWord task ram file touches = IsWordIf task.touches (symbols_of task file) ram touches

-- what is told of events

-- of one, and then of those after it; nothing where it is refused
abbrev pub told_and :
    {A : Type 0} → (ℕ → State → Event → Outcome → State → List A) → ℕ → State → Event →
    Result (Outcome × State) Refusal → (State → List A) → List A
told_and tell number s e (Err refusal) rest = []
told_and tell number s e (Ok given) rest = tell number s e given.0 given.1 ++ rest given.1

-- of these entries' events from a state on, by the number of each, the state before it, the event, its
-- outcome and the state after it; the first of them has this number
abbrev pub told :
    {A : Type 0} → (ℕ → State → Event → Outcome → State → List A) → ℕ → State → List Entry →
    List A
told tell number s [] = []
told tell number s (e ∷ es) =
    told_and tell number s e.event (next s e.event) (λ t. told tell (number + 1) t es)

-- an event's line, if it has one
abbrev pub line_if :
    Style → Bool → (ℕ → State → Event → Outcome → Bool) → ℕ → State → Event → Outcome → State →
    List (List ℕ)
line_if style loads has number s e o t =
    if has number s e o then event_line_with style loads number e s o t ∷ [] else []

-- the lines of those of these events that have one, with what their Steps load or without
abbrev pub traced :
    Style → Bool → (ℕ → State → Event → Outcome → Bool) → ℕ → State → List Entry →
    List (List ℕ)
traced style loads has number s entries = told (line_if style loads has) number s entries

-- the touches of those of these events that have numbers of a range
abbrev pub touches_if : ℕ → ℕ → ℕ → State → Event → Outcome → State → List Touch
touches_if from count number s e o t =
    if is_among from count number then event_touches e s o else []

abbrev pub touches_in : ℕ → ℕ → ℕ → State → List Entry → List Touch
touches_in from count number s entries = told (touches_if from count) number s entries

-- the words of RAM, of so many bytes, that the task asks for, if it asks for those that are shared: among
-- the touches of a whole run's events that it leaves by their numbers
abbrev pub shared_words : TraceTask → ℕ → State → List Entry → Option (ℕ → Bool)
shared_words task ram s whole =
    if task.shared
    then Some (is_shared (ram / 4) (touches_in task.from task.count 0 s whole))
    else None

-- those that the task asks for, over this file of its image: where it asks for this word, and for
-- these words
abbrev pub shown_lines :
    TraceTask → List ℕ → Option ℕ → Option (ℕ → Bool) → State → List Entry → List (List ℕ)
shown_lines task file touches shared s entries =
    traced (style_of task.registers task.symbols task.image.now file) task.loads
    (is_wanted task.from task.count task.only task.outcomes touches shared) 0 s entries

-- their text, of a run from a state on that has these entries
abbrev pub lines_text :
    TraceTask → List ℕ → Option ℕ → Option (ℕ → Bool) → State → List Entry → List ℕ
lines_text task file touches shared s entries =
    text_of (shown_lines task file touches shared s entries)

-- all that is printed of a run that stopped
abbrev pub trace_text :
    TraceTask → List ℕ → Option ℕ → Option (ℕ → Bool) → State → List Entry → RunStop → List ℕ
trace_text task file touches shared s entries stop =
    lines_text task file touches shared s entries ++ with_line_end (stop_line stop)

-- an input's text, a schedule or a log, lists these events
abbrev pub ListsIn : Option (List ℕ) → List Event → Type 0
ListsIn input events = OfText input (λ text. (named : Option NamedMachine) × Lists text events named)

-- from a state the first events that an input's text lists are made: so many as are
-- made before the machine is off or one is refused. These are their entries, and they lead to
-- another state
pub record RunsSchedule
    (input : Option (List ℕ)) (s : State) (entries : List Entry) (stop : RunStop) (t : State)
    : Type 0 where
  pub listed : List Event
  pub lists : ListsIn input listed
  pub makes : MakesEvents s listed stop entries t

-- these are the events that a text lists, if there is one; else there are none
abbrev pub ListsIf : Option (List ℕ) → List Event → Type 0
ListsIf None events = events ≡ []
ListsIf (Some text) events = (named : Option NamedMachine) × Lists text events named

-- the inputs of an order: the keys of a file, and the events that come first, those of another file
pub record AreOrdered
    (options : Drive) (files : List ℕ → Option (List ℕ)) (keys : List ℕ) (first : List Event)
    : Type 0 where
  pub are_keys : AreKeys options.keys files keys
  pub text : Option (List ℕ)
  pub is_text : IsTextOf options.after files text
  pub lists : ListsIf text first

-- from a state the events that come first are made, and then those that a policy chooses behind them
pub record RunsDriven
    (options : Drive) (files : List ℕ → Option (List ℕ)) (s : State) (entries : List Entry)
    (stop : RunStop) (t : State) : Type 0 where
  pub keys : List ℕ
  pub first : List Event
  pub inputs : AreOrdered options files keys first
  pub goes : GoesBehind (rules_of options keys) options.events s first stop entries t

-- a whole run: without a drive of the events that the input lists
abbrev pub Runs :
    Option Drive → (List ℕ → Option (List ℕ)) → Option (List ℕ) → State → List Entry → RunStop →
    State → Type 0
Runs None files input s entries stop t = RunsSchedule input s entries stop t
Runs (Some drive) files input s entries stop t = RunsDriven drive files s entries stop t

-- where the task asks for the words that are shared, these are the entries of a whole run
abbrev pub IsWhole :
    TraceTask → (List ℕ → Option (List ℕ)) → Option (List ℕ) → State → List Entry → Type 0
IsWhole task files input s whole =
    task.shared ≡ true
    → (stop : RunStop) × (t : State) × Runs task.drive files input s whole stop t

-- such a run so far, whether or not more events come: the first of a list's are made, with these entries
abbrev pub MakesSome : List Event → State → List Entry → State → Type 0
MakesSome events s entries t =
    (events_of entries ≡ take (length entries) events) × Leads s entries t

pub record BeginsSchedule
    (input : Option (List ℕ)) (s : State) (entries : List Entry) (t : State) : Type 0 where
  pub listed : List Event
  pub lists : ListsIn input listed
  pub makes : MakesSome listed s entries t

-- or those that a policy chooses, one after the other, at most so many
pub record DrivesSome
    (rules : Rules) (most : ℕ) (s : State) (entries : List Entry) (t : State) : Type 0 where
  pub few : length entries ≤ most
  pub cursor : Cursor
  pub chosen_are : Chooses rules (slice_get rules.keys) (cursor_at rules s) s entries cursor t

-- or some of the events that come first; or all of them, and some that a policy chooses behind them
abbrev pub GoesSome : Rules → ℕ → List Event → State → List Entry → State → Type 0
GoesSome rules most first s entries t =
    MakesSome first s entries t
    ⊎ ((all more : List Entry) × (between : State) × MakesEvents s first End all between
    × DrivesSome rules most between more t × (entries ≡ all ++ more))

pub record BeginsDriven
    (options : Drive) (files : List ℕ → Option (List ℕ)) (s : State) (entries : List Entry)
    (t : State) : Type 0 where
  pub keys : List ℕ
  pub first : List Event
  pub inputs : AreOrdered options files keys first
  pub goes : GoesSome (rules_of options keys) options.events first s entries t

abbrev pub Begins :
    Option Drive → (List ℕ → Option (List ℕ)) → Option (List ℕ) → State → List Entry → State →
    Type 0
Begins None files input s entries t = BeginsSchedule input s entries t
Begins (Some drive) files input s entries t = BeginsDriven drive files s entries t

-- the machine of a task over an image's file: the one that is asked for over the input's text; with a
-- drive over the text of the events that come first
abbrev pub IsConfOf :
    Option Drive → AskedSize → (List ℕ → Option (List ℕ)) → List ℕ → Option (List ℕ) → Conf → Type 0
IsConfOf None asked files file input conf =
    OfText input (λ text. (events : List Event) × ListsFor asked file text events conf)
IsConfOf (Some drive) asked files file input conf =
    (text : Option (List ℕ)) × (first : List Event) × IsTextOf drive.after files text
    × ListsFirst asked file text first conf

-- the task's image is booted; its file has these bytes, as far as they are known
pub record BootsFor
    (task : TraceTask) (files : List ℕ → Option (List ℕ)) (known : Option (List ℕ))
    (input : Option (List ℕ)) (booted : State) : Type 0 where
  pub file : List ℕ
  pub is_file : IfSome known (λ bytes. file ≡ bytes)
  pub conf : Conf
  pub is_conf : IsConfOf task.drive task.size files file input conf
  pub boots : BootsIn file conf booted

-- with an order the input isn't read
abbrev pub IsUnread : Option Drive → Streams → Type 0
IsUnread None x = Unit {0}
IsUnread (Some drive) x = x.left ≡ x.input

-- a finished task, and why its run stopped
pub record IsTraced
    (task : TraceTask) (files : List ℕ → Option (List ℕ)) (known : Option (List ℕ)) (x : Streams)
    (stop : RunStop) : Type 0 where
  pub booted : State
  pub boots : BootsFor task files known x.input booted
  pub touches : Option ℕ
  pub is_asked : IsAskedWord task boots.conf.ram boots.file touches
  pub whole : List Entry
  pub is_whole : IsWhole task files x.input booted whole
  pub entries : List Entry
  pub state : State
  pub runs : Runs task.drive files x.input booted entries stop state
  pub is_unread : IsUnread task.drive x
  pub written :
      Appends x.before x.after
      (trace_text task boots.file touches (shared_words task boots.conf.ram booted whole) booted entries stop)

-- the run of a task, as `run` is asked for it
abbrev pub run_of : TraceTask → RunTask
run_of task = record { image = task.image; size = task.size; shown = Summary; traps = false }

-- what a fault before the run says of its inputs, as for `run`
abbrev pub IsEarlyFault :
    Option Drive → TraceTask → (List ℕ → Option (List ℕ)) → Option (List ℕ) → Option (List ℕ) →
    Fault → Type 0
IsEarlyFault None task files known input fault = IsFaultOf (run_of task) known input fault
IsEarlyFault (Some drive) task files known input fault =
    IsOrderFault task.image task.size drive files known fault

-- the inputs are read: a list of events, or those of an order
abbrev pub HasInputs : Option Drive → (List ℕ → Option (List ℕ)) → Option (List ℕ) → Type 0
HasInputs None files input = (events : List Event) × ListsIn input events
HasInputs (Some drive) files input =
    (keys : List ℕ) × (first : List Event) × AreOrdered drive files keys first

-- where they are, and the image is booted, the word that the task asks for may stand for none
pub record LacksWord
    (task : TraceTask) (files : List ℕ → Option (List ℕ)) (known : Option (List ℕ)) (x : Streams)
    (fault : Fault) : Type 0 where
  pub has_inputs : HasInputs task.drive files x.input
  pub booted : State
  pub boots : BootsFor task files known x.input booted
  pub text : Bor (List ℕ)
  pub asked : task.touches ≡ Some text
  pub is_none : IsNoWord (symbols_of task boots.file) boots.conf.ram text.now
  pub fault_is : fault ≡ Touches text

-- what was written before a fault in the run: a beginning of the lines of the events that were made,
-- or of all that is printed
pub record FailsInRun
    (task : TraceTask) (files : List ℕ → Option (List ℕ)) (known : Option (List ℕ)) (x : Streams)
    (fault : Fault) : Type 0 where
  pub is_fault : (fault ≡ Output) ⊎ (fault ≡ Memory)
  pub booted : State
  pub boots : BootsFor task files known x.input booted
  pub touches : Option ℕ
  pub is_asked : IsAskedWord task boots.conf.ram boots.file touches
  pub whole : List Entry
  pub is_whole : IsWhole task files x.input booted whole
  pub entries : List Entry
  pub state : State
  pub some_written :
      (Begins task.drive files x.input booted entries state
      × AppendsSome x.before x.after
      (lines_text task boots.file touches (shared_words task boots.conf.ram booted whole) booted entries))
      ⊎ ((stop : RunStop) × Runs task.drive files x.input booted entries stop state
      × AppendsSome x.before x.after
      (trace_text task boots.file touches (shared_words task boots.conf.ram booted whole) booted entries stop))

-- a fault that ends the task: before the run, and nothing was written; or in the run
pub record IsTraceFault
    (task : TraceTask) (files : List ℕ → Option (List ℕ)) (known : Option (List ℕ)) (x : Streams)
    (fault : Fault) : Type 0 where
  pub is_unread : IsUnread task.drive x
  pub why :
      ((IsEarlyFault task.drive task files known x.input fault ⊎ LacksWord task files known x fault)
      × (x.after ≡ x.before))
      ⊎ FailsInRun task files known x fault
