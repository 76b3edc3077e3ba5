use Rattle.std.specs.Prelude.{◌≡◌, ◌⊎◌, ℕ, ◌+◌, Bool, if◌then◌else◌, List, [], ◌++◌, length, string_bytes, Option, option_map}
use Rattle.std.specs.Io.KnownBytes.{Appends}
use Rattle.m161_cpu.specs.declared.processor.Outcome.{Outcome}
use Rattle.m161_machine.specs.declared.event.Entry.{Entry}
use Rattle.m161_machine.specs.declared.event.Event.{Event}
use Rattle.m161_machine.specs.History.{Leads}
use Rattle.m161_machine.specs.State.{State}
use Rattle.m161_text.specs.Lines.{text_of, with_line_end}
use Rattle.s161_base.specs.declared.fault.Fault.{Fault}
use Rattle.s161_base.specs.declared.fault.Fault.TheVariants.{Memory, Output}
use Rattle.s161_base.specs.Naming.{style_of}
use Rattle.s161_base.specs.Streams.{AppendsSome}
use Rattle.s161_command.specs.declared.task.TraceTask.{TraceTask}
use Rattle.s161_run.specs.declared.events.RunStop.{RunStop}
use Rattle.s161_run.specs.Runs.{stop_line}
use Rattle.s161_texts.specs.declared.lines.Lines.{Lines}
use Rattle.s161_texts.specs.declared.filter.LineFilter.{LineFilter}
use Rattle.s161_texts.specs.declared.shared.Mark.{Mark}
use Rattle.s161_texts.specs.declared.shared.SharedWords.{SharedWords}
use Rattle.s161_texts.specs.Shared.{Touch, event_touches}
use Rattle.s161_texts.specs.Traces.{is_among, is_wanted, touches_in, traced}
use Rattle.s161_texts.specs.helpers.Marks.{is_marked, marks_after, no_marks}

-- How lines are printed as a run goes on.

-- which events have lines, and how these show registers and addresses, for an image's file; this word
-- and these words are asked for
abbrev pub filter_of : TraceTask → List ℕ → Option ℕ → Option SharedWords → LineFilter
filter_of task file touches shared = record {
  style = style_of task.registers task.symbols task.image.now file;
  from = task.from;
  count = task.count;
  only = task.only;
  touches = touches;
  shared = shared;
  outcomes = task.outcomes;
  loads = task.loads;
}

-- whether an event has a line
abbrev pub has_line : LineFilter → ℕ → State → Event → Outcome → Bool
has_line w =
    is_wanted w.from w.count w.only w.outcomes w.touches (option_map is_marked w.shared)

-- the lines that are asked for, of events from a state on, the first of which has this number
abbrev pub lines_from : LineFilter → ℕ → State → List Entry → List (List ℕ)
lines_from w number s entries = traced w.style w.loads (has_line w) number s entries

-- bytes are put behind those that are kept back, and some of all are written
abbrev pub PutsOut :
    Option (List ℕ) → List ℕ → List ℕ → Option (List ℕ) → List ℕ → Type 0
PutsOut before kept more after left =
    (written : List ℕ) × Appends before after written × (written ++ left ≡ kept ++ more)

-- these bytes are put behind those that are kept back, and the output or memory fails
abbrev pub FailsToPut :
    Option (List ℕ) → List ℕ → List ℕ → Option (List ℕ) → Fault → Type 0
FailsToPut before kept more after fault =
    ((fault ≡ Output) ⊎ (fault ≡ Memory)) × AppendsSome before after (kept ++ more)

-- no line is kept back yet, nothing is noted but these marks, and the first event is made in this state
abbrev pub IsNew : LineFilter → SharedWords → State → Lines → Type 0
IsNew w noted s l =
    (l.filter ≡ w) × (l.number ≡ 0) × (l.tracer ≡ s) × (string_bytes l.piece ≡ [])
    × (l.noted ≡ noted)

-- what is noted of an event that is accepted, if its number is in the filter's range
abbrev pub touches_now : LineFilter → ℕ → State → Event → Outcome → List Touch
touches_now w number s e o =
    if is_among w.from w.count number then event_touches e s o else []

-- what is noted after these events
abbrev pub noted_after : LineFilter → ℕ → State → List Entry → SharedWords → List Mark
noted_after w number s entries noted =
    marks_after noted.marks.items (touches_in w.from w.count number s entries)

-- the events of these entries led to a state, and their lines are put out
pub record Prints
    (l : Lines) (before : Option (List ℕ)) (entries : List Entry) (t : State)
    (k : Lines) (after : Option (List ℕ)) : Type 0 where
  pub filter_is : k.filter ≡ l.filter
  pub number_is : k.number ≡ l.number + length entries
  pub tracer_is : k.tracer ≡ t
  pub leads : Leads l.tracer entries t
  pub noted_is : k.noted.marks.items ≡ noted_after l.filter l.number l.tracer entries l.noted
  pub puts :
      PutsOut before (string_bytes l.piece) (text_of (lines_from l.filter l.number l.tracer entries))
      after (string_bytes k.piece)

-- they led to a state, and the output or memory fails as their lines are put out
abbrev pub FailsToPrint :
    Lines → Option (List ℕ) → List Entry → State → Option (List ℕ) → Fault → Type 0
FailsToPrint l before entries t after fault =
    Leads l.tracer entries t
    × FailsToPut before (string_bytes l.piece)
    (text_of (lines_from l.filter l.number l.tracer entries)) after fault

-- all that is printed of a run from a state on, which has these entries and stopped
abbrev pub run_text : LineFilter → State → List Entry → RunStop → List ℕ
run_text w s entries stop = text_of (lines_from w 0 s entries) ++ with_line_end (stop_line stop)

-- the words that are shared among the events of a whole run that a range leaves: `IsAll` is what is said
-- of its entries
pub record FindsShared
    (words from count : ℕ) (s : State) (IsAll : State → List Entry → RunStop → State → Type 0)
    (shared : SharedWords) : Type 0 where
  pub whole : List Entry
  pub stop : RunStop
  pub state : State
  pub is_all : IsAll s whole stop state
  pub marks_are : shared.marks.items ≡ marks_after (no_marks words) (touches_in from count 0 s whole)

-- all events of a run from one state to another are made, and what is asked for is printed: `IsAll`
-- is what is said of their entries
abbrev pub PrintsAll :
    LineFilter → State → (State → List Entry → RunStop → State → Type 0) → State → Option (List ℕ) →
    Option (List ℕ) → RunStop → Type 0
PrintsAll w s IsAll t before after stop =
    (entries : List Entry) × IsAll s entries stop t
    × Appends before after (run_text w s entries stop)

-- the output or memory fails: before the first event; or once some events were made, whose lines are
-- written in part; or once all were made. `IsSome` is what is said of the entries of some
abbrev pub FailsToPrintAll :
    LineFilter → State → (State → List Entry → State → Type 0) →
    (State → List Entry → RunStop → State → Type 0) → State → Option (List ℕ) → Option (List ℕ) →
    Fault → Type 0
FailsToPrintAll w s IsSome IsAll t before after fault =
    ((fault ≡ Memory) × (after ≡ before))
    ⊎ (((fault ≡ Output) ⊎ (fault ≡ Memory))
    × ((entries : List Entry)
    × ((IsSome s entries t × AppendsSome before after (text_of (lines_from w 0 s entries)))
    ⊎ ((stop : RunStop) × IsAll s entries stop t
    × AppendsSome before after (run_text w s entries stop)))))
