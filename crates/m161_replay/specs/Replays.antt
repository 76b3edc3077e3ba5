use Rattle.std.specs.Prelude.{ℕ, ◌+◌, ◌-◌, min, List, [], ◌∷◌, ◌++◌, drop, length, slice_get, take, Option, None, Some, option_and_then, Result, Ok, Err}
use Rattle.m161_cpu.specs.declared.processor.Outcome.{Outcome}
use Rattle.m161_dis.specs.Style.{plain}
use Rattle.m161_display.specs.Shows.{show_cop0_text, show_regs_text, show_tlb_text, show_where_text}
use Rattle.m161_machine.specs.declared.event.Event.{Event}
use Rattle.m161_machine.specs.declared.event.Event.TheVariants as events
use Rattle.m161_machine.specs.declared.event.Refusal.{Refusal}
use Rattle.m161_machine.specs.State.{State, next}
use Rattle.m161_moves.specs.declared.run.StepSeen.{StepSeen}
use Rattle.m161_moves.specs.Course.{Course}
use Rattle.m161_moves.specs.Scenes.{Scene}
use Rattle.m161_steplog.specs.Written.{schedule_text}
use Rattle.m161_text.specs.Lines.{with_line_end}
use Rattle.m161_trace.specs.Line.{event_line}
use Rattle.m161_replay.specs.Seen.{step_seen}
use Rattle.m161_replay.specs.Views.{byte_of, doing_of, memory_text_of, next_text_of, register_of}

-- The run of a list of events from a state.

-- a run and the place where it stands
pub record Replay : Type 0 where
  pub start : State
  pub events : List Event
  pub place : ℕ

-- the state after an event; a refused one changes nothing
abbrev pub after : State → Result (Outcome × State) Refusal → State
after s (Ok made) = made.1
after s (Err refusal) = s

-- the state that events lead to
abbrev pub along : State → List Event → State
along s [] = s
along s (e ∷ es) = along (after s (next s e)) es

-- the state at a place: where the events before it lead to
abbrev pub state_at : State → List Event → ℕ → State
state_at start list place = along start (take place list)

-- how many events are made: those before the first that is refused
abbrev pub counted : Result (Outcome × State) Refusal → (State → ℕ) → ℕ
counted (Ok made) rest = rest made.1 + 1
counted (Err refusal) rest = 0

abbrev pub number_made : State → List Event → ℕ
number_made s [] = 0
number_made s (e ∷ es) = counted (next s e) (λ t. number_made t es)

-- what moves see of an event
abbrev pub seen_by : ℕ → State → Result (Outcome × State) Refusal → Option StepSeen
seen_by p s (Ok made) = Some (step_seen p s)
seen_by p s (Err refusal) = None

abbrev pub event_seen : State → Event → Option StepSeen
event_seen s (events.Step p) = seen_by p s (next s (events.Step p))
event_seen s (events.Key byte) = None
event_seen s events.Done = None

-- a trace's lines of events from a state on, with their numbers
abbrev pub line_by : ℕ → Event → State → Result (Outcome × State) Refusal → List ℕ
line_by k e s (Ok made) = with_line_end (event_line plain k e s made.0 made.1)
line_by k e s (Err refusal) = []

abbrev pub trace_from : ℕ → State → List Event → List ℕ
trace_from k s [] = []
trace_from k s (e ∷ es) = line_by k e s (next s e) ++ trace_from (k + 1) (after s (next s e)) es

-- of the last n events before a place
unfoldable pub trace_before : State → List Event → ℕ → ℕ → List ℕ
trace_before start list place n =
    trace_from (place - n) (state_at start list (place - n)) (drop (place - n) (take place list))

-- what is seen at its places
abbrev pub scene_of : State → List Event → Scene
scene_of start list = record {
  processors = length start.processors;
  count = length list;
  doing = λ place p. doing_of p (state_at start list place);
  register = λ place p n. register_of p (state_at start list place) n;
  byte = λ place p address. byte_of p (state_at start list place) address;
  console = λ place. (state_at start list place).board.console.output;
  next = λ place. next_text_of (state_at start list place) (slice_get list place);
  schedule_text = λ place. schedule_text (take place list);
  trace_text = λ place n. trace_before start list place n;
  where_text = λ place. show_where_text plain (state_at start list place);
  registers_text = λ place p. show_regs_text p (state_at start list place);
  cop0_text = λ place p. show_cop0_text p (state_at start list place);
  tlb_text = λ place p. show_tlb_text p (state_at start list place);
  memory_text = λ place address n. memory_text_of (state_at start list place) address n;
}

-- its course
abbrev pub course_of : State → List Event → Course
course_of start list = record {
  end = number_made start list;
  step = λ place. option_and_then (event_seen (state_at start list place)) (slice_get list place);
  scene = scene_of start list;
}

-- and its place, which isn't behind its end
abbrev pub place_of : Replay → ℕ
place_of run = min run.place (number_made run.start run.events)
