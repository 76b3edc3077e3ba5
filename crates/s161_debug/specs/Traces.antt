use Rattle.std.specs.Prelude.{ℕ, ◌-◌, min, not, nat_le, nat_lt, ◌&&◌, if◌then◌else◌, List, [], flat_map, length, slice_get, Option, None, Some, Result, Ok, Err}
use Rattle.std.specs.List.{range_with_len}
use Rattle.m161_cpu.specs.declared.processor.Outcome.{Outcome}
use Rattle.m161_dis.specs.declared.naming.Style.{Style}
use Rattle.m161_machine.specs.declared.event.Event.{Event}
use Rattle.m161_machine.specs.declared.event.Refusal.{Refusal}
use Rattle.m161_machine.specs.History.{History}
use Rattle.m161_machine.specs.State.{State, next}
use Rattle.m161_debug.specs.declared.jump.JumpError.{JumpError}
use Rattle.m161_debug.specs.declared.jump.JumpError.TheVariants.{BadArgument, Dropped}
use Rattle.m161_replay.specs.Replays.{state_at}
use Rattle.m161_text.specs.Lines.{with_line_end}
use Rattle.m161_trace.specs.Line.{event_line}

-- The last events that were accepted, as a trace shows them.

-- the line of event k, which is made in a state; a refused one has none
abbrev pub line_by : Style → ℕ → Event → State → Result (Outcome × State) Refusal → List ℕ
line_by style k e s (Ok made) = with_line_end (event_line style k e s made.0 made.1)
line_by style k e s (Err refusal) = []

abbrev pub line_if : Style → ℕ → State → Option Event → List ℕ
line_if style k s None = []
line_if style k s (Some e) = line_by style k e s (next s e)

-- of event k of a list: it is made in the state that those before it lead to
abbrev pub line_at : Style → State → List Event → ℕ → List ℕ
line_at style start events k = line_if style k (state_at start events k) (slice_get events k)

-- of a list's last n events, or of all if it has fewer: the events have their numbers in the list
unfoldable pub last_lines : Style → State → List Event → ℕ → List ℕ
last_lines style start events n =
    flat_map (line_at style start events) (range_with_len (length events - n) (min n (length events)))

-- the first reason not to show the last n events: it isn't 1 to 1,024; or the log has dropped some events
abbrev pub trace_fault : ℕ → History → Option JumpError
trace_fault n m =
    if not (nat_le 1 n && nat_le n 1024) then Some BadArgument
    else if nat_lt (length m.log) m.state.made then Some Dropped
    else None
