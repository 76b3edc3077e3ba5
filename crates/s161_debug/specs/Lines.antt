use Rattle.std.specs.Prelude.{◌≡◌, ◌⊎◌, ℕ, ◌+◌, ◌-◌, ◌<◌, ◌^◌, nat_le, nat_lt, Bool, true, false, ◌==◌, ◌&&◌, if◌then◌else◌, bytes_eq, List, [], ◌∷◌, ◌++◌, drop, length, take, Option, None, Some, Result, Ok, Err, Vec, codes, decimal}
use Rattle.std.specs.Global.{Global}
use Rattle.m161_machine.specs.declared.event.Conflict.{Conflict as Told}
use Rattle.m161_machine.specs.declared.event.Event.{Event}
use Rattle.m161_machine.specs.History.{boot_state, events_of}
use Rattle.m161_text.specs.Lines.{with_line_end}
use Rattle.m161_text.specs.Parts.{◌␣◌, Reads}
use Rattle.m161_debug.specs.declared.command.CommandError.{CommandError}
use Rattle.m161_debug.specs.declared.jump.JumpError.{JumpError}
use Rattle.m161_debug.specs.declared.jump.JumpError.TheVariants as jump
use Rattle.m161_debug.specs.declared.stop.StopReason.{StopReason}
use Rattle.m161_debug.specs.declared.stop.StopReason.TheVariants.{Break, Refused, Off, Conflict, Until, End}
use Rattle.m161_debug.specs.Breakpoints.{SessionState}
use Rattle.m161_debug.specs.Commands.{first_word, name_of_error}
use Rattle.m161_debug.specs.Jumps.{Jumps, jump_fault}
use Rattle.m161_debug.specs.Obeys.{Commands, stop_text, used_by}
use Rattle.m161_debug.specs.Stops.{Stops}
use Rattle.s161_debug.specs.declared.asked.Asked.{Asked}
use Rattle.s161_debug.specs.declared.asked.Asked.TheVariants.{Nothing, Help, Quit, Jump, Trace, Command}
use Rattle.s161_debug.specs.Blanks.{spaced}
use Rattle.s161_debug.specs.Helps.{help_text}
use Rattle.s161_debug.specs.Traces.{last_lines, trace_fault}

-- What a session's lines do: the program's own, and the commands of the session.

-- an empty line, or a comment
abbrev pub is_silent : List ℕ → Bool
is_silent [] = true
is_silent (b ∷ bs) = b == 35

-- what a line asks for: the program's own lines, or a command of the session
abbrev pub asked_by : List ℕ → Asked
asked_by line =
    if is_silent line then Nothing
    else if bytes_eq line (codes "help") then Help
    else if bytes_eq line (codes "quit") then Quit
    else if bytes_eq (first_word line) (codes "j") then Jump
    else if bytes_eq (first_word line) (codes "y") then Trace else Command

-- the line of an error
abbrev pub error_line : List ℕ → List ℕ
error_line name = with_line_end (codes "?" ␣ name)

-- the text after a command's own: the line of its error
abbrev pub error_text : Result ℕ CommandError → List ℕ
error_text (Ok used) = []
error_text (Err e) = error_line (name_of_error e)

-- the remaining events after a command
abbrev pub left_by : Result ℕ CommandError → List Event → List Event
left_by (Ok used) events = drop used events
left_by (Err e) events = events

-- the session's command of a line is executed over the remaining events; these are the session and
-- the events after it, and what is printed
pub record DoesCommand
    (line : List ℕ) (s : SessionState) (events : List Event)
    (t : SessionState) (left : List Event) (printed : List ℕ) : Type 0 where
  pub answer : Result ℕ CommandError
  pub shown : List ℕ
  pub commands : Commands line s events answer t [] shown
  pub left_is : left ≡ left_by answer events
  pub printed_is : printed ≡ shown ++ error_text answer

-- a number of 64 bits
abbrev pub IsLong : ℕ → Type 0
IsLong n = n < 2 ^ 64

-- the line that goes to the state before an event
abbrev pub jump_text : ℕ → List ℕ
jump_text k = codes "j" ␣ decimal k

-- the names that a jump's errors are printed by
abbrev pub name_of_jump_error : JumpError → List ℕ
name_of_jump_error jump.BadArgument = codes "BadArgument"
name_of_jump_error jump.Dropped = codes "Dropped"
name_of_jump_error jump.NoMemory = codes "NoMemory"

-- the remaining events after a jump: those that are undone come again, before the others
abbrev pub left_by_jump : Result (Vec Event Global) JumpError → List Event → List Event
left_by_jump (Ok undone) events = undone.items ++ events
left_by_jump (Err e) events = events

-- what a jump prints
abbrev pub jump_shown : ℕ → Result (Vec Event Global) JumpError → List ℕ
jump_shown k (Ok undone) = with_line_end (codes "at" ␣ decimal k)
jump_shown k (Err e) = error_line (name_of_jump_error e)

-- the session goes back to the state before event k
pub record DoesJump
    (k : ℕ) (s : SessionState) (events : List Event)
    (t : SessionState) (left : List Event) (printed : List ℕ) : Type 0 where
  pub answer : Result (Vec Event Global) JumpError
  pub jumps : Jumps (jump_fault k s.machine) k s answer t
  pub left_is : left ≡ left_by_jump answer events
  pub printed_is : printed ≡ jump_shown k answer

-- nothing but this is printed
abbrev pub OnlyPrints :
    List ℕ → SessionState → List Event → SessionState → List Event → List ℕ → Type 0
OnlyPrints text s events t left printed = (t ≡ s) × (left ≡ events) × (printed ≡ text)

-- the state before event k lies ahead, where so many events were accepted: some of the remaining ones,
-- or all, are to be made first
abbrev pub is_ahead : ℕ → ℕ → List Event → Bool
is_ahead k made events = nat_lt made k && nat_le k (made + length events)

-- what going there prints: that the session is there; or why it stopped, as a run says it
abbrev pub ahead_text : ℕ → StopReason → Option Told → List ℕ
ahead_text k (Break i) told = stop_text (Break i) told
ahead_text k (Refused i refusal) told = stop_text (Refused i refusal) told
ahead_text k (Off i) told = stop_text (Off i) told
ahead_text k (Conflict i) told = stop_text (Conflict i) told
ahead_text k (Until i) told = stop_text (Until i) told
ahead_text k (End n) told = codes "at" ␣ decimal k

-- the session goes on to the state before event k: a run over the remaining events up to there, as if
-- there were no breakpoints
pub record GoesAhead
    (k : ℕ) (s : SessionState) (events : List Event)
    (t : SessionState) (left : List Event) (printed : List ℕ) : Type 0 where
  pub stop : StopReason
  pub stops : Stops [] s.machine (take (k - s.machine.state.made) events) stop t.machine
  pub breakpoints : t.breakpoints ≡ s.breakpoints
  pub style : t.style ≡ s.style
  pub left_is : left ≡ drop (used_by stop) events
  pub printed_is : printed ≡ with_line_end (ahead_text k stop t.machine.state.conflict)

-- the session goes to the state before event k: on, if that lies ahead, unless memory is refused for
-- what that prints; else back
abbrev pub GoesTo :
    Bool → ℕ → SessionState → List Event → SessionState → List Event → List ℕ → Type 0
GoesTo true k s events t left printed =
    GoesAhead k s events t left printed
    ⊎ OnlyPrints (error_line (name_of_jump_error jump.NoMemory)) s events t left printed
GoesTo false k s events t left printed = DoesJump k s events t left printed

-- a line whose first word is `j`: a jump, or else a bad argument
abbrev pub DoesJumpIf :
    Option ℕ → SessionState → List Event → SessionState → List Event → List ℕ → Type 0
DoesJumpIf None s events t left printed =
    OnlyPrints (error_line (name_of_jump_error jump.BadArgument)) s events t left printed
DoesJumpIf (Some k) s events t left printed =
    GoesTo (is_ahead k s.machine.state.made events) k s events t left printed

-- the line that shows the last n events
abbrev pub trace_text : ℕ → List ℕ
trace_text n = codes "y" ␣ decimal n

-- they are shown, made again from the state at boot, unless memory is refused; or there is a first
-- reason not to
abbrev pub ShowsLast :
    Option JumpError → ℕ → SessionState → List Event → SessionState → List Event → List ℕ → Type 0
ShowsLast (Some fault) n s events t left printed =
    OnlyPrints (error_line (name_of_jump_error fault)) s events t left printed
ShowsLast None n s events t left printed =
    OnlyPrints (last_lines s.style (boot_state s.machine.start) (events_of s.machine.log) n) s events
    t left printed
    ⊎ OnlyPrints (error_line (name_of_jump_error jump.NoMemory)) s events t left printed

-- a line whose first word is `y`: that, or else a bad argument
abbrev pub DoesTraceIf :
    Option ℕ → SessionState → List Event → SessionState → List Event → List ℕ → Type 0
DoesTraceIf None s events t left printed =
    OnlyPrints (error_line (name_of_jump_error jump.BadArgument)) s events t left printed
DoesTraceIf (Some n) s events t left printed =
    ShowsLast (trace_fault n s.machine) n s events t left printed

-- what is done for a line, by what it asks for
abbrev pub Does :
    Asked → List ℕ → SessionState → List Event → SessionState → List Event → List ℕ → Type 0
Does Nothing line s events t left printed = OnlyPrints [] s events t left printed
Does Help line s events t left printed = OnlyPrints help_text s events t left printed
Does Quit line s events t left printed = OnlyPrints [] s events t left printed
Does Jump line s events t left printed =
    (k : Option ℕ) × Reads IsLong jump_text line k × DoesJumpIf k s events t left printed
Does Trace line s events t left printed =
    (n : Option ℕ) × Reads IsLong trace_text line n × DoesTraceIf n s events t left printed
Does Command line s events t left printed = DoesCommand line s events t left printed

-- a line, as what it counts as, is done over the remaining events; these are the session and the
-- events after it, and what is printed
abbrev pub DoesLine :
    List ℕ → SessionState → List Event → SessionState → List Event → List ℕ → Type 0
DoesLine line s events t left answer =
    Does (asked_by (spaced line)) (spaced line) s events t left answer

-- these lines are done, one after the other, and these are the texts that are printed
abbrev pub DoesLines : List (List ℕ) → SessionState → List Event → List (List ℕ) → Type 0
DoesLines [] s events answers = answers ≡ []
DoesLines (line ∷ lines) s events answers =
    (t : SessionState) × (left : List Event) × (answer : List ℕ) × (others : List (List ℕ))
    × (answers ≡ answer ∷ others) × DoesLine line s events t left answer
    × DoesLines lines t left others
