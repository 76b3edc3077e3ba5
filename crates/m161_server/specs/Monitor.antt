use Rattle.std.specs.Prelude.{ℕ, nat_lt, nat_le, ◌==◌, ◌&&◌, Bool, true, false, if◌then◌else◌, List, [], ◌∷◌, ◌++◌, Option, None, Some, codes, decimal, unwrap_or}
use Rattle.m161_gdb.specs.declared.packet.Kind.{Kind}
use Rattle.m161_gdb.specs.declared.packet.Kind.TheVariants as kinds
use Rattle.m161_gdb.specs.Stops.{StopsValue}
use Rattle.m161_moves.specs.declared.reason.Reason.{Reason}
use Rattle.m161_moves.specs.declared.reason.Reason.TheVariants as reasons
use Rattle.m161_moves.specs.Scenes.{Scene}
use Rattle.m161_text.specs.Lines.{text_of}
use Rattle.m161_text.specs.Parts.{hex_text}
use Rattle.m161_server.specs.declared.session.Session.{Session}
use Rattle.m161_server.specs.declared.words.Asked.{Asked}
use Rattle.m161_server.specs.declared.words.Asked.TheVariants as asks
use Rattle.m161_server.specs.Texts.{within}

-- The texts of the monitor.

abbrev pub error_line : List ℕ → List ℕ
error_line name = codes "? " ++ name ++ codes "\n"

-- a place behind a word
abbrev pub place_line : List ℕ → ℕ → List ℕ
place_line word place = word ++ decimal place ++ codes "\n"

abbrev pub at_line : Scene → ℕ → List ℕ
at_line scene place = codes "at " ++ decimal place ++ codes " next " ++ scene.next place ++ codes "\n"

-- The last stop.

abbrev pub kind_word : Kind → List ℕ
kind_word kinds.Software = codes "break "
kind_word kinds.Hardware = codes "break "
kind_word kinds.Write = codes "write "
kind_word kinds.Read = codes "read "
kind_word kinds.Access = codes "access "

-- at an address
abbrev pub stop_at : Kind → ℕ → ℕ → List ℕ
stop_at kind p address = kind_word kind ++ decimal p ++ codes " " ++ hex_text 8 address

abbrev pub step_word : ℕ → List ℕ
step_word p = codes "step " ++ decimal p

-- why a run stopped at a place
abbrev pub why_word : Scene → ℕ → Option Reason → List ℕ
why_word scene place None = codes "start"
why_word scene place (Some reasons.Interrupt) = codes "interrupt"
why_word scene place (Some reasons.Mark) = codes "goto"
why_word scene place (Some (reasons.Step p)) = step_word p
why_word scene place (Some reasons.End) = scene.next place
why_word scene place (Some reasons.Begin) = codes "begin"
why_word scene place (Some (reasons.Break p address kind)) = stop_at kind p address
why_word scene place (Some (reasons.Touch p watch)) = stop_at watch.kind p watch.address

abbrev pub why_line : Scene → ℕ → Option Reason → List ℕ
why_line scene place reason = why_word scene place reason ++ codes " at " ++ decimal place ++ codes "\n"

-- Places to go to.

abbrev pub goto_text : Scene → ℕ → ℕ → List ℕ
goto_text scene place k =
    if nat_le k scene.count
    then (if k == place then place_line (codes "at ") k else place_line (codes "goto ") k)
    else error_line (codes "BadArgument")

-- the mark is set, or taken away where the run is there
abbrev pub stops_at : Scene → ℕ → ℕ → StopsValue → StopsValue
stops_at scene place k stops =
    if nat_le k scene.count then record stops { mark = if k == place then None else Some k } else stops

abbrev pub stops_after : Scene → ℕ → Asked → StopsValue → StopsValue
stops_after scene place (asks.Goto k) stops = stops_at scene place k stops
stops_after scene place _ stops = stops

-- What is shown.

-- the processor that is asked for, if there is one; by default the general one
abbrev pub processor_of : Scene → Session → Option ℕ → Option ℕ
processor_of scene s None = Some (within scene s.general)
processor_of scene s (Some p) = if nat_lt p scene.processors then Some p else None

abbrev pub of_processor : (ℕ → List ℕ) → Option ℕ → List ℕ
of_processor text None = error_line (codes "BadProcessor")
of_processor text (Some p) = text p

abbrev pub memory_or : Scene → ℕ → ℕ → ℕ → List ℕ
memory_or scene place address n =
    unwrap_or (scene.memory_text place address n) (error_line (codes "BadArgument"))

abbrev pub trace_text : Scene → ℕ → ℕ → List ℕ
trace_text scene place n =
    if nat_le 1 n && nat_le n 1024 then scene.trace_text place n else error_line (codes "BadArgument")

unfoldable pub help_text : List ℕ
help_text = text_of (
    codes "at                 the place, and the event that comes next" ∷
    codes "why                why the last move stopped, and where" ∷
    codes "goto K             has the moves that come stop at place K" ∷
    codes "where              where the started processors are" ∷
    codes "regs | regs P      the registers of the general processor, or of processor P" ∷
    codes "cop0 | cop0 P      its registers of coprocessor 0" ∷
    codes "tlb | tlb P        its TLB" ∷
    codes "memory ADDR N      N words of RAM" ∷
    codes "trace N            the lines of the last N events" ∷
    codes "output             what the console has shown" ∷
    codes "schedule           the events before the place" ∷
    codes "help               prints this" ∷
    [])

abbrev pub monitor_text : Scene → ℕ → Session → Asked → List ℕ
monitor_text scene place s asks.At = at_line scene place
monitor_text scene place s asks.Why = why_line scene place s.last.reason
monitor_text scene place s (asks.Goto k) = goto_text scene place k
monitor_text scene place s asks.Where = scene.where_text place
monitor_text scene place s (asks.Registers p) = of_processor (scene.registers_text place) (processor_of scene s p)
monitor_text scene place s (asks.Cop0 p) = of_processor (scene.cop0_text place) (processor_of scene s p)
monitor_text scene place s (asks.Tlb p) = of_processor (scene.tlb_text place) (processor_of scene s p)
monitor_text scene place s (asks.Memory address n) = memory_or scene place address n
monitor_text scene place s (asks.Trace n) = trace_text scene place n
monitor_text scene place s asks.Output = scene.console place
monitor_text scene place s asks.Schedule = scene.schedule_text place
monitor_text scene place s asks.Help = help_text
monitor_text scene place s asks.Unknown = error_line (codes "Unknown")
monitor_text scene place s asks.BadArgument = error_line (codes "BadArgument")
