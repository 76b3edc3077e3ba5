use Rattle.std.specs.Prelude.{◌≡◌, ℕ, nat_lt, Bool, true, false, ◌&&◌, if◌then◌else◌, List, [], ◌∷◌, ◌++◌, Option, None, Some, codes, drop, length, max}
use Rattle.m161_gdb.specs.declared.packet.Action.{Action}
use Rattle.m161_gdb.specs.declared.packet.Change.{Change}
use Rattle.m161_gdb.specs.declared.packet.Change.TheVariants as changes
use Rattle.m161_gdb.specs.declared.packet.Kind.{Kind}
use Rattle.m161_gdb.specs.declared.packet.Kind.TheVariants as kinds
use Rattle.m161_gdb.specs.declared.packet.Motion.{Motion}
use Rattle.m161_gdb.specs.declared.packet.Motion.TheVariants as motions
use Rattle.m161_gdb.specs.declared.packet.Packet.{Packet}
use Rattle.m161_gdb.specs.declared.packet.Packet.TheVariants as packets
use Rattle.m161_gdb.specs.declared.packet.Thread.{Thread}
use Rattle.m161_gdb.specs.declared.packet.Thread.TheVariants as threads
use Rattle.m161_gdb.specs.Motions.{motion_by_control, tabulate}
use Rattle.m161_gdb.specs.Packets.{first_naming}
use Rattle.m161_gdb.specs.Stops.{StopsValue, after_delete, after_set}
use Rattle.m161_moves.specs.declared.reason.Reason.{Reason}
use Rattle.m161_moves.specs.declared.reason.Reason.TheVariants as reasons
use Rattle.m161_moves.specs.Course.{Course}
use Rattle.m161_moves.specs.Moves.{StopsBackwards, StopsForwards}
use Rattle.m161_moves.specs.Scenes.{Scene}
use Rattle.m161_moves.specs.Threads.{thread_of}
use Rattle.m161_text.specs.Parts.{hex_text}
use Rattle.m161_server.specs.declared.fault.ServerFault.{ServerFault}
use Rattle.m161_server.specs.declared.fault.ServerFault.TheVariants as faults
use Rattle.m161_server.specs.declared.session.LastStop.{LastStop}
use Rattle.m161_server.specs.declared.session.Session.{Session}
use Rattle.m161_server.specs.Descriptions.{description}
use Rattle.m161_server.specs.Monitor.{monitor_text, stops_after}
use Rattle.m161_server.specs.Texts.{bytes_text, doing_text, memory_text, part_text, shown_packets, thread_list, thread_text, threads_text, within, word_or, words_text}
use Rattle.m161_server.specs.Words.{asked_of}

-- What a session answers packets.

-- where a session stands: the place of its run, and what it knows
pub record Standing : Type 0 where
  pub place : ℕ
  pub session : Session

abbrev pub standing : ℕ → Session → Standing
standing place session = record { place = place; session = session }

-- an answer: the frames of what is told the client's user, and the body of the packet behind them, if
-- there is one
pub record Answer : Type 0 where
  pub before : List ℕ
  pub last : Option (List ℕ)

-- The last stop.

abbrev pub signal_text : Reason → List ℕ
signal_text reasons.Interrupt = codes "T02"
signal_text reasons.Mark = codes "T02"
signal_text _ = codes "T05"

abbrev pub kind_text : Kind → List ℕ
kind_text kinds.Software = codes "swbreak:"
kind_text kinds.Hardware = codes "hwbreak:"
kind_text kinds.Write = codes "watch:"
kind_text kinds.Read = codes "rwatch:"
kind_text kinds.Access = codes "awatch:"

abbrev pub break_text : Kind → List ℕ
break_text kind = kind_text kind ++ codes ";"

abbrev pub touch_text : Kind → ℕ → List ℕ
touch_text kind address = kind_text kind ++ hex_text 8 address ++ codes ";"

abbrev pub reason_text : Reason → List ℕ
reason_text reasons.Interrupt = []
reason_text reasons.Mark = []
reason_text (reasons.Step p) = []
reason_text reasons.End = codes "replaylog:end;"
reason_text reasons.Begin = codes "replaylog:begin;"
reason_text (reasons.Break p address kind) = break_text kind
reason_text (reasons.Touch p watch) = touch_text watch.kind watch.address

-- before a session's first move there is none, which is told like a step
abbrev pub stop_head : Option Reason → List ℕ
stop_head None = codes "T05"
stop_head (Some reason) = signal_text reason ++ reason_text reason

abbrev pub stop_text : Scene → LastStop → List ℕ
stop_text scene last =
    stop_head last.reason ++ codes "thread:" ++ thread_text (within scene last.processor) ++ codes ";"

-- Moves.

-- what is left of the stops behind one: the flag is clear, and the mark is gone, where they stopped it
abbrev pub stops_behind : Reason → StopsValue → StopsValue
stops_behind reasons.Interrupt stops = record stops { interrupted = false }
stops_behind reasons.Mark stops = record stops { mark = None }
stops_behind _ stops = stops

abbrev pub moved : Course → List (Option Motion) → ℕ → Reason → Session → Session
moved course chosen place reason s = record {
  stops = stops_behind reason s.stops;
  general = thread_of course chosen place reason;
  control = s.control;
  shown = max s.shown (length (course.scene.console place));
  last = record { reason = Some reason; processor = thread_of course chosen place reason };
}

-- a move that stopped at a place for a reason: what the console has shown up to there, and wasn't told
-- yet, is told before the reply
pub record Settles
    (course : Course) (chosen : List (Option Motion)) (place : ℕ) (reason : Reason)
    (s : Session) (a : Answer) (t : Session) : Type 0 where
  pub session : t ≡ moved course chosen place reason s
  pub before : a.before ≡ shown_packets (drop s.shown (course.scene.console place))
  pub last : a.last ≡ Some (stop_text course.scene t.last)

-- a move: it stops at a place for a reason
abbrev pub Moves :
    Course → (ℕ → Reason → Type 0) → List (Option Motion) → Standing → Answer → Standing → Type 0
Moves course StopsAt chosen x a y =
    (reason : Reason) × StopsAt y.place reason
    × Settles course chosen y.place reason x.session a y.session

abbrev pub MovesOn : Course → List (Option Motion) → Standing → Answer → Standing → Type 0
MovesOn course chosen x a y =
    Moves course (StopsForwards course x.session.stops chosen x.place) chosen x a y

abbrev pub MovesBack : Course → List (Option Motion) → Standing → Answer → Standing → Type 0
MovesBack course chosen x a y =
    Moves course (StopsBackwards course x.session.stops chosen x.place) chosen x a y

-- what the processors do by a packet without actions
abbrev pub chosen_by : Scene → Session → Motion → List (Option Motion)
chosen_by scene s motion =
    tabulate (motion_by_control s.control (within scene s.general) motion) scene.processors

abbrev pub chosen_of : Scene → List Action → List (Option Motion)
chosen_of scene actions = tabulate (λ p. first_naming p actions) scene.processors

-- Answers.

-- one packet alone
abbrev pub told : List ℕ → Answer
told body = record { before = []; last = Some body }

-- a session tells a body, and knows this from then on
abbrev pub Says : List ℕ → Session → Standing → Answer → Standing → Type 0
Says body session x a y =
    (a ≡ told body) × (y ≡ standing x.place session)

-- and knows what it did
abbrev pub Tells : List ℕ → Standing → Answer → Standing → Type 0
Tells body x a y = Says body x.session x a y

-- a processor that there is; any is fine
abbrev pub has_thread : Scene → Thread → Bool
has_thread scene threads.Any = true
has_thread scene (threads.Processor p) = nat_lt p scene.processors

abbrev pub has_threads : Scene → List Action → Bool
has_threads scene [] = true
has_threads scene (action ∷ actions) = has_thread scene action.thread && has_threads scene actions

-- `OK`, or an error
abbrev pub ok_or : List ℕ → Bool → List ℕ
ok_or error done = if done then codes "OK" else error

abbrev pub with_general : Scene → Thread → Session → Session
with_general scene threads.Any s = s
with_general scene (threads.Processor p) s =
    if nat_lt p scene.processors then record s { general = p } else s

abbrev pub with_control : Scene → Thread → Session → Session
with_control scene thread s = if has_thread scene thread then record s { control = thread } else s

abbrev pub general_text : Scene → Session → List ℕ
general_text scene s = codes "QC" ++ thread_text (within scene s.general)

abbrev pub doing_or : Scene → ℕ → ℕ → List ℕ
doing_or scene place p =
    if nat_lt p scene.processors then bytes_text (doing_text (scene.doing place p)) else codes "E02"

-- the stops with a breakpoint or watch more, if there may be one more, or without it
abbrev pub changed_stops : Change → Kind → ℕ → ℕ → StopsValue → Option StopsValue
changed_stops changes.Set kind address size stops = after_set kind address size stops
changed_stops changes.Delete kind address size stops = Some (after_delete kind address size stops)

abbrev pub Changes : Option StopsValue → Standing → Answer → Standing → Type 0
Changes None x a y = Tells (codes "E03") x a y
Changes (Some stops) x a y = Says (codes "OK") (record x.session { stops = stops }) x a y

-- processors are resumed by actions, if there is each that they name
abbrev pub Resumes : Bool → Course → List Action → Standing → Answer → Standing → Type 0
Resumes true course actions x a y = MovesOn course (chosen_of course.scene actions) x a y
Resumes false course actions x a y = Tells (codes "E02") x a y

-- a line of the monitor: its text is told, and then `OK`
pub record Monitors (scene : Scene) (line : List ℕ) (x : Standing) (a : Answer) (y : Standing) : Type 0 where
  pub before : a.before ≡ shown_packets (monitor_text scene x.place x.session (asked_of line))
  pub last : a.last ≡ Some (codes "OK")
  pub after : y ≡ standing x.place (record x.session
      { stops = stops_after scene x.place (asked_of line) x.session.stops })

abbrev pub features : List ℕ
features =
    codes "PacketSize=4000;QStartNoAckMode+;multiprocess-;swbreak+;hwbreak+;vContSupported+;ReverseStep+;ReverseContinue+;qXfer:features:read+;qXfer:threads:read+"

abbrev pub Answers : Course → Packet → Standing → Answer → Standing → Type 0
Answers c packets.Supported x a y = Tells features x a y
Answers c packets.NoAcknowledgements x a y = Tells (codes "OK") x a y
Answers c packets.LastStop x a y = Tells (stop_text c.scene x.session.last) x a y
Answers c (packets.General thread) x a y =
    Says (ok_or (codes "E02") (has_thread c.scene thread)) (with_general c.scene thread x.session) x a y
Answers c (packets.Control thread) x a y =
    Says (ok_or (codes "E02") (has_thread c.scene thread)) (with_control c.scene thread x.session) x a y
Answers c (packets.IsThread p) x a y = Tells (ok_or (codes "E02") (nat_lt p c.scene.processors)) x a y
Answers c packets.GeneralThread x a y = Tells (general_text c.scene x.session) x a y
Answers c packets.Threads x a y = Tells (threads_text c.scene.processors) x a y
Answers c packets.MoreThreads x a y = Tells (codes "l") x a y
Answers c (packets.ThreadState p) x a y = Tells (doing_or c.scene x.place p) x a y
Answers c packets.IsAttached x a y = Tells (codes "1") x a y
Answers c packets.Symbols x a y = Tells (codes "OK") x a y
Answers c (packets.Description from size) x a y = Tells (part_text description from size) x a y
Answers c (packets.ThreadList from size) x a y =
    Tells (part_text (thread_list c.scene x.place) from size) x a y
Answers c packets.Registers x a y =
    Tells (words_text c.scene x.place (within c.scene x.session.general)) x a y
Answers c (packets.Register number) x a y =
    Tells (word_or c.scene x.place (within c.scene x.session.general) number) x a y
Answers c (packets.Memory address size) x a y =
    Tells (memory_text c.scene x.place (within c.scene x.session.general) address size) x a y
Answers c packets.Write x a y = Tells (codes "E05") x a y
Answers c (packets.Place change kind address size) x a y =
    Changes (changed_stops change kind address size x.session.stops) x a y
Answers c packets.KnownActions x a y = Tells (codes "vCont;c;C;s;S") x a y
Answers c (packets.Resume actions) x a y = Resumes (has_threads c.scene actions) c actions x a y
Answers c packets.Continue x a y = MovesOn c (chosen_by c.scene x.session motions.Continue) x a y
Answers c packets.Step x a y = MovesOn c (chosen_by c.scene x.session motions.Step) x a y
Answers c packets.ContinueBack x a y = MovesBack c (chosen_by c.scene x.session motions.Continue) x a y
Answers c packets.StepBack x a y = MovesBack c (chosen_by c.scene x.session motions.Step) x a y
Answers c (packets.Monitor line) x a y = Monitors c.scene line x a y
Answers c packets.Detach x a y = Tells (codes "OK") x a y
Answers c packets.Kill x a y = (a ≡ record { before = []; last = None }) × (y ≡ x)
Answers c packets.Malformed x a y = Tells (codes "E01") x a y
Answers c packets.Unknown x a y = Tells [] x a y

-- a packet that ends a session
abbrev pub ends : Packet → Bool
ends packets.Detach = true
ends packets.Kill = true
ends _ = false

-- why a packet isn't answered: memory was refused, or the run can't be gone along
abbrev pub IsUnanswered : {E : Type 0} → (E → Type 0) → ServerFault E → Type 0
IsUnanswered Fails faults.Input = ⊥
IsUnanswered Fails faults.Output = ⊥
IsUnanswered Fails faults.Memory = Unit {0}
IsUnanswered Fails (faults.Run error) = Fails error
