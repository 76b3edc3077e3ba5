-- Each packet has an answer.
use Rattle.std.proofs.Common.{refl, ℕ, ◌≤◌, Bool, true, false, List, [], Option, None, Some, codes, drop}
use Rattle.m161_gdb.specs.declared.packet.Action.{Action}
use Rattle.m161_gdb.specs.declared.packet.Motion.{Motion}
use Rattle.m161_gdb.specs.declared.packet.Motion.TheVariants as motions
use Rattle.m161_gdb.specs.declared.packet.Packet.TheVariants as packets
use Rattle.m161_gdb.specs.Stops.{StopsValue}
use Rattle.m161_moves.specs.declared.reason.Reason.{Reason}
use Rattle.m161_moves.specs.Course.{Course}
use Rattle.m161_moves.specs.Moves.{StopsBackwards, StopsForwards}
use Rattle.m161_server.specs.declared.session.Session.{Session}
use Rattle.m161_moves.proofs.Answering.{has_backwards, has_forwards}
use Rattle.m161_server.specs.Laws.{HasAnswer}
use Rattle.m161_server.specs.Sessions.{Answer, Changes, Moves, Resumes, Says, Standing, changed_stops, chosen_by, chosen_of, has_threads, moved, standing, stop_text, told}
use Rattle.m161_server.specs.Monitor.{monitor_text, stops_after}
use Rattle.m161_server.specs.Texts.{shown_packets}
use Rattle.m161_server.specs.Words.{asked_of}

abbrev says : (body : List ℕ) (s : Session) (x : Standing) → (a : Answer) × (y : Standing) × Says body s x a y
says body s x = (told body, standing x.place s, (refl, refl))

moves : (course : Course) (At : ℕ → Reason → Type 0) (chosen : List (Option Motion)) (x : Standing) →
    ((place : ℕ) × (reason : Reason) × At place reason) → (a : Answer) × (y : Standing) × Moves course At chosen x a y
moves course At chosen x found = (
  record {
    before = shown_packets (drop x.session.shown (course.scene.console found.0));
    last = Some (stop_text course.scene (moved course chosen found.0 found.1 x.session).last);
  },
  standing found.0 (moved course chosen found.0 found.1 x.session),
  (found.1, found.2, record { session = refl; before = refl; last = refl }),
)

changes : (o : Option StopsValue) (x : Standing) → (a : Answer) × (y : Standing) × Changes o x a y
changes None x = says (codes "E03") x.session x
changes (Some stops) x = says (codes "OK") (record x.session { stops = stops }) x

on : (c : Course) (chosen : List (Option Motion)) (x : Standing) → x.place ≤ c.end →
    (a : Answer) × (y : Standing) × Moves c (StopsForwards c x.session.stops chosen x.place) chosen x a y
on c chosen x within = moves c (StopsForwards c x.session.stops chosen x.place) chosen x (has_forwards c x.session.stops chosen x.place within)

back : (c : Course) (chosen : List (Option Motion)) (x : Standing) →
    (a : Answer) × (y : Standing) × Moves c (StopsBackwards c x.session.stops chosen x.place) chosen x a y
back c chosen x = moves c (StopsBackwards c x.session.stops chosen x.place) chosen x (has_backwards c x.session.stops chosen x.place)

resumes : (t : Bool) (c : Course) (actions : List Action) (x : Standing) → x.place ≤ c.end →
    (a : Answer) × (y : Standing) × Resumes t c actions x a y
resumes true c actions x within = on c (chosen_of c.scene actions) x within
resumes false c actions x within = says (codes "E02") x.session x

pub has_answer : HasAnswer
has_answer c packets.Supported x within = says _ _ x
has_answer c packets.NoAcknowledgements x within = says _ _ x
has_answer c packets.LastStop x within = says _ _ x
has_answer c (packets.General thread) x within = says _ _ x
has_answer c (packets.Control thread) x within = says _ _ x
has_answer c (packets.IsThread n) x within = says _ _ x
has_answer c packets.GeneralThread x within = says _ _ x
has_answer c packets.Threads x within = says _ _ x
has_answer c packets.MoreThreads x within = says _ _ x
has_answer c (packets.ThreadState n) x within = says _ _ x
has_answer c packets.IsAttached x within = says _ _ x
has_answer c packets.Symbols x within = says _ _ x
has_answer c (packets.Description from size) x within = says _ _ x
has_answer c (packets.ThreadList from size) x within = says _ _ x
has_answer c packets.Registers x within = says _ _ x
has_answer c (packets.Register n) x within = says _ _ x
has_answer c (packets.Memory address size) x within = says _ _ x
has_answer c packets.Write x within = says _ _ x
has_answer c packets.KnownActions x within = says _ _ x
has_answer c packets.Detach x within = says _ _ x
has_answer c packets.Kill x within = (record { before = []; last = None }, x, (refl, refl))
has_answer c packets.Malformed x within = says _ _ x
has_answer c packets.Unknown x within = says _ _ x
has_answer c (packets.Place change kind address size) x within = changes (changed_stops change kind address size x.session.stops) x
has_answer c (packets.Resume actions) x within = resumes (has_threads c.scene actions) c actions x within
has_answer c packets.Continue x within = on c (chosen_by c.scene x.session motions.Continue) x within
has_answer c packets.Step x within = on c (chosen_by c.scene x.session motions.Step) x within
has_answer c packets.ContinueBack x within = back c (chosen_by c.scene x.session motions.Continue) x
has_answer c packets.StepBack x within = back c (chosen_by c.scene x.session motions.Step) x
has_answer c (packets.Monitor line) x within = (
  record { before = shown_packets (monitor_text c.scene x.place x.session (asked_of line)); last = Some (codes "OK") },
  standing x.place (record x.session { stops = stops_after c.scene x.place (asked_of line) x.session.stops }),
  record { before = refl; last = refl; after = refl },
)
