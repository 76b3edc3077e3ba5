use Rattle.std.specs.Prelude.{◌≡◌, ◌⊎◌, ℕ, Bool, true, false, not, if◌then◌else◌, List, [], ◌∷◌, ◌++◌, take, Option, None, Some}
use Rattle.std.specs.Io.KnownBytes.{Appends, Consumes, IsAtEnd}
use Rattle.m161_gdb.specs.declared.frames.Item.{Item}
use Rattle.m161_gdb.specs.declared.frames.Item.TheVariants as items
use Rattle.m161_gdb.specs.declared.link.Duty.{Duty}
use Rattle.m161_gdb.specs.declared.link.Duty.TheVariants as duties
use Rattle.m161_gdb.specs.declared.packet.Packet.{Packet}
use Rattle.m161_gdb.specs.declared.packet.Packet.TheVariants as packets
use Rattle.m161_gdb.specs.declared.packet.Thread.TheVariants as threads
use Rattle.m161_gdb.specs.Frames.{IsReadAs, frame_text}
use Rattle.m161_gdb.specs.Links.{duty}
use Rattle.m161_gdb.specs.Packets.{packet_of}
use Rattle.m161_gdb.specs.Stops.{no_stops}
use Rattle.m161_moves.specs.Course.{Course}
use Rattle.m161_server.specs.declared.fault.ServerFault.{ServerFault}
use Rattle.m161_server.specs.declared.fault.ServerFault.TheVariants as faults
use Rattle.m161_server.specs.declared.session.Session.{Session}
use Rattle.m161_server.specs.Sessions.{Answer, Answers, Standing, ends, standing}
use Rattle.m161_server.specs.Streams.{Streams}

-- Sessions: what is written for what is read.

-- before the first packet
abbrev pub new_session : Session
new_session = record {
  stops = no_stops;
  general = 0;
  control = threads.Any;
  shown = 0;
  last = record { reason = None; processor = 0 };
}

-- how far a session is: where it stands, the last packet that it sent, and the items that it received,
-- the latest first
pub record Progress : Type 0 where
  pub stands : Standing
  pub sent : List ℕ
  pub past : List Item

abbrev pub begun : ℕ → Progress
begun place = record { stands = standing place new_session; sent = []; past = [] }

-- the text of an answer, and the last packet behind it
abbrev pub frame_of : Option (List ℕ) → List ℕ
frame_of None = []
frame_of (Some body) = frame_text body

abbrev pub sent_after : Option (List ℕ) → List ℕ → List ℕ
sent_after None sent = sent
sent_after (Some body) sent = frame_text body

abbrev pub plus_if : Bool → List ℕ
plus_if acknowledge = if acknowledge then 43 ∷ [] else []

-- a body that is too long is an unknown packet
abbrev pub packet_in : Option (List ℕ) → Packet
packet_in None = packets.Unknown
packet_in (Some body) = packet_of body

abbrev pub packet_at : Item → Packet
packet_at (items.Frame body right) = packet_in body
packet_at _ = packets.Unknown

-- a text is written for an item, and nothing else happens
abbrev pub Writes : List ℕ → Item → Progress → List ℕ → Progress → Type 0
Writes text item p written q =
    (written ≡ text) × (q ≡ record { stands = p.stands; sent = p.sent; past = item ∷ p.past })

-- a packet is answered; the session goes on unless it ends it
pub record WritesAnswer
    (course : Course) (acknowledge : Bool) (packet : Packet) (x : Standing) (sent : List ℕ)
    (written : List ℕ) (y : Standing) (last_sent : List ℕ) (more : Bool) : Type 0 where
  pub answer : Answer
  pub answers : Answers course packet x answer y
  pub text : written ≡ plus_if acknowledge ++ answer.before ++ frame_of answer.last
  pub sent_is : last_sent ≡ sent_after answer.last sent
  pub goes_on : more ≡ not (ends packet)

abbrev pub interrupted : Session → Session
interrupted s = record s { stops = record s.stops { interrupted = true } }

-- what is done about an item, by its duty
abbrev pub DoesDuty : Course → Duty → Item → Progress → List ℕ → Progress → Bool → Type 0
DoesDuty course duties.Nothing item p written q more = Writes [] item p written q × (more ≡ true)
DoesDuty course duties.Refuse item p written q more = Writes (45 ∷ []) item p written q × (more ≡ true)
DoesDuty course duties.Resend item p written q more = Writes p.sent item p written q × (more ≡ true)
DoesDuty course duties.Interrupt item p written q more =
    (written ≡ []) × (more ≡ true)
    × (q ≡ record { stands = standing p.stands.place (interrupted p.stands.session); sent = p.sent; past = item ∷ p.past })
DoesDuty course (duties.Answer acknowledge) item p written q more =
    WritesAnswer course acknowledge (packet_at item) p.stands p.sent written q.stands q.sent more
    × (q.past ≡ item ∷ p.past)

abbrev pub DoesItem : Course → Item → Progress → List ℕ → Progress → Bool → Type 0
DoesItem course item p written q more = DoesDuty course (duty p.past item) item p written q more

-- items, the latest first, were received one after the other from a place on; each left the session
-- open, and this was written
abbrev pub Passes : Course → ℕ → List Item → List ℕ → Progress → Type 0
Passes course place [] written q = (written ≡ []) × (q ≡ begun place)
Passes course place (item ∷ past) written q =
    (p : Progress) × (before : List ℕ) × (text : List ℕ) × Passes course place past before p
    × DoesItem course item p text q true × (written ≡ before ++ text)

-- these items, the earliest first
abbrev pub in_order : List Item → List Item
in_order [] = []
in_order (item ∷ past) = in_order past ++ item ∷ []

-- the bytes that were read have these items, the latest first
abbrev pub HasPast : List ℕ → List Item → Type 0
HasPast bytes past = IsReadAs bytes (in_order past)

-- The ends of sessions.

-- the input is at its end, and what it had was answered
pub record EndsAll (course : Course) (place : ℕ) (x : Streams) : Type 0 where
  pub bytes : List ℕ
  pub past : List Item
  pub text : List ℕ
  pub to : Progress
  pub passes : Passes course place past text to
  pub has : HasPast bytes past
  pub are_read : Consumes x.input x.left bytes
  pub at_end : IsAtEnd x.left
  pub are_written : Appends x.before x.after text

-- the last byte that was read makes a packet that ends the session
pub record EndsBehind (course : Course) (place : ℕ) (x : Streams) : Type 0 where
  pub bytes : List ℕ
  pub past : List Item
  pub text : List ℕ
  pub to : Progress
  pub passes : Passes course place past text to
  pub has : HasPast bytes past
  pub byte : ℕ
  pub item : Item
  pub last : HasPast (bytes ++ byte ∷ []) (item ∷ past)
  pub answer : List ℕ
  pub final : Progress
  pub does : DoesItem course item to answer final false
  pub are_read : Consumes x.input x.left (bytes ++ byte ∷ [])
  pub are_written : Appends x.before x.after (text ++ answer)

-- what was read and written behind the items that passed, by the fault that ends a session: nothing; a
-- byte, for which memory was refused; a byte that makes an item, whose run can't be gone along; and one
-- that makes an item whose answer can't be written, and a part of that
abbrev pub IsBehind :
    {E : Type 0} → (E → Type 0) → Course → ServerFault E → List ℕ → List Item → Progress → List ℕ → List ℕ →
    Type 0
IsBehind Fails course faults.Input bytes past p read written = (read ≡ []) × (written ≡ [])
IsBehind Fails course faults.Memory bytes past p read written =
    (byte : ℕ) × (read ≡ byte ∷ []) × (written ≡ [])
IsBehind Fails course (faults.Run error) bytes past p read written =
    (byte : ℕ) × (item : Item) × HasPast (bytes ++ byte ∷ []) (item ∷ past) × Fails error
    × (read ≡ byte ∷ []) × (written ≡ [])
IsBehind Fails course faults.Output bytes past p read written =
    (byte : ℕ) × (item : Item) × HasPast (bytes ++ byte ∷ []) (item ∷ past)
    × ((answer : List ℕ) × (q : Progress) × (more : Bool) × DoesItem course item p answer q more
    × ((n : ℕ) × (written ≡ take n answer)))
    × (read ≡ byte ∷ [])

-- a fault ended a session
pub record Breaks
    {E : Type 0} (Fails : E → Type 0) (course : Course) (place : ℕ) (x : Streams) (fault : ServerFault E)
    : Type 0 where
  pub bytes : List ℕ
  pub past : List Item
  pub text : List ℕ
  pub to : Progress
  pub passes : Passes course place past text to
  pub has : HasPast bytes past
  pub read : List ℕ
  pub written : List ℕ
  pub behind : IsBehind Fails course fault bytes past to read written
  pub are_read : Consumes x.input x.left (bytes ++ read)
  pub are_written : Appends x.before x.after (text ++ written)

-- or it ended in order
abbrev pub Ends : Course → ℕ → Streams → Type 0
Ends course place x = EndsAll course place x ⊎ EndsBehind course place x
