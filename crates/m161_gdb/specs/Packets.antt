use Rattle.std.specs.Prelude.{ℕ, ◌+◌, ◌-◌, ◌*◌, ◌^◌, nat_lt, nat_le, ◌==◌, ◌&&◌, Bool, true, false, if◌then◌else◌, List, [], ◌∷◌, ◌++◌, Option, None, Some, is_some, length, take, drop, slice_index, codes, bytes_eq, option_and_then, unwrap_or}
use Rattle.std.specs.List.{onto_first}
use Rattle.m161_gdb.specs.Frames.{byte_value, hex_value}
use Rattle.m161_gdb.specs.declared.packet.Action.{Action}
use Rattle.m161_gdb.specs.declared.packet.Change.{Change}
use Rattle.m161_gdb.specs.declared.packet.Change.TheVariants as changes
use Rattle.m161_gdb.specs.declared.packet.Kind.{Kind}
use Rattle.m161_gdb.specs.declared.packet.Kind.TheVariants as kinds
use Rattle.m161_gdb.specs.declared.packet.Motion.{Motion}
use Rattle.m161_gdb.specs.declared.packet.Motion.TheVariants as motions
use Rattle.m161_gdb.specs.declared.packet.Packet.{Packet}
use Rattle.m161_gdb.specs.declared.packet.Packet.TheVariants as packets
use Rattle.m161_gdb.specs.declared.packet.Thread.{Thread}
use Rattle.m161_gdb.specs.declared.packet.Thread.TheVariants as threads

-- The packets that bodies are. 44 is `,`, 58 `:`, 59 `;`.

-- Numbers and threads.

-- the parts of a text before and after the first c, if it has one
abbrev pub before_too : ℕ → Option (List ℕ × List ℕ) → Option (List ℕ × List ℕ)
before_too b None = None
before_too b (Some parts) = Some (b ∷ parts.0, parts.1)

abbrev pub cut_at : ℕ → List ℕ → Option (List ℕ × List ℕ)
cut_at c [] = None
cut_at c (b ∷ bs) = if b == c then Some ([], bs) else before_too b (cut_at c bs)

abbrev pub both : {X Y : Type 0} → Option X → Option Y → Option (X × Y)
both None y = None
both (Some x) None = None
both (Some x) (Some y) = Some (x, y)

-- a number with a hexadecimal digit more, below 2^32
abbrev pub below_limit : ℕ → Option ℕ
below_limit n = if nat_lt n (2 ^ 32) then Some n else None

abbrev pub with_digit : ℕ → ℕ → Option ℕ
with_digit n digit = option_and_then (λ value. below_limit (n * 16 + value)) (hex_value digit)

-- the number whose first digits have the value n and are followed by these
abbrev pub number_from : ℕ → List ℕ → Option ℕ
number_from n [] = Some n
number_from n (digit ∷ digits) = option_and_then (λ m. number_from m digits) (with_digit n digit)

-- one or more digits
abbrev pub number_of : List ℕ → Option ℕ
number_of [] = None
number_of (digit ∷ digits) = number_from 0 (digit ∷ digits)

-- two numbers with a comma between
abbrev pub two_of : Option (List ℕ × List ℕ) → Option (ℕ × ℕ)
two_of None = None
two_of (Some parts) = both (number_of parts.0) (number_of parts.1)

abbrev pub two_numbers : List ℕ → Option (ℕ × ℕ)
two_numbers text = two_of (cut_at 44 text)

-- a thread: -1, or a number, which is 0 for any and p + 1 for processor p
abbrev pub thread_at : ℕ → Thread
thread_at n = if n == 0 then threads.Any else threads.Processor (n - 1)

abbrev pub thread_of : List ℕ → Option Thread
thread_of text =
    if bytes_eq text (codes "-1") then Some threads.Any
    else option_and_then (λ n. Some (thread_at n)) (number_of text)

-- whether a thread is this processor, or any
abbrev pub names : Thread → ℕ → Bool
names threads.Any p = true
names (threads.Processor q) p = q == p

-- the parts of a text between the bytes c, at least one
abbrev pub parts : ℕ → List ℕ → List (List ℕ)
parts c [] = [] ∷ []
parts c (b ∷ bs) = if b == c then [] ∷ parts c bs else onto_first b (parts c bs)

-- Actions.

-- `c` and `s`
abbrev pub motion_alone : ℕ → Option Motion
motion_alone letter =
    if letter == 99 then Some motions.Continue
    else if letter == 115 then Some motions.Step
    else None

-- `C` and `S`, which have a signal of two hexadecimal digits
abbrev pub motion_by_signal : ℕ → Option Motion
motion_by_signal letter =
    if letter == 67 then Some motions.Continue
    else if letter == 83 then Some motions.Step
    else None

abbrev pub motion_of : List ℕ → Option Motion
motion_of text =
    if length text == 1 then motion_alone (slice_index text 0)
    else if length text == 3 && is_some (byte_value (slice_index text 1) (slice_index text 2))
    then motion_by_signal (slice_index text 0)
    else None

-- a motion, and behind a colon a thread; without one it is for any
abbrev pub action_with : Option Motion → Option Thread → Option Action
action_with None thread = None
action_with (Some motion) None = None
action_with (Some motion) (Some thread) = Some (record { motion = motion; thread = thread })

abbrev pub action_by : Option (List ℕ × List ℕ) → List ℕ → Option Action
action_by None text = action_with (motion_of text) (Some threads.Any)
action_by (Some parts) text = action_with (motion_of parts.0) (thread_of parts.1)

abbrev pub action_of : List ℕ → Option Action
action_of text = action_by (cut_at 58 text) text

-- actions with semicolons between
abbrev pub first_too : Option Action → Option (List Action) → Option (List Action)
first_too None actions = None
first_too (Some action) None = None
first_too (Some action) (Some actions) = Some (action ∷ actions)

abbrev pub read_actions : List (List ℕ) → Option (List Action)
read_actions [] = Some []
read_actions (part ∷ parts) = first_too (action_of part) (read_actions parts)

abbrev pub actions_of : List ℕ → Option (List Action)
actions_of text = read_actions (parts 59 text)

-- what the first of these actions that names a processor has it do
abbrev pub first_naming : ℕ → List Action → Option Motion
first_naming p [] = None
first_naming p (action ∷ actions) =
    if names action.thread p then Some action.motion else first_naming p actions

-- Breakpoints and watches.

abbrev pub is_watch : Kind → Bool
is_watch kinds.Software = false
is_watch kinds.Hardware = false
is_watch kinds.Write = true
is_watch kinds.Read = true
is_watch kinds.Access = true

-- a kind's digit
abbrev pub kind_at : ℕ → Option Kind
kind_at digit =
    if digit == 48 then Some kinds.Software
    else if digit == 49 then Some kinds.Hardware
    else if digit == 50 then Some kinds.Write
    else if digit == 51 then Some kinds.Read
    else if digit == 52 then Some kinds.Access
    else None

-- whether a watch may have this address and length; what a breakpoint has isn't looked at
abbrev pub may_stand : Kind → ℕ → ℕ → Bool
may_stand kind address size =
    if is_watch kind then nat_le 1 size && nat_le (address + size) (2 ^ 32) else true

abbrev pub place_with : Change → Kind → Option (ℕ × ℕ) → Packet
place_with change kind None = packets.Malformed
place_with change kind (Some place) =
    if may_stand kind place.0 place.1 then packets.Place change kind place.0 place.1
    else packets.Malformed

-- two numbers behind a comma
abbrev pub behind_comma : List ℕ → Option (ℕ × ℕ)
behind_comma [] = None
behind_comma (b ∷ bs) = if b == 44 then two_numbers bs else None

abbrev pub place_by : Change → Option Kind → List ℕ → Packet
place_by change None text = packets.Unknown
place_by change (Some kind) text = place_with change kind (behind_comma text)

abbrev pub place_of : Change → List ℕ → Packet
place_of change [] = packets.Unknown
place_of change (b ∷ bs) = place_by change (kind_at b) bs

-- What the rest of a packet makes of it.

abbrev pub with_thread : (Thread → Packet) → Option Thread → Packet
with_thread packet None = packets.Malformed
with_thread packet (Some thread) = packet thread

-- a processor, and not any
abbrev pub with_processor : (ℕ → Packet) → Option Thread → Packet
with_processor packet None = packets.Malformed
with_processor packet (Some threads.Any) = packets.Malformed
with_processor packet (Some (threads.Processor p)) = packet p

abbrev pub with_two : (ℕ → ℕ → Packet) → Option (ℕ × ℕ) → Packet
with_two packet None = packets.Malformed
with_two packet (Some numbers) = packet numbers.0 numbers.1

abbrev pub with_register : Option ℕ → Packet
with_register None = packets.Malformed
with_register (Some n) = if nat_lt n 81 then packets.Register n else packets.Malformed

abbrev pub memory_at : ℕ → ℕ → Packet
memory_at address size = if size == 0 then packets.Malformed else packets.Memory address size

abbrev pub with_actions : Option (List Action) → Packet
with_actions None = packets.Malformed
with_actions (Some actions) = packets.Resume actions

-- bytes of two hexadecimal digits each
abbrev pub byte_too : Option ℕ → Option (List ℕ) → Option (List ℕ)
byte_too None bytes = None
byte_too (Some byte) None = None
byte_too (Some byte) (Some bytes) = Some (byte ∷ bytes)

abbrev pub bytes_of : List ℕ → Option (List ℕ)
bytes_of [] = Some []
bytes_of (high ∷ []) = None
bytes_of (high ∷ low ∷ digits) = byte_too (byte_value high low) (bytes_of digits)

abbrev pub with_line : Option (List ℕ) → Packet
with_line None = packets.Malformed
with_line (Some line) = packets.Monitor line

-- The packets.

abbrev pub or_else : {X : Type 0} → Option X → Option X → Option X
or_else None other = other
or_else (Some x) other = Some x

-- a row of the table: a packet without arguments, or how one begins and what the rest makes of it
pub data Row : Type 0 where
  Word : (text : List ℕ) (packet : Packet) → Row
  Begins : (text : List ℕ) (reads : List ℕ → Packet) → Row

abbrev pub row_gives : Row → List ℕ → Option Packet
row_gives (Word text packet) body = if bytes_eq body text then Some packet else None
row_gives (Begins text reads) body =
    if bytes_eq (take (length text) body) text then Some (reads (drop (length text) body)) else None

-- the first row that has a body
abbrev pub first_row : List Row → List ℕ → Option Packet
first_row [] body = None
first_row (row ∷ rows) body = or_else (row_gives row body) (first_row rows body)

abbrev pub moves : List Row
moves =
    Word (codes "?") packets.LastStop
    ∷ Word (codes "g") packets.Registers
    ∷ Word (codes "c") packets.Continue
    ∷ Word (codes "s") packets.Step
    ∷ Word (codes "bc") packets.ContinueBack
    ∷ Word (codes "bs") packets.StepBack
    ∷ Word (codes "D") packets.Detach
    ∷ Word (codes "k") packets.Kill
    ∷ []

abbrev pub queries : List Row
queries =
    Word (codes "qSupported") packets.Supported
    ∷ Word (codes "QStartNoAckMode") packets.NoAcknowledgements
    ∷ Word (codes "qC") packets.GeneralThread
    ∷ Word (codes "qfThreadInfo") packets.Threads
    ∷ Word (codes "qsThreadInfo") packets.MoreThreads
    ∷ Word (codes "qAttached") packets.IsAttached
    ∷ Word (codes "vCont?") packets.KnownActions
    ∷ Word (codes "vCont") packets.Malformed
    ∷ []

abbrev pub of_threads : List Row
of_threads =
    Begins (codes "Hg") (λ rest. with_thread packets.General (thread_of rest))
    ∷ Begins (codes "Hc") (λ rest. with_thread packets.Control (thread_of rest))
    ∷ Begins (codes "H") (λ rest. packets.Malformed)
    ∷ Begins (codes "T") (λ rest. with_processor packets.IsThread (thread_of rest))
    ∷ Begins (codes "qThreadExtraInfo,") (λ rest. with_processor packets.ThreadState (thread_of rest))
    ∷ []

abbrev pub of_state : List Row
of_state =
    Begins (codes "p") (λ rest. with_register (number_of rest))
    ∷ Begins (codes "m") (λ rest. with_two memory_at (two_numbers rest))
    ∷ Begins (codes "G") (λ rest. packets.Write)
    ∷ Begins (codes "P") (λ rest. packets.Write)
    ∷ Begins (codes "M") (λ rest. packets.Write)
    ∷ Begins (codes "X") (λ rest. packets.Write)
    ∷ Begins (codes "Z") (λ rest. place_of changes.Set rest)
    ∷ Begins (codes "z") (λ rest. place_of changes.Delete rest)
    ∷ []

abbrev pub of_texts : List Row
of_texts =
    Begins (codes "qSupported:") (λ rest. packets.Supported)
    ∷ Begins (codes "qSymbol:") (λ rest. packets.Symbols)
    ∷ []

abbrev pub of_description : List Row
of_description =
    Begins (codes "qXfer:features:read:target.xml:") (λ rest. with_two packets.Description (two_numbers rest))
    ∷ Begins (codes "qXfer:features:read:") (λ rest. packets.Malformed)
    ∷ []

abbrev pub of_thread_list : List Row
of_thread_list =
    Begins (codes "qXfer:threads:read::") (λ rest. with_two packets.ThreadList (two_numbers rest))
    ∷ Begins (codes "qXfer:threads:read:") (λ rest. packets.Malformed)
    ∷ []

abbrev pub of_lists : List Row
of_lists =
    Begins (codes "vCont;") (λ rest. with_actions (actions_of rest))
    ∷ Begins (codes "qRcmd,") (λ rest. with_line (bytes_of rest))
    ∷ []

abbrev pub rows : List Row
rows =
    moves ++ queries ++ of_threads ++ of_state ++ of_texts ++ of_description ++ of_thread_list
    ++ of_lists

abbrev pub packet_of : List ℕ → Packet
packet_of body = unwrap_or (first_row rows body) packets.Unknown
