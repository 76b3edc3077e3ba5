use Rattle.std.specs.Prelude.{ℕ, zero, suc, ◌+◌, ◌^◌, ◌/◌, nat_lt, nat_le, Bool, if◌then◌else◌, List, [], ◌∷◌, ◌++◌, Option, None, Some, codes, decimal, length, take, drop, min, flat_map}
use Rattle.m161_gdb.specs.Frames.{frame_text}
use Rattle.m161_moves.specs.declared.doing.Activity.{Activity}
use Rattle.m161_moves.specs.declared.doing.Activity.TheVariants as activities
use Rattle.m161_moves.specs.declared.doing.Doing.{Doing}
use Rattle.m161_moves.specs.Scenes.{Scene}
use Rattle.m161_text.specs.Parts.{hex_text}

-- The texts of answers.

-- a processor of this number, or 0 if there is none: a session's general processor is one that there is
abbrev pub within : Scene → ℕ → ℕ
within scene p = if nat_lt p scene.processors then p else 0

-- a processor's number as a thread, in hexadecimal: there are at most 32
abbrev pub thread_text : ℕ → List ℕ
thread_text p = if nat_lt (p + 1) 16 then hex_text 1 (p + 1) else hex_text 2 (p + 1)

-- bytes in hexadecimal
abbrev pub bytes_text : List ℕ → List ℕ
bytes_text bytes = flat_map (hex_text 2) bytes

-- the texts of the numbers below n, in order
abbrev pub up_to : (ℕ → List ℕ) → ℕ → List ℕ
up_to text zero = []
up_to text (suc n) = up_to text n ++ text n

-- The processors.

abbrev pub activity_text : Activity → List ℕ
activity_text activities.Running = codes "running"
activity_text activities.Waiting = codes "waiting"
activity_text activities.Stopped = codes "stopped"

abbrev pub text_if : Bool → List ℕ → List ℕ
text_if test text = if test then text else []

abbrev pub doing_text : Doing → List ℕ
doing_text doing =
    activity_text doing.activity ++ text_if doing.is_user (codes " user")
    ++ text_if doing.in_slot (codes " slot")

-- all of them, with a comma before each but the first
abbrev pub comma_before : ℕ → List ℕ
comma_before p = text_if (nat_lt 0 p) (codes ",")

abbrev pub listed : ℕ → List ℕ
listed p = comma_before p ++ thread_text p

abbrev pub threads_text : ℕ → List ℕ
threads_text processors = codes "m" ++ up_to listed processors

unfoldable pub thread_line : Scene → ℕ → ℕ → List ℕ
thread_line scene place p =
    codes "<thread id=\"" ++ thread_text p ++ codes "\" core=\"" ++ decimal p ++ codes "\" name=\"cpu"
    ++ decimal p ++ codes "\">" ++ doing_text (scene.doing place p) ++ codes "</thread>\n"

abbrev pub thread_list : Scene → ℕ → List ℕ
thread_list scene place =
    codes "<?xml version=\"1.0\"?>\n<threads>\n"
    ++ up_to (thread_line scene place) scene.processors ++ codes "</threads>\n"

-- A part of a long text, which may be its last.

abbrev pub part_size : ℕ → ℕ
part_size size = min size 16383

abbrev pub part_letter : ℕ → ℕ → ℕ → List ℕ
part_letter long from size = if nat_le long (from + size) then codes "l" else codes "m"

abbrev pub part_text : List ℕ → ℕ → ℕ → List ℕ
part_text text from size =
    part_letter (length text) from (part_size size) ++ take (part_size size) (drop from text)

-- Registers and memory.

-- a word that there is, or isn't
abbrev pub word_text : Option ℕ → List ℕ
word_text None = codes "xxxxxxxx"
word_text (Some word) = hex_text 8 word

abbrev pub word_shown : Scene → ℕ → ℕ → ℕ → List ℕ
word_shown scene place p number = word_text (scene.register place p number)

-- a packet's numbers are below 81
abbrev pub word_or : Scene → ℕ → ℕ → ℕ → List ℕ
word_or scene place p number =
    if nat_lt number 81 then word_shown scene place p number else codes "E01"

abbrev pub words_text : Scene → ℕ → ℕ → List ℕ
words_text scene place p = up_to (word_shown scene place p) 81

-- the bytes from an address on, so many, up to the first that there isn't, or the end of the addresses
abbrev pub byte_and : Option ℕ → List ℕ → List ℕ
byte_and None bytes = []
byte_and (Some byte) bytes = byte ∷ bytes

abbrev pub byte_at : (ℕ → Option ℕ) → ℕ → Option ℕ
byte_at byte address = if nat_lt address (2 ^ 32) then byte address else None

abbrev pub bytes_from : (ℕ → Option ℕ) → ℕ → ℕ → List ℕ
bytes_from byte address zero = []
bytes_from byte address (suc n) = byte_and (byte_at byte address) (bytes_from byte (address + 1) n)

-- bytes that were asked for, if there is one
abbrev pub found_text : List ℕ → List ℕ
found_text [] = codes "E04"
found_text (byte ∷ bytes) = bytes_text (byte ∷ bytes)

abbrev pub memory_text : Scene → ℕ → ℕ → ℕ → ℕ → List ℕ
memory_text scene place p address size =
    found_text (bytes_from (scene.byte place p) address (min size 8192))

-- Texts for the client's user, in packets of at most 8,191 bytes.

-- the first pieces of a text, so many
abbrev pub pieces : ℕ → List ℕ → List (List ℕ)
pieces zero text = []
pieces (suc n) text = take 8191 text ∷ pieces n (drop 8191 text)

abbrev pub shown_packet : List ℕ → List ℕ
shown_packet piece = frame_text (codes "O" ++ bytes_text piece)

abbrev pub shown_packets : List ℕ → List ℕ
shown_packets text = flat_map shown_packet (pieces ((length text + 8190) / 8191) text)
