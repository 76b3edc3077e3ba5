use Rattle.std.specs.Prelude.{ℕ, ◌+◌, ◌^◌, Bool, true, false, nat_lt, if◌then◌else◌, List, [], ◌∷◌, ◌++◌, flat_map, slice_index_or, Option, None, Some, codes, decimal}
use Rattle.m161_text.specs.Parts.{◌␣◌, hex_text, word_text}
use Rattle.m161_asm.specs.Tokens.{register_names}
use Rattle.m161_dis.specs.declared.naming.Naming.{Naming}
use Rattle.m161_dis.specs.declared.naming.Naming.TheVariants.{Numbers, Names}
use Rattle.m161_dis.specs.declared.naming.Style.{Style}
use Rattle.m161_dis.specs.Canon.{canon_with}
use Rattle.m161_symbols.specs.Names.{place_behind}
use Rattle.m161_cop0.specs.Registers.{name_of_register, number_of_exception}
use Rattle.m161_bus.specs.declared.register.BoardWord.{BoardWord}
use Rattle.m161_bus.specs.declared.register.BoardWord.TheVariants as words
use Rattle.m161_cpu.specs.declared.processor.Outcome.{Outcome}
use Rattle.m161_cpu.specs.declared.processor.ProcessorState.{ProcessorState}
use Rattle.m161_cpu.specs.declared.processor.ProcessorState.TheVariants as states
use Rattle.m161_machine.specs.declared.event.Event.{Event}
use Rattle.m161_machine.specs.declared.event.Event.TheVariants as events
use Rattle.m161_machine.specs.Fetched.{fetched}
use Rattle.m161_machine.specs.State.{State, processor_at}
use Rattle.m161_trace.specs.declared.loads.Load.{Load}
use Rattle.m161_trace.specs.Loads.{load_of}
use Rattle.m161_trace.specs.Items.{Item, doing, register, hi, lo, control, row, stored, linked, unlinked, latched, waiting, board, trapped, idle, off, conflict, starts, items}

-- The line of an event. Words have eight digits; other numbers are decimal.

-- a name and a word
abbrev pub value_text : List ℕ → ℕ → List ℕ
value_text name word = name ++ codes "=" ++ word_text word

abbrev pub state_text : ProcessorState → List ℕ
state_text states.Stopped = codes "stopped"
state_text states.Running = codes "running"
state_text states.Waiting = codes "waiting"

abbrev pub place_text : BoardWord → List ℕ
place_text words.WriteIrq = codes "wirq"
place_text words.ReadIrq = codes "rirq"
place_text words.Irqe = codes "irqe"
place_text words.Cpue = codes "cpue"
place_text (words.Cirqe c) = codes "cirqe" ␣ decimal c
place_text (words.Cipi c) = codes "cipi" ␣ decimal c
place_text (words.Cram c k) = codes "cram" ␣ decimal c ␣ decimal k

-- a general register: r and its number, or its name
abbrev pub register_label : Naming → ℕ → List ℕ
register_label Numbers r = codes "r" ++ decimal r
register_label Names r = slice_index_or register_names r []

-- the place of an address of RAM: that of the same byte in kseg0, which has the first 2^29 bytes
abbrev pub ram_place : List (List ℕ × ℕ) → ℕ → List ℕ
ram_place symbols at = if nat_lt at (2 ^ 29) then place_behind symbols (2 ^ 31 + at) else []

abbrev pub item_text : Style → Item → List ℕ
item_text style (doing state) = codes "state=" ++ state_text state
item_text style (register r word) = value_text (register_label style.registers r) word
item_text style (hi word) = value_text (codes "hi") word
item_text style (lo word) = value_text (codes "lo") word
item_text style (control r word) = value_text (name_of_register r) word
item_text style (row i high low) = value_text (codes "tlb" ␣ decimal i) high ␣ word_text low
item_text style (stored at word) =
    codes "[" ++ word_text at ++ ram_place style.symbols at ++ codes "]=" ++ word_text word
item_text style (linked word) = value_text (codes "link") word
item_text style (unlinked q) = codes "unlink" ␣ decimal q
item_text style (latched byte) = codes "latch=" ++ hex_text 2 byte
item_text style (waiting n) = codes "waiting=" ++ decimal n
item_text style (board place word) = value_text (place_text place) word
item_text style (trapped code vector) = codes "trap" ␣ decimal (number_of_exception code) ␣ word_text vector
item_text style idle = codes "idle"
item_text style off = codes "off"
item_text style (conflict i j) = codes "conflict" ␣ decimal i ␣ decimal j
item_text style (starts q) = codes "starts" ␣ decimal q

-- items, a space before each
unfoldable pub spaced : Style → List Item → List ℕ
spaced style is = flat_map (λ i. 32 ∷ item_text style i) is

-- items behind a line's beginning: two spaces before the first, and one between two
abbrev pub behind : Style → List Item → List ℕ
behind style [] = []
behind style (i ∷ is) = 32 ∷ spaced style (i ∷ is)

-- what a Step loaded: the address of the word in parentheses, with its place if it is one of RAM
abbrev pub load_place : List (List ℕ × ℕ) → Load → List ℕ
load_place symbols load = if load.in_ram then ram_place symbols load.at else []

abbrev pub load_text : List (List ℕ × ℕ) → Load → List ℕ
load_text symbols load =
    codes "(" ++ word_text load.at ++ load_place symbols load ++ codes ")=" ++ word_text load.word

-- the same with a load before the items, if there is one
abbrev pub behind_load : Style → Option Load → List Item → List ℕ
behind_load style None is = behind style is
behind_load style (Some load) is =
    codes "  " ++ load_text style.symbols load ++ spaced style is

-- the address of an instruction with its place behind it
abbrev pub address_text : Style → ℕ → List ℕ
address_text style at = word_text at ++ place_behind style.symbols at

abbrev pub instruction_text : Style → ℕ → Option ℕ → List ℕ
instruction_text style at None = codes "-"
instruction_text style at (Some word) = word_text word ␣ canon_with style word at

-- a Step of processor p, up to its items
abbrev pub step_head : Style → ℕ → ℕ → State → Outcome → List ℕ
step_head style number p s o =
    decimal number ␣ decimal p ␣ address_text style (processor_at p s.processors).pc
    ␣ instruction_text style (processor_at p s.processors).pc (fetched p s o)

-- with its load, where loads are shown
unfoldable pub step_line : Style → Bool → ℕ → ℕ → State → Outcome → State → List ℕ
step_line style loads number p s o t =
    step_head style number p s o
    ++ behind_load style (if loads then load_of p s o t else None) (items p s o t)

-- the line of an event, without its end, by the state before it, its outcome and the state after it;
-- with what a Step loads, or without
unfoldable pub event_line_with : Style → Bool → ℕ → Event → State → Outcome → State → List ℕ
event_line_with style loads number (events.Step p) s o t = step_line style loads number p s o t
event_line_with style loads number (events.Key byte) s o t =
    decimal number ␣ codes "k" ␣ hex_text 2 byte
event_line_with style loads number events.Done s o t = decimal number ␣ codes "o"

unfoldable pub event_line : Style → ℕ → Event → State → Outcome → State → List ℕ
event_line style number e s o t = event_line_with style false number e s o t
