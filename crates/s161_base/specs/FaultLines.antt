use Rattle.std.specs.Prelude.{◌≡◌, ℕ, Bool, true, not, ◌==◌, ◌&&◌, ◌||◌, nat_lt, if◌then◌else◌, List, [], ◌∷◌, ◌++◌, Option, None, Some, codes, decimal, flat_map, option_map, encode_utf8_all}
use Rattle.std.specs.List.{list_all}
use Rattle.m161_asm.specs.declared.error.AsmError.{AsmError}
use Rattle.m161_asm.specs.Kinds.{name_of_kind, number_of_kind}
use Rattle.m161_cause.specs.Cause.{name_of_cause}
use Rattle.m161_elf.specs.LoadError.{name_of_fault, number_of_fault}
use Rattle.m161_machine.specs.Refusal.{name_of_refusal, number_of_refusal}
use Rattle.m161_elf.specs.declared.outside.OutsideRam.{OutsideRam}
use Rattle.m161_text.specs.Parts.{◌␣◌, hex_text, word_text}
use Rattle.s161_base.specs.declared.fault.Fault.{Fault}
use Rattle.s161_base.specs.declared.fault.Fault.TheVariants.{After, Conf, File, Image, Input, Log, LogImage, LogMachine, Memory, Never, Output, Schedule, Source, Threads, Touches, Watch, Watches, Word}
use Rattle.s161_base.specs.declared.fault.Unloaded.TheVariants.{Segment}
use Rattle.s161_base.specs.Excerpts.{characters_of}
use Rattle.s161_base.specs.Explained.{explanation_of}
use Rattle.s161_base.specs.Faults.{error_of}

-- The line of a fault on standard error.

-- a byte below 32, 127, an opening bracket or a backslash
abbrev pub is_marked : ℕ → Bool
is_marked b = nat_lt b 32 || b == 127 || b == 40 || b == 92

-- such a byte of a file's name, or of a word, is shown by its number, every other one as it is
abbrev pub shown_byte : ℕ → List ℕ
shown_byte b = if is_marked b then codes "\\x" ++ hex_text 2 b else b ∷ []

abbrev pub shown_name : List ℕ → List ℕ
shown_name name = flat_map shown_byte name

-- a text's error: its place, number and name
abbrev pub source_text : AsmError → List ℕ
source_text e =
    (decimal e.line ++ codes ":" ++ decimal e.column) ␣ decimal (number_of_kind e.kind)
    ␣ name_of_kind e.kind

-- what stands before the explanation: what a script reads
abbrev pub fault_head : Fault → List ℕ
fault_head (File name why) = codes "s161: file" ␣ shown_name name.now
fault_head (Schedule n) = codes "s161: schedule line" ␣ decimal n
fault_head (Log n) = codes "s161: log line" ␣ decimal n
fault_head LogMachine = codes "s161: log machine"
fault_head LogImage = codes "s161: log image"
fault_head (Watches n) = codes "s161: watches line" ␣ decimal n
fault_head (Watch k) = codes "s161: watch" ␣ decimal k
fault_head (Never word) = codes "s161: never" ␣ shown_name word.now
fault_head (Touches word) = codes "s161: touches" ␣ shown_name word.now
fault_head (After k why) =
    codes "s161: after" ␣ decimal k ␣ decimal (number_of_refusal why) ␣ name_of_refusal why
fault_head Conf = codes "s161: conf"
fault_head (Image why) =
    codes "s161: image" ␣ decimal (number_of_fault (error_of why)) ␣ name_of_fault (error_of why)
fault_head (Source e) = codes "s161: source" ␣ source_text e.error
fault_head (Threads cause) = codes "s161: threads" ␣ name_of_cause cause
fault_head Memory = codes "s161: memory"
fault_head (Input why) = codes "s161: input"
fault_head Word = codes "s161: input"
fault_head Output = codes "s161: output"

-- an explanation, in brackets
abbrev pub in_brackets : Option (List ℕ) → List ℕ
in_brackets None = []
in_brackets (Some why) = codes " (" ++ why ++ codes ")"

-- the characters at a source's error, in quotes; or that the line ends there
abbrev pub quoted : List ℕ → List ℕ
quoted [] = codes " at the line's end"
quoted (c ∷ cs) = codes ": \"" ++ (shown_name (encode_utf8_all (c ∷ cs)) ++ codes "\"")

-- a segment that isn't in RAM, behind `program header`: the number of that, its memory, and RAM
abbrev pub segment_text : OutsideRam → List ℕ
segment_text s =
    codes " " ++ (decimal s.header ++ (codes "," ␣ decimal s.size ␣ codes "bytes from"
    ␣ word_text s.address ␣ codes "on, not all in RAM of" ␣ decimal s.ram
    ␣ codes "bytes in kseg0 or kseg1"))

-- what the explanation ends with
abbrev pub detail_of : Fault → List ℕ
detail_of (Source e) = quoted (characters_of e.word)
detail_of (Image (Segment s)) = segment_text s
detail_of _ = []

-- the line, without its end
abbrev pub fault_line : Fault → List ℕ
fault_line fault =
    fault_head fault ++ in_brackets (option_map (λ why. why ++ detail_of fault) (explanation_of fault))

-- a byte doesn't end a line, and is no opening bracket
abbrev pub is_plain : ℕ → Bool
is_plain b = not (nat_lt b 32) && not (b == 40)

-- each byte of a text is so
abbrev pub IsPlain : List ℕ → Type 0
IsPlain text = list_all is_plain text ≡ true
