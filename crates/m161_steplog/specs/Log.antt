use Rattle.std.specs.Prelude.{◌≡◌, ◌⊎◌, ℕ, false, if◌then◌else◌, List, ◌∷◌, map, codes, decimal, Result, MatchResult}
use Rattle.std.specs.List.{AllByRecursion}
use Rattle.m161_isa.specs.declared.link.LinkUnit.{LinkUnit}
use Rattle.m161_isa.specs.declared.link.LinkUnit.TheVariants as units
use Rattle.m161_machine.specs.declared.event.Entry.{Entry}
use Rattle.m161_machine.specs.History.{FitsMode}
use Rattle.m161_text.specs.Lines.{lines_of, text_of}
use Rattle.m161_text.specs.Parts.{◌␣◌}
use Rattle.m161_steplog.specs.declared.fault.TextFault.{TextFault}
use Rattle.m161_steplog.specs.declared.fault.TextFault.TheVariants as faults
use Rattle.m161_steplog.specs.declared.log.LogText.{LogText}
use Rattle.m161_steplog.specs.declared.mode.Mode.{Mode}
use Rattle.m161_steplog.specs.Text.{entry_text, IsProper}

-- The text of a log, by its lines.

abbrev pub unit_text : LinkUnit → List ℕ
unit_text units.Word = codes "word"
unit_text units.Line = codes "line"

-- the number of the format, and the mode: format 3 is that of a strict machine
abbrev pub mode_text : Mode → List ℕ
mode_text mode =
    if mode.strict then codes "3" ␣ unit_text mode.link ␣ codes "strict"
    else codes "2" ␣ unit_text mode.link

-- the first line of a log of this mode
abbrev pub header_text : Mode → List ℕ
header_text mode = codes "m161 log" ␣ mode_text mode

-- the first line of the end of a log, of which so many entries were dropped
abbrev pub tail_header_text : Mode → ℕ → List ℕ
tail_header_text mode dropped = codes "m161 tail" ␣ mode_text mode ␣ decimal dropped

-- a first line, then a line for each entry, without their ends
abbrev pub log_lines : List ℕ → List Entry → List (List ℕ)
log_lines header es = header ∷ map entry_text es

-- the text of a log, as it is written
abbrev pub log_text : Mode → List Entry → List ℕ
log_text mode es = text_of (log_lines (header_text mode) es)

-- the text of the end of a log, of which so many entries before these were dropped
abbrev pub tail_text : Mode → ℕ → List Entry → List ℕ
tail_text mode dropped es = text_of (log_lines (tail_header_text mode dropped) es)

-- the mode of a log of format 1
abbrev pub first_mode : Mode
first_mode = record { link = units.Word; strict = false }

-- the first line of a log of this mode, as it is written, or in format 1
abbrev pub IsHeader : Mode → List ℕ → Type 0
IsHeader mode header =
    (header ≡ header_text mode) ⊎ ((header ≡ codes "m161 log 1") × (mode ≡ first_mode))

-- an entry that the text of a log of this mode can have
pub record IsEntryOf (mode : Mode) (e : Entry) : Type 0 where
  pub proper : IsProper e
  pub fits : FitsMode mode.strict e.outcome

-- these are the lines of a log of this mode with these entries
pub record AreLinesOf (mode : Mode) (es : List Entry) (lines : List (List ℕ)) : Type 0 where
  pub header : List ℕ
  pub first : IsHeader mode header
  pub each : AllByRecursion (IsEntryOf mode) es
  pub text : lines ≡ log_lines header es

-- these are the lines of a log
abbrev pub AreLogLines : List (List ℕ) → Type 0
AreLogLines lines = (mode : Mode) × (es : List Entry) × AreLinesOf mode es lines

-- this is the text of a log of this mode with these entries; it may lack its last line end
abbrev pub IsLog : List ℕ → Mode → List Entry → Type 0
IsLog text mode es = AreLinesOf mode es (lines_of text)

-- a log was read, with this mode and these entries; or memory was refused
abbrev pub IsReadLog : Mode → List Entry → Result LogText TextFault → Type 0
IsReadLog mode es result = MatchResult result
    (λ log. (log.mode ≡ mode) × (log.entries.items ≡ es)) (λ f. f ≡ faults.NoMemory)
