use Rattle.std.specs.Prelude.{ℕ, if◌then◌else◌, List, ◌++◌, codes, decimal, encode_utf8}
use Rattle.m161_asm.specs.declared.error.AsmError.{AsmError}
use Rattle.m161_elf.specs.declared.image.LoadError.{LoadError}
use Rattle.m161_elf.specs.LoadError.{name_of_fault, number_of_fault}
use Rattle.m161_elf.specs.declared.outside.OutsideRam.{OutsideRam}
use Rattle.m161_text.specs.Parts.{◌␣◌, hex_text, word_text}
use Rattle.s161_base.specs.FaultLines.{is_marked}

-- Parts of a fault's line.

-- a character of a file's name
abbrev pub shown_char : ℕ → List ℕ
shown_char c = if is_marked c then codes "\\x" ++ hex_text 2 c else encode_utf8 c

-- the number and the name of a file's fault
abbrev pub image_text : LoadError → List ℕ
image_text e = decimal (number_of_fault e) ␣ name_of_fault e

-- the line and the column of a text's error
abbrev pub place_text : AsmError → List ℕ
place_text e = decimal e.line ++ codes ":" ++ decimal e.column

-- where a segment is that isn't in RAM, and how large RAM is
abbrev pub outside_text : OutsideRam → List ℕ
outside_text s =
    codes " bytes from" ␣ word_text s.address ␣ codes "on, not all in RAM of" ␣ decimal s.ram
    ␣ codes "bytes in kseg0 or kseg1"
