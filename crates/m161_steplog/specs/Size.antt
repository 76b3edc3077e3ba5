use Rattle.std.specs.Prelude.{◌≡◌, ◌⊎◌, ℕ, Bool, true, false, List, [], ◌++◌, Option, codes, decimal}
use Rattle.m161_isa.specs.declared.link.LinkUnit.{LinkUnit}
use Rattle.m161_isa.specs.declared.link.LinkUnit.TheVariants as units
use Rattle.m161_text.specs.Parts.{◌␣◌, IsWord, Reads}
use Rattle.m161_steplog.specs.declared.size.MachineSize.{MachineSize}
use Rattle.m161_steplog.specs.Machine.{first_line}

-- The machine line that may be the first line of a schedule's text.

-- what it says of links: nothing where they are words
abbrev pub link_words : LinkUnit → List ℕ
link_words units.Word = []
link_words units.Line = codes " line"

-- what it says of a strict machine
abbrev pub strict_words : Bool → List ℕ
strict_words false = []
strict_words true = codes " strict"

-- the number of processors, and what its outcomes hang on
abbrev pub processors_text : MachineSize → List ℕ
processors_text size =
    decimal size.processors ++ (link_words size.mode.link ++ strict_words size.mode.strict)

-- the line, without its end
abbrev pub size_text : MachineSize → List ℕ
size_text size = codes "# machine" ␣ decimal size.ram ␣ processors_text size

-- the numbers fit their types
pub record IsMachineSize (size : MachineSize) : Type 0 where
  pub ram : IsWord size.ram
  pub processors : IsWord size.processors

-- the machine line of a schedule's text, if it has one
abbrev pub NamesSize : List ℕ → Option MachineSize → Type 0
NamesSize text size = Reads IsMachineSize size_text (first_line text) size
