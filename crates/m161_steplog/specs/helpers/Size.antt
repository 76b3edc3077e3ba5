use Rattle.std.specs.Prelude.{◌≡◌, ◌⊎◌, ℕ, true, List, [], ◌++◌, codes, decimal, if◌then◌else◌}
use Rattle.m161_isa.specs.declared.link.LinkUnit.{LinkUnit}
use Rattle.m161_isa.specs.declared.link.LinkUnit.TheVariants as units
use Rattle.m161_text.specs.Parts.{IsWord}
use Rattle.m161_steplog.specs.declared.mode.Mode.{Mode}
use Rattle.m161_steplog.specs.Size.{link_words, strict_words}

-- How the code sees a machine line: the RAM, and then the number of processors and the mode, whose words
-- stand behind a space if there are any.

-- the words of a machine of links by line that is strict or not, and of a strict one of links by word
abbrev pub link_mode_words : LinkUnit → List ℕ
link_mode_words units.Word = codes "strict"
link_mode_words units.Line = codes "line strict"

abbrev pub mode_words : Mode → List ℕ
mode_words mode = if mode.strict then link_mode_words mode.link else codes "line"

-- there are words
abbrev pub HasWords : Mode → Type 0
HasWords mode = (mode.link ≡ units.Line) ⊎ (mode.strict ≡ true)

abbrev pub IsSizeEnd : ℕ × Mode → Type 0
IsSizeEnd t = IsWord t.0

abbrev pub size_end_text : ℕ × Mode → List ℕ
size_end_text t = decimal t.0 ++ (link_words t.1.link ++ strict_words t.1.strict)
