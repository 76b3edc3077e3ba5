use Rattle.std.specs.Prelude.{ℕ, Bool, if◌then◌else◌, bytes_eq, codes, List, []}
use Rattle.m161_dis.specs.declared.naming.Naming.{Naming}
use Rattle.m161_dis.specs.declared.naming.Naming.TheVariants.{Numbers, Names}
use Rattle.m161_dis.specs.declared.naming.Style.{Style}
use Rattle.m161_symbols.specs.Names.{names_in}
use Rattle.s161_base.specs.Samples.{sample_labels}
use Rattle.s161_command.specs.declared.task.Registers.{Registers}
use Rattle.s161_command.specs.declared.task.Registers.TheVariants.{Numbered, Named}

-- How registers and addresses are shown in instructions.

-- as a command's option has it
abbrev pub naming_of : Registers → Naming
naming_of Numbered = Numbers
naming_of Named = Names

-- the symbols by which an image's addresses are named: the sample's are the labels of its source,
-- those of another the symbols of its file
unfoldable pub image_symbols : List ℕ → List ℕ → List (List ℕ × ℕ)
image_symbols name file = if bytes_eq name (codes "@sample") then sample_labels else names_in file

-- as a command's options have it for an image of this name, with this file
abbrev pub style_of : Registers → Bool → List ℕ → List ℕ → Style
style_of registers symbols name file = record {
  registers = naming_of registers;
  symbols = if symbols then image_symbols name file else [];
}
