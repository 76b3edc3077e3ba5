use Rattle.std.specs.Prelude.{◌≡◌, ℕ, Bool, true, false, List, Option, IfSome, Ok, Err}
use Rattle.m161_asm.specs.Text.{Program, text}
use Rattle.m161_elf_writer.specs.Labels.{file_with_symbols}
use Rattle.m161_elf_writer.specs.Written.{elf_bytes}
use Rattle.s161_command.specs.declared.task.AssemblyTask.{AssemblyTask}
use Rattle.s161_base.specs.declared.excerpt.SourceError.{SourceError}
use Rattle.s161_base.specs.declared.fault.Fault.{Fault}
use Rattle.s161_base.specs.declared.fault.Fault.TheVariants.{Memory, Source}
use Rattle.s161_base.specs.Excerpts.{IsWordAt, characters_of}
use Rattle.s161_base.specs.Known.{IsText}

-- The file of an assembly text.

-- the file of a program, with its labels as symbols or without
abbrev pub program_file : Bool → Program → List ℕ
program_file true program = file_with_symbols program.entry program.segments program.symbols
program_file false program = elf_bytes program.entry program.segments

-- the text has a program, of which this is the file
pub record IsAssembly (symbols : Bool) (source file : List ℕ) : Type 0 where
  pub program : Program
  pub is_program : text source ≡ Ok program
  pub file_is : file ≡ program_file symbols program

-- standard input, which has these bytes, as far as they are known, is a text with this file
pub record IsAssembled
    (task : AssemblyTask) (input : Option (List ℕ)) (file : List ℕ) : Type 0 where
  pub source : List ℕ
  pub is_input : IfSome input (λ bytes. source ≡ bytes)
  pub is_text : IsText source
  pub is_assembly : IsAssembly task.symbols source file

-- a text has this first fault, at this line and column, and these characters there
abbrev pub HasError : List ℕ → SourceError → Type 0
HasError source e =
    (text source ≡ Err (e.error.line, (e.error.kind, e.error.column)))
    × IsWordAt source e.error.line e.error.column (characters_of e.word)

-- a text has no file: it has such a fault; or memory was refused
abbrev pub IsUnassembled : List ℕ → Fault → Type 0
IsUnassembled source (Source e) = HasError source e
IsUnassembled source Memory = Unit {0}
IsUnassembled source _ = ⊥
