use Rattle.std.specs.Prelude.{◌≡◌, ℕ, ◌+◌, ◌-◌, ◌*◌, ◌/◌, List, flat_map, Option, None, Some, IfSome}
use Rattle.m161_elf.specs.declared.span.Span.{Span}
use Rattle.m161_elf.specs.Header.{e_entry}
use Rattle.m161_elf.specs.Image.{IsImage, first_fault}
use Rattle.m161_elf.specs.Span.{spans}
use Rattle.m161_dis.specs.declared.naming.Style.{Style}
use Rattle.m161_display.specs.Shows.{code_line, numbered_lines}
use Rattle.m161_text.specs.Lines.{text_of}
use Rattle.s161_command.specs.declared.task.ListingTask.{ListingTask}
use Rattle.s161_base.specs.Naming.{style_of}
use Rattle.s161_base.specs.declared.fault.Fault.{Fault}
use Rattle.s161_base.specs.declared.fault.Fault.TheVariants.{Image, Memory}
use Rattle.s161_base.specs.declared.fault.Unloaded.TheVariants.{Load}

-- The listing of a file: the instructions that its segments leave in memory.

-- the first multiple of 4 from an address on
abbrev pub aligned_up : ℕ → ℕ
aligned_up address = (address + 3) / 4 * 4

-- how many whole words a span has from there on
abbrev pub whole_words : Span → ℕ
whole_words span = (span.address + span.size - aligned_up span.address) / 4

-- a line for each of them, as memory has it: its address with its place, its word, and the word's text
abbrev pub span_text : Style → List ℕ → Span → List ℕ
span_text style memory span =
    text_of
    (numbered_lines (whole_words span)
    (λ i. code_line style memory (aligned_up span.address + 4 * i)))

abbrev pub dis_text : Style → List ℕ → List Span → List ℕ
dis_text style memory = flat_map (span_text style memory)

-- the largest RAM, into which a file is loaded for its listing
abbrev pub dis_ram : ℕ
dis_ram = 16777216

-- the text is the listing of a file without a fault
pub record IsListing (style : Style) (file text : List ℕ) : Type 0 where
  pub loads : first_fault file dis_ram ≡ None
  pub memory : List ℕ
  pub is_image : IsImage file dis_ram (e_entry file) memory
  pub text_is : text ≡ dis_text style memory (spans file)

-- an image, which has these bytes, as far as they are known, has this listing
pub record IsDisassembled
    (task : ListingTask) (image : Option (List ℕ)) (text : List ℕ) : Type 0 where
  pub file : List ℕ
  pub is_file : IfSome image (λ bytes. file ≡ bytes)
  pub is_listing : IsListing (style_of task.registers task.symbols task.image.now file) file text

-- a file has no listing: it has this first fault; or it has no fault, and memory was refused
abbrev pub IsUnlisted : List ℕ → Fault → Type 0
IsUnlisted file (Image (Load e)) = first_fault file dis_ram ≡ Some e
IsUnlisted file Memory = first_fault file dis_ram ≡ None
IsUnlisted file _ = ⊥
