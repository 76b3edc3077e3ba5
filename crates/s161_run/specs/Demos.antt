use Rattle.std.specs.Prelude.{◌≡◌, ℕ, false, List, [], ◌∷◌, Option, replicate}
use Rattle.m161_elf_writer.specs.Written.{elf_bytes}
use Rattle.m161_isa.specs.declared.link.LinkUnit.TheVariants.{Word}
use Rattle.m161_machine.specs.declared.conf.Conf.{Conf}
use Rattle.m161_machine.specs.declared.event.Event.TheVariants.{Step}
use Rattle.m161_machine.specs.declared.event.Refusal.{Refusal}
use Rattle.m161_machine.specs.History.{Continues, Ends, History}
use Rattle.m161_display.specs.Shows.{show_regs_text}
use Rattle.s161_base.specs.Faults.{BootsTo}

-- The Steps and the output of `demo`.

-- lui $8, 0x1234; ori $8, $8, 0x5678; addiu $9, $0, -1; addu $10, $8, $9; lui $11, 0x8000; sw $10,
-- 1024($11); lw $12, 1024($11)
abbrev pub demo_words : List ℕ
demo_words =
    0x3c081234 ∷ 0x35085678 ∷ 0x2409ffff ∷ 0x01095021 ∷ 0x3c0b8000 ∷ 0xad6a0400 ∷ 0x8d6c0400 ∷ []

-- the file of these words at 80000200, which is the entry
unfoldable pub demo_image : List ℕ
demo_image = elf_bytes 0x80000200 ((0x80000200, demo_words) ∷ [])

-- one processor, 1 MiB, room for seven entries, links to words, and not strict
abbrev pub demo_conf : Conf
demo_conf = record { ram = 1_048_576; processors = 1; log = 7; link = Word; strict = false }

-- a finished demo: the image is booted, seven Steps of processor 0 are made, unless one is refused,
-- and the text is its registers
pub record IsDemo (text : List ℕ) : Type 0 where
  pub booted : History
  pub boots : BootsTo demo_image demo_conf booted
  pub made : ℕ
  pub refusal : Option Refusal
  pub machine : History
  pub makes : Continues booted (replicate made (Step 0)) machine
  pub ends : Ends machine (Step 0) 7 made refusal
  pub text_is : text ≡ show_regs_text 0 machine.state
