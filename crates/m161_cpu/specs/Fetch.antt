use Rattle.std.specs.Prelude.{ℕ, List, length, Option, None, Some, Result, Ok, Err}
use Rattle.m161_ram.specs.Word.{word_at}
use Rattle.m161_cpu.specs.declared.fault.Access.TheVariants.{Fetch}
use Rattle.m161_cpu.specs.declared.fault.StepFault.{StepFault}
use Rattle.m161_cpu.specs.Processor.{Processor}
use Rattle.m161_cpu.specs.Scene.{result_map}
use Rattle.m161_cpu.specs.Translation.{reach}

-- What a processor would fetch.

-- a word that was found
abbrev pub word_found : Result ℕ StepFault → Option ℕ
word_found (Ok word) = Some word
word_found (Err f) = None

-- the word that a processor would fetch at an address, in this memory; none where its fetch traps.
-- At pc it is the word of `word_at_pc`
unfoldable pub fetched_word : List ℕ → ℕ → Processor → Option ℕ
fetched_word memory address p =
    word_found (result_map (word_at memory) (reach Fetch 4 address (length memory) p))
