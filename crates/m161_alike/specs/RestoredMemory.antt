use Rattle.std.specs.Prelude.{◌≡◌, ℕ, ◌+◌, nat_le, if◌then◌else◌, List, [], ◌∷◌, length}
use Rattle.m161_ram.specs.Word.{with_word}
use Rattle.m161_alike.specs.Words.{AreBytes, memory_words}

-- Memory that is made anew from the words of its view.

-- memory with a word at an address, if there is one
abbrev pub with_change : ℕ → ℕ → List ℕ → List ℕ
with_change at word memory =
    if nat_le (at + 4) (length memory) then with_word memory at word else memory

-- memory with each word at the address before it
abbrev pub with_changes : List ℕ → List ℕ → List ℕ
with_changes [] memory = memory
with_changes (at ∷ []) memory = memory
with_changes (at ∷ word ∷ rest) memory = with_changes rest (with_change at word memory)

-- the words are those of a memory of boot's size
pub record AreWordsOfMemory (boot words memory : List ℕ) : Type 0 where
  pub boot_bytes : AreBytes boot
  pub bytes : AreBytes memory
  pub size_is : length memory ≡ length boot
  pub words_are : words ≡ memory_words boot memory
