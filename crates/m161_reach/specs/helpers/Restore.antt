use Rattle.std.specs.Prelude.{◌≡◌, ℕ, ◌+◌, ◌*◌, ◌<◌, ◌≤◌, ◌==◌, if◌then◌else◌, List, drop, length, slice_index, take, Option, None, Some}
use Rattle.m161_cpu.specs.Processor.{Processor}
use Rattle.m161_machine.specs.State.{State, processor_at}
use Rattle.m161_alike.specs.declared.known.Known.{Known}
use Rattle.m161_alike.specs.declared.reads.Reads.{Reads}
use Rattle.m161_alike.specs.Restored.{with_ticks}
use Rattle.m161_alike.specs.RestoredBoard.{HasParts}
use Rattle.m161_alike.specs.View.{board_view, known_of, processor_view}
use Rattle.m161_alike.specs.Words.{HasSizes, processor_words}
use Rattle.m161_alike.specs.WordsLaw.{words_at}
use Rattle.m161_states.specs.System.{Explored, Flags}

-- A state that is made anew from the words of its view.

-- processor p of a state, made anew
abbrev pub remade : Known → State → ℕ → Processor
remade known s p = with_ticks (processor_view (known_of known p) (processor_at p s.processors))

-- a processor whose view has the words of another's
pub record IsAsIn (known : Reads) (q p : Processor) : Type 0 where
  pub sizes : HasSizes p
  pub words : processor_words (processor_view known p) ≡ processor_words (processor_view known q)

-- processors whose views have the words of a state's
pub record AreAsIn (known : Known) (s : State) (ps : List Processor) : Type 0 where
  pub size : length ps ≡ length s.processors
  pub sizes : (p : ℕ) → p < length s.processors → HasSizes (processor_at p ps)
  pub words : (p : ℕ) → p < length s.processors
      → processor_words (processor_view (known_of known p) (processor_at p ps)) ≡ words_at known s p

-- a state with these processors
abbrev pub with_processors : List Processor → State → State
with_processors ps s = record s { processors = ps }

-- the whole state, with these processors, as before any event
abbrev pub state_with : List Processor → State → State
state_with ps s = record s { processors = ps; board = board_view s.board; made = 0 }

abbrev pub again : List Processor → Explored → Explored
again ps x = record x { state = state_with ps x.state }

-- 245 words of each processor, one behind the other
abbrev pub AreWordsFrom : Known → State → List ℕ → Type 0
AreWordsFrom known s words =
    (p : ℕ) → p < length s.processors → take 245 (drop (245 * p) words) ≡ words_at known s p

-- as far as there are so many words, they are those of the state's processors, one behind the other
abbrev pub AreKeptFrom : Known → State → List ℕ → Type 0
AreKeptFrom known s words =
    (p : ℕ) → p < length s.processors → 245 * p + 245 ≤ length words
    → take 245 (drop (245 * p) words) ≡ words_at known s p

-- states of machines whose boards are of one configuration
pub record AreOfOneBoard (s t : State) : Type 0 where
  pub parts : HasParts s
  pub other_parts : HasParts t
  pub ram : s.board.ram ≡ t.board.ram
  pub processors : s.board.processors ≡ t.board.processors
  pub unit : s.links.unit ≡ t.links.unit

-- what is kept of watch i, by its two words
abbrev pub flags_in : List ℕ → ℕ → Flags
flags_in words i = record {
  changed = slice_index words (2 * i) == 1;
  gone_on = slice_index words (2 * i + 1) == 1;
}

-- how far the output agrees, by its two words
abbrev pub agreed_in : ℕ → ℕ → Option ℕ
agreed_in some number = if some == 1 then Some number else None
