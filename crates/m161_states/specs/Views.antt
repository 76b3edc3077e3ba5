use Rattle.std.specs.Prelude.{ℕ, List, [], ◌∷◌, ◌++◌, length, flat_map}
use Rattle.std.specs.List.{range_with_len}
use Rattle.m161_alike.specs.Words.{board_words, flag, memory_words, optional}
use Rattle.m161_alike.specs.WordsLaw.{words_at}
use Rattle.m161_states.specs.Question.{Question, booted, processors_of}
use Rattle.m161_states.specs.System.{Explored, Flags}

-- The view of a state, by which it is known again.

abbrev pub flag_words : Flags → List ℕ
flag_words f = flag f.changed ∷ flag f.gone_on ∷ []

-- words behind their number, so that they can be told from those that come behind them
abbrev pub counted : List ℕ → List ℕ
counted words = length words ∷ words

-- what is kept beside the machine's state: the keys, the output, and the watches
abbrev pub beside_words : Explored → List ℕ
beside_words x = x.typed ∷ (optional x.agreed ++ counted (flat_map flag_words x.flags))

-- each processor; what is kept beside; the board; and memory, which alone can be long
abbrev pub view : Question → Explored → List ℕ
view q x =
    flat_map (words_at q.known x.state) (range_with_len 0 (processors_of q))
    ++ (beside_words x
    ++ (counted (board_words x.state) ++ memory_words (booted q).bytes x.state.memory))
